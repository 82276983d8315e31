-- Drafts fit, in every run.
use Rattle.std.proofs.Common.{◌≡◌, ℕ, ◌≤◌, List, sym, ap, ◌∙◌}
use Rattle.tg_base.specs.Clusters.{Header, IsHeader}
use Rattle.tg_base.specs.declared.packet.Packet.{Packet}
use Rattle.tg_entry.specs.declared.entry.Head.{Head}
use Rattle.tg_kind.specs.Meaning.{Meaning}
use Rattle.tg_protocol.specs.Words.{client_id}
use Rattle.tg_entry.specs.Records.{linked}
use Rattle.tg_protocol.specs.Pages.{entry_of}
use Rattle.tg_protocol.specs.Runs.{Moves, most_steps, LawfulCommand, Always}
use Rattle.tg_law_layouts.specs.Moves.After.{after}
use Rattle.tg_law_layouts.proofs.Moves.Lists.{contained}
use Rattle.tg_law_layouts.proofs.Moves.Members.{has_contained}
use Rattle.tg_law_layouts.proofs.Moves.Moves.{AllGive}
use Rattle.tg_law_walks.proofs.Drafts.Asked.{token_once}
use Rattle.tg_law_walks.proofs.Drafts.Drafts.{twin_of, always_short}
use Rattle.tg_law_walks.proofs.Drafts.Heads.{head_read}
use Rattle.tg_law_walks.proofs.Drafts.Senders.{sender}
use Rattle.tg_law_walks.proofs.Drafts.Written.{Drafted, written}
use Rattle.tg_law_walks.specs.Lists.Drafted.{IsFitPage, DraftsFit}

module _ (m : Meaning) (h : Header) (zs : Moves m) (header : IsHeader h) (give : AllGive m (LawfulCommand m) zs) (short : (after m h zs).steps ≤ most_steps) where
  fit_page : (x : Packet) (epoch pos : ℕ) (page : List ℕ) → x.from ≡ client_id x.from.num → Drafted m h zs header give short x.from.num epoch pos page → IsFitPage m (after m h zs) x.from epoch pos page
  fit_page x epoch pos page from d = record {
    own = record {
      seqr = d.seqr;
      draft = d.append.draft;
      links = d.links;
      issued = record {
        ask = d.pair.ask;
        answer = d.pair.answer;
        asked = contained (after m h zs).packets d.pair.ask d.pair.asked;
        answered = contained (after m h zs).packets d.pair.answer d.pair.answered;
        to_seqr = d.pair.to_seqr;
        from_seqr = d.pair.from_seqr;
        back = d.pair.back ∙ sym d.pair.by;
        number = d.pair.number;
        asks = d.pair.asks;
        issues = d.pair.issues;
      };
      own = d.pair.by ∙ sym from;
      names = d.names;
      is = d.page;
    };
    reads = λ e i. ap (λ (y : Head). y.streams) (head_read (linked d.append.draft d.links) e (twin_of d.append.draft d.links d.names d.ok.fits) (ap entry_of (sym d.page) ∙ i)).head;
  }

  fits_here : DraftsFit m (after m h zs)
  fits_here = record {
    pages = λ x epoch pos page i is.
        let g = has_contained (after m h zs).packets x i in
        let from = sender m h zs x g epoch pos page is in
        fit_page x epoch pos page from ((written m h zs header give short).sent x g x.from.num from epoch pos page is);
    tokens = λ x epoch os i is. token_once m h zs header give short x epoch os (has_contained (after m h zs).packets x i) is;
  }

module _ (m : Meaning) where
  pub drafts_fit : Always m (DraftsFit m)
  drafts_fit h ms w r = always_short m (λ g xs v. DraftsFit m v) (λ g xs header give short. fits_here m g xs header give short) h ms w r
