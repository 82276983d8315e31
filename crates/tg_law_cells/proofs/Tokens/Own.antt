-- The law on pages.
use Rattle.std.proofs.Common.{◌∙◌, ℕ, List, [], sym, subst}
use Rattle.tg_base.specs.Clusters.{Header}
use Rattle.tg_base.specs.declared.ids.NodeId.{NodeId}
use Rattle.tg_base.specs.declared.msg.Msg.{Msg}
use Rattle.tg_kind.specs.Meaning.{Meaning}
use Rattle.tg_protocol.specs.Words.{seqr_id, client_id, numbers}
use Rattle.tg_protocol.specs.Layouts.{first_layout}
use Rattle.tg_protocol.specs.Sequencers.{SeqrState, new_seqr}
use Rattle.tg_protocol.specs.Clients.{Client, new_client}
use Rattle.tg_protocol.specs.Worlds.{World, start}
use Rattle.tg_protocol.specs.Runs.{Moves, Always}
use Rattle.tg_law_layouts.specs.Moves.After.{after}
use Rattle.tg_law_layouts.proofs.Moves.Always.{always}
use Rattle.tg_law_layouts.proofs.Moves.Members.{has_contained}
use Rattle.tg_law_layouts.specs.Moves.Configs.{Config, config}
use Rattle.tg_law_layouts.proofs.Moves.Lists.{contained, at_map}
use Rattle.tg_law_layouts.proofs.Moves.Moves.{Keeps, cases_map, keeps_above, run_keeps}
use Rattle.tg_law_cells.specs.Tokens.Issuing.{IsOwnPage, PagesOwn}
use Rattle.tg_law_layouts.proofs.Requests.Starts.{All}
use Rattle.tg_law_cells.proofs.Cells.Owned as stores
use Rattle.tg_law_cells.proofs.Cells.Owned.{owned_keep, start_owned}
use Rattle.tg_law_cells.proofs.Tokens.Owning.{Owned}
use Rattle.tg_law_cells.proofs.Tokens.Jobs.{MaybeOk}
use Rattle.tg_law_cells.proofs.Tokens.Hands as hands
use Rattle.tg_law_cells.proofs.Tokens.Sent.{Justified}
use Rattle.tg_law_cells.proofs.Tokens.Issues as issues
use Rattle.tg_law_cells.proofs.Tokens.Issues.{low_keeps, start_low}
use Rattle.tg_law_cells.proofs.Tokens.Pages.{Pages, Low, pages_keep}

module _ (m : Meaning) where
  start_client : (h : Header) (n : NodeId) (k : ℕ) → hands.WorkOk m [] n (new_client m h k).stand (new_client m h k).work
  unfolding new_client
  start_client h n k = tt

  start_scan : (h : Header) (n : NodeId) (s : ℕ) → MaybeOk [] n (new_seqr s h.limit (first_layout h)).proj (new_seqr s h.limit (first_layout h)).scan
  unfolding new_seqr
  start_scan h n s = tt

  pub start_pages : (h : Header) → Pages m (config m (start m h))
  unfolding start
  start_pages h = record {
    hands = λ k. at_map (new_client m h) (numbers h.clients 0) k (new_client m h k) (λ (x : Client m). hands.WorkOk m [] (client_id k) x.stand x.work) (λ j. start_client h (client_id k) j) (start_client h (client_id k) k);
    scans = λ s. at_map (λ n. new_seqr n h.limit (first_layout h)) (numbers h.seqs 0) s (new_seqr s h.limit (first_layout h)) (λ (x : SeqrState). MaybeOk [] (seqr_id s) x.proj x.scan) (λ j. start_scan h (seqr_id s) j) (start_scan h (seqr_id s) s);
    sent = λ x g. absurd g;
  }

  abbrev pub Base : Config m → Type 0
  Base c = issues.Low m c × stores.Owned m c

  base_keeps : Keeps m Base
  base_keeps = keeps_above m (issues.Low m) (stores.Owned m) (low_keeps m) (λ c a f. cases_map m c (λ d. All m d → stores.Owned m d) (λ d. issues.Low m d → stores.Owned m d) (λ d g y. g y.0) (owned_keep m c a.0 f))

  pub low_of : (c : Config m) → Base c → Low m c
  low_of c a = record { all = a.0.0; issuing = a.0.1; stores = a.1 }

  pub keeps : Keeps m (λ c. Base c × Pages m c)
  keeps = keeps_above m Base (Pages m) base_keeps (λ c a f. cases_map m c (Pages m) (λ d. Base d → Pages m d) (λ d x y. x) (pages_keep m c (low_of c a) f))

  pub both_hold : (h : Header) (xs : Moves m) → Base (config m (after m h xs)) × Pages m (config m (after m h xs))
  both_hold h xs = run_keeps m (λ c. Base c × Pages m c) keeps xs (start m h) ((start_low m h, start_owned m h), start_pages h)

  pub pages_hold : (h : Header) (xs : Moves m) → Pages m (config m (after m h xs))
  pages_hold h xs = (both_hold h xs).1

  pub own_page : (w : World m) (n : NodeId) (e p : ℕ) (d : List ℕ) → Owned w.packets n e p d → IsOwnPage m w n e p d
  own_page w n e p d o = record {
    seqr = o.seqr;
    draft = o.draft;
    links = o.links;
    issued = record {
      ask = o.pair.ask;
      answer = o.pair.answer;
      asked = contained w.packets o.pair.ask o.pair.asked;
      answered = contained w.packets o.pair.answer o.pair.answered;
      to_seqr = o.pair.to_seqr;
      from_seqr = o.pair.from_seqr;
      back = o.pair.back ∙ sym o.pair.by;
      number = o.pair.number;
      asks = o.pair.asks;
      issues = o.pair.issues;
    };
    own = o.pair.by;
    names = o.names;
    is = o.page;
  }

  own_here : (h : Header) (xs : Moves m) → PagesOwn m (after m h xs)
  own_here h xs x e p d g is = own_page _ x.from e p d (subst (λ (y : Msg). Justified (after m h xs).packets x.from x.to y) is ((pages_hold h xs).sent x (has_contained _ x g)))

  pub pages_are_own : Always m (PagesOwn m)
  pages_are_own = always m (PagesOwn m) own_here
