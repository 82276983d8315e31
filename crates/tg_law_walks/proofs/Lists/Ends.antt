-- What the log of a run's last world has, and with whose tokens.
use Rattle.std.proofs.Common.{◌≡◌, ℕ, ◌<◌, List, [], true, map, refl, sym, ap, ◌∙◌, subst, Some, None, Option}
use Rattle.tg_base.specs.Clusters.{Header}
use Rattle.tg_base.specs.declared.cell.Cell.{Cell}
use Rattle.tg_base.specs.declared.cell.Cell.TheVariants.{Junk, Data}
use Rattle.tg_base.specs.declared.ids.Oid.{Oid}
use Rattle.tg_base.specs.declared.marks.StreamLink.{StreamLink}
use Rattle.tg_base.specs.declared.packet.Packet.{Packet}
use Rattle.tg_entry.specs.declared.entry.Entry.{Entry}
use Rattle.tg_kind.specs.Meaning.{Meaning}
use Rattle.std.specs.List.{list_any}
use Rattle.tg_protocol.specs.Words.{cell_at}
use Rattle.tg_base.specs.Orders.{oid_eq}
use Rattle.tg_protocol.specs.Entries.{lists, oid_of_link, streams_of}
use Rattle.tg_protocol.specs.Pages.{entry_of, cell_entry}
use Rattle.tg_protocol.specs.Logs.{Log}
use Rattle.tg_protocol.specs.Sequencers.{cell_streams, entry_streams}
use Rattle.tg_protocol.specs.Worlds.{log}
use Rattle.tg_protocol.specs.Runs.{Moves, Reaches, Later, run}
use Rattle.tg_law_layouts.specs.Moves.After.{after}
use Rattle.tg_law_layouts.proofs.Moves.Lists.{contained}
use Rattle.tg_law_layouts.proofs.Moves.Members.{Has, has_contained}
use Rattle.tg_law_layouts.proofs.Requests.Starts.{numbers_are_unique}
use Rattle.tg_law_cells.specs.Cells.Settled.{IsSettled}
use Rattle.tg_law_cells.proofs.Cells.Settling.{one_is_settled}
use Rattle.tg_law_cells.specs.Tokens.Issuing.{Issued}
use Rattle.tg_law_cells.proofs.Tokens.Issues.{token_asks, token_streams, issued_once}
use Rattle.tg_law_cells.proofs.Tokens.Named.{one_issuer}
use Rattle.tg_law_cells.specs.Homes.Homes.{Home}
use Rattle.tg_law_cells.proofs.Homes.Homes.{settled_has_home}
use Rattle.tg_law_cells.specs.Entries.Archive.{TrimsWereSafe, LogIsSettled}
use Rattle.tg_law_cells.proofs.Entries.Archive.{log_is_settled}
use Rattle.tg_law_cells.proofs.Entries.Lists.{read_has, has_read}
use Rattle.tg_law_walks.specs.Walks.Streams.{entry_lists, stands_in}
use Rattle.tg_law_walks.specs.Walks.Lists.{AreOnce}
use Rattle.tg_law_walks.specs.Lists.Drafted.{IsFitPage, DraftsFit}
use Rattle.tg_law_walks.proofs.Lists.Grammar.{names_streams, listed_has}

-- where a position stands in a stream, there is the page of an entry that lists it
pub record PageAt (l : Log) (o : Oid) (q : ℕ) : Type 0 where
  pub page : List ℕ
  pub here : cell_at l q ≡ Some (Data page)
  pub entry : Entry
  pub reads : entry_of page ≡ Some entry
  pub stands : lists entry o ≡ true

pub page_at : (l : Log) (o : Oid) (q : ℕ) → stands_in l o q ≡ true → PageAt l o q
page_at l o q h = by (cell_at l q) refl h
  where
    of_entry : (d : List ℕ) → cell_at l q ≡ Some (Data d) → (x : Option Entry) → entry_of d ≡ x → entry_lists o x ≡ true → PageAt l o q
    of_entry d e None i t = absurd (cc)
    of_entry d e (Some n) i t = record { page = d; here = e; entry = n; reads = i; stands = t }

    by : (c : Option Cell) → cell_at l q ≡ c → entry_lists o (cell_entry c) ≡ true → PageAt l o q
    by None e t = absurd (cc)
    by (Some Junk) e t = absurd (cc)
    by (Some (Data d)) e t = of_entry d e (entry_of d) refl t

pub stands_there : (l : Log) (o : Oid) (q : ℕ) (d : List ℕ) (n : Entry) → cell_at l q ≡ Some (Data d) → entry_of d ≡ Some n → lists n o ≡ true → stands_in l o q ≡ true
stands_there l o q d n e i t = ap (λ c. entry_lists o (cell_entry c)) e ∙ (ap (entry_lists o) i ∙ t)

module _ (m : Meaning) (h : Header) (zs : Moves m) (r : Reaches m h zs (after m h zs)) where
  -- Two tokens of one position in one epoch are one.
  pub same_streams : (s z epoch pos : ℕ) (os oz : List Oid) (ls ks : List StreamLink) → Issued m (after m h zs) s epoch pos os ls → Issued m (after m h zs) z epoch pos oz ks → 0 < epoch → os ≡ oz
  same_streams s z epoch pos os oz ls ks a b some = by (subst (λ n. Issued m (after m h zs) n epoch pos oz ks) (sym (one_issuer m h zs (after m h zs) r s z epoch pos pos os oz ls ks a b some)) b)
    where
      by : Issued m (after m h zs) s epoch pos oz ks → os ≡ oz
      by c =
          let e : a.answer ≡ c.answer = issued_once m h zs (after m h zs) r s epoch pos os oz ls ks a c in
          let same = numbers_are_unique m h zs (after m h zs) r a.ask c.ask a.asked c.asked (token_asks a.ask.msg epoch os a.asks) (token_asks c.ask.msg epoch oz c.asks)
          (sym a.back ∙ (ap (λ (x : Packet). x.to) e ∙ c.back)) (a.to_seqr ∙ sym c.to_seqr) (sym a.number ∙ (ap (λ (x : Packet). x.rid) e ∙ c.number)) in
          token_streams epoch epoch os oz (sym a.asks ∙ (same ∙ c.asks))

  now : Later m (after m h zs) (after m h zs)
  unfolding run
  now = ([], record { lawful = λ x c. absurd (has_contained [] x c); is = refl; few = r.goes.few })

  module _ (safe : TrimsWereSafe m h zs) where
    log_settled : LogIsSettled m (after m h zs)
    log_settled = log_is_settled m h zs (after m h zs) r safe

    pub settled_of : (p : ℕ) (c : Cell) → cell_at (log m (after m h zs)) p ≡ Some c → IsSettled m (after m h zs) p c
    settled_of p c e = log_settled.settled p c (contained (log m (after m h zs)) (p, c) (read_has (log m (after m h zs)) p c e))

    pub cell_of : (p : ℕ) (c : Cell) → IsSettled m (after m h zs) p c → cell_at (log m (after m h zs)) p ≡ Some c
    cell_of p c s = by (has_read (log m (after m h zs)) p c (has_contained (log m (after m h zs)) (p, c) (log_settled.has p c s)))
      where
        by : (d : Cell) × (cell_at (log m (after m h zs)) p ≡ Some d) → cell_at (log m (after m h zs)) p ≡ Some c
        by a = a.1 ∙ ap (λ (y : Cell). Some y) (one_is_settled m h zs (after m h zs) (after m h zs) r now p a.0 c (settled_of p a.0 a.1) s)

  -- A settled page is that of a draft, with the links of a token of its home.
  module _ (fit : DraftsFit m (after m h zs)) (p : ℕ) (d : List ℕ) (s : IsSettled m (after m h zs) p (Data d)) where
    pub home : Home m (after m h zs) p d s.layout.epoch
    home = settled_has_home m h zs (after m h zs) r p d s

    pub fit_page : IsFitPage m (after m h zs) home.write.from home.epoch p d
    fit_page = fit.pages home.write home.epoch p d home.sent home.is

    -- an entry that is read of it has these links
    pub links_there : (n : Entry) → entry_of d ≡ Some n → n.head.streams ≡ fit_page.own.links
    links_there n e = fit_page.reads n e

    pub streams_there : (n : Entry) (o : Oid) → entry_of d ≡ Some n → lists n o ≡ true → Has (streams_of fit_page.own.draft) o
    streams_there n o e t =
        subst (λ (os : List Oid). Has os o) (names_streams (streams_of fit_page.own.draft) fit_page.own.links fit_page.own.names)
        (listed_has fit_page.own.links o (subst (λ (ls : List StreamLink). list_any (λ (k : StreamLink). oid_eq k.oid o) ls ≡ true) (links_there n e) t))

    asked_once : AreOnce (streams_of fit_page.own.draft)
    asked_once = fit.tokens fit_page.own.issued.ask home.epoch (streams_of fit_page.own.draft) fit_page.own.issued.asked fit_page.own.issued.asks

    page_once : AreOnce (cell_streams (Data d))
    page_once = by (entry_of d) refl
      where
        by : (x : Option Entry) → entry_of d ≡ x → AreOnce (entry_streams x)
        by None e = tt
        by (Some n) e = subst AreOnce (sym (ap (λ (ls : List StreamLink). map oid_of_link ls) (links_there n e) ∙ names_streams (streams_of fit_page.own.draft) fit_page.own.links fit_page.own.names)) asked_once

  pub once_there : (fit : DraftsFit m (after m h zs)) (p : ℕ) (c : Cell) → IsSettled m (after m h zs) p c → AreOnce (cell_streams c)
  once_there fit p Junk s = tt
  once_there fit p (Data d) s = page_once fit p d s
