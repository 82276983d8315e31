-- Lists are full in every run: those of the log's entries, and those that were told with a tail.
use Rattle.std.proofs.Common.{◌≡◌, ◌⊎◌, ℕ, ◌+◌, ◌<◌, ◌≤◌, List, [], ◌∷◌, length, Bool, true, false, refl, sym, ap, ◌∙◌, subst, inl, inr, arith, Option, Some, None, filter, cond, append-nil}
use Rattle.std.specs.Prelude.{nat_lt, ◌==◌, Contains}
use Rattle.std.proofs.lemmas.Bool.Decides.{nat_tests}
use Rattle.tg_base.specs.Clusters.{Header}
use Rattle.tg_base.specs.Layouts.{Layout}
use Rattle.tg_base.specs.declared.cell.Cell.{Cell}
use Rattle.tg_base.specs.declared.cell.Cell.TheVariants.{Junk, Data}
use Rattle.tg_base.specs.declared.ids.Oid.{Oid}
use Rattle.tg_base.specs.declared.marks.StreamLink.{StreamLink}
use Rattle.tg_entry.specs.declared.entry.Entry.{Entry}
use Rattle.tg_kind.specs.Meaning.{Meaning}
use Rattle.tg_protocol.specs.Words.{cell_at, where_true}
use Rattle.tg_protocol.specs.Entries.{lists, backs_in, streams_of}
use Rattle.tg_protocol.specs.Pages.{entry_of}
use Rattle.tg_protocol.specs.Walking.{listed, pointers_at}
use Rattle.tg_protocol.specs.Chosen.{IsDecided}
use Rattle.tg_protocol.specs.Worlds.{World, log}
use Rattle.tg_protocol.specs.Runs.{Moves, Reaches, Passes}
use Rattle.tg_law_layouts.specs.Moves.After.{after}
use Rattle.tg_law_layouts.proofs.Moves.Lists.{contained}
use Rattle.tg_law_layouts.proofs.Layouts.Deciding.{one_layout, layouts_are_sound}
use Rattle.tg_law_cells.specs.Cells.Settled.{IsSettled}
use Rattle.tg_law_cells.specs.Tokens.Issuing.{Issued}
use Rattle.tg_law_cells.specs.Tokens.Listing.{IsListed}
use Rattle.tg_law_cells.proofs.Tokens.Named.{issuer_is_named}
use Rattle.tg_law_cells.specs.Homes.Homes.{Home}
use Rattle.tg_law_cells.specs.Order.Tails.{ConfirmedTail}
use Rattle.tg_law_cells.proofs.Order.Tails.{starts_past}
use Rattle.tg_law_walks.specs.Walks.Streams.{AreFalling}
use Rattle.tg_law_walks.specs.Walks.Lists.{backs}
use Rattle.tg_law_walks.specs.Lists.Drafted.{IsFitPage, DraftsFit}
use Rattle.tg_law_walks.specs.Lists.Lists.{Counts}
use Rattle.tg_law_walks.specs.Lists.Spared.{TrimsWereSpare}
use Rattle.tg_law_walks.specs.Lists.Telling.{asks_links, tells_links, ToldLinks, AlwaysBySpareTrims}
use Rattle.tg_law_walks.proofs.Lists.Ends.{settled_of, home, fit_page, links_there, streams_there}
use Rattle.tg_law_walks.proofs.Lists.Safe.{safe_of}
use Rattle.tg_law_walks.proofs.Lists.Fits.{drafts_fit}
use Rattle.tg_law_walks.proofs.Lists.Telling.{links_are_true, entries_are_good}
use Rattle.tg_law_syncs.specs.Settling.Visits.{IsFull, IsIssuedTo, EntriesFull, TailsFull}
use Rattle.tg_law_syncs.proofs.Settling.Told.{told_lists_are_full}

-- What the cell at a position says of a stream.

some_list : (a b : List ℕ) → Some a ≡ Some b → a ≡ b
some_list a b e = cc

record Pointed (o : Oid) (q : ℕ) (c : Cell) (ps : List ℕ) : Type 0 where
  page : List ℕ
  is : c ≡ Data page
  entry : Entry
  reads : entry_of page ≡ Some entry
  stands : lists entry o ≡ true
  points : filter (λ b. nat_lt b q) (backs_in entry o) ≡ ps

pointed : (o : Oid) (q : ℕ) (c : Cell) (ps : List ℕ) → pointers_at o q c ≡ Some ps → Pointed o q c ps
pointed o q Junk ps e = absurd (cc)
pointed o q (Data d) ps e = by (entry_of d) refl e
  where
    of_if : (n : Entry) → entry_of d ≡ Some n → (b : Bool) → lists n o ≡ b → where_true b (filter (λ y. nat_lt y q) (backs_in n o)) ≡ Some ps → Pointed o q (Data d) ps
    of_if n r true t f = record { page = d; is = refl; entry = n; reads = r; stands = t; points = some_list _ ps f }
    of_if n r false t f = absurd (cc)

    by : (x : Option Entry) → entry_of d ≡ x → listed o q x ≡ Some ps → Pointed o q (Data d) ps
    by None r f = absurd (cc)
    by (Some n) r f = of_if n r (lists n o) refl f

falls_more : (x y : ℕ) (ps : List ℕ) → x ≤ y → AreFalling x ps → AreFalling y ps
falls_more x y [] le h = tt
falls_more x y (p ∷ ps) le h = (let less = h.0 in omega (arith, less, le), h.1)

all_below : (x : ℕ) (ps : List ℕ) → AreFalling x ps → filter (λ b. nat_lt b x) ps ≡ ps
all_below x [] h = refl
all_below x (p ∷ ps) h = ap (λ (b : Bool). cond b (p ∷ filter (λ y. nat_lt y x) ps) (filter (λ y. nat_lt y x) ps)) (is p h.0) ∙ ap (λ (qs : List ℕ). p ∷ qs) (all_below x ps (falls_more p x ps (le p h.0) h.1))
  where
    is : (q : ℕ) → q < x → nat_lt q x ≡ true
    is q less = grind (arith, nat_tests)

    le : (q : ℕ) → q < x → q ≤ x
    le q less = omega (arith, less)

-- a token's answer tells its links
told_of : (m : Meaning) (w : World m) (s epoch pos : ℕ) (os : List Oid) (ls : List StreamLink) → Issued m w s epoch pos os ls → ToldLinks m w s epoch os pos ls
unfolding asks_links tells_links
told_of m w s epoch pos os ls i = record {
  ask = i.ask;
  answer = i.answer;
  asked = i.asked;
  answered = i.answered;
  to_seqr = i.to_seqr;
  from_seqr = i.from_seqr;
  back = i.back;
  number = i.number;
  asks = ap asks_links i.asks;
  tells = ap tells_links i.issues;
}

is_four : (n : ℕ) → n ≡ 4 → (n == 4) ≡ true
is_four n e = grind arith

parted : (a b : ℕ) → (a ≡ b) ⊎ ((a < b) ⊎ (b < a))
parted a b = grind arith

module _ (m : Meaning) (h : Header) (zs : Moves m) (r : Reaches m h zs (after m h zs)) (trims : TrimsWereSpare m h zs) (fit : DraftsFit m (after m h zs)) where
  abbrev Settles : ℕ → Oid → ℕ → Type 0
  Settles epoch o q = IsIssuedTo m (after m h zs) epoch o q

  here : Passes m h zs (after m h zs)
  here = record { before = zs; after = []; split = sym (append-nil zs); is = refl }

  -- of one sequencer's list
  told_full : (s epoch pos : ℕ) (os : List Oid) (ls : List StreamLink) (o : Oid) → ToldLinks m (after m h zs) s epoch os pos ls → Contains os o → Counts m (after m h zs) epoch pos
      → ((q : ℕ) → (i : Settles epoch o q) → i.seqr ≡ s) → IsFull (Settles epoch o) pos (backs o ls)
  told_full s epoch pos os ls o t i counts one = record {
    falling = (links_are_true m h zs (after m h zs) r trims s epoch pos os ls o t counts i).falling;
    all = λ q k less. by q (told_lists_are_full m h zs (after m h zs) r s epoch q pos k.streams os k.links ls (subst (λ (n : ℕ). Issued m (after m h zs) n epoch q k.streams k.links) (one q k) k.issued) t less o k.here i);
  }
    where
      by : (q : ℕ) → IsListed q (backs o ls) → Contains (backs o ls) q ⊎ (((length (backs o ls) == 4) ≡ true) × ((y : ℕ) → Contains (backs o ls) y → q ≤ y))
      by q (inl c) = inl c
      by q (inr k) = inr (is_four (length (backs o ls)) k.0, k.1)

  module _ (epoch tail : ℕ) (t : ConfirmedTail m (after m h zs) (after m h zs) epoch tail) where
    -- the epoch's layout names who issues in it, and starts no higher
    named : (s q : ℕ) (os : List Oid) (ls : List StreamLink) → Issued m (after m h zs) s epoch q os ls → (s ≡ t.layout.seq) × (t.layout.start ≤ q)
    named s q os ls i =
        let n = issuer_is_named m h zs (after m h zs) r s epoch q os ls i t.some in
        let same = one_layout m h zs (after m h zs) r epoch n.layout t.layout n.decided t.decided in
        (sym n.names ∙ ap (λ (p : Layout). p.seq) same, subst (λ (p : Layout). p.start ≤ q) same n.past)

    -- each later layout starts at the tail or past it
    later_past : (other : ℕ) (q : Layout) → IsDecided m (after m h zs) other q → epoch < other → tail ≤ q.start
    later_past other q d less =
        let at = (layouts_are_sound m h zs (after m h zs) r other q d).epoch in
        starts_past m h zs (after m h zs) (after m h zs) r here epoch tail t q (subst (λ (e : ℕ). IsDecided m (after m h zs) e q) (sym at) d) (omega (arith, less, at))

    counts : (pos : ℕ) → pos ≤ tail → Counts m (after m h zs) epoch pos
    counts pos le = record { some = t.some; before = λ q d. let past = later_past (epoch + 1) q d (omega arith) in omega (arith, le, past) }

    pub tail_full : (os : List Oid) (ls : List StreamLink) (o : Oid) → ToldLinks m (after m h zs) t.layout.seq epoch os tail ls → Contains os o → IsFull (Settles epoch o) tail (backs o ls)
    tail_full os ls o k i = told_full t.layout.seq epoch tail os ls o k i (counts tail (omega arith)) (λ q j. (named j.seqr q j.streams j.links j.issued).0)

    module _ (o : Oid) (q : ℕ) (c : Cell) (ps : List ℕ) (less : q < tail) (cell : cell_at (log m (after m h zs)) q ≡ Some c) (e : pointers_at o q c ≡ Some ps) where
      k : Pointed o q c ps
      k = pointed o q c ps e

      set : IsSettled m (after m h zs) q (Data k.page)
      set = settled_of m h zs r (safe_of m h zs r trims) q (Data k.page) (cell ∙ ap (λ (x : Cell). Some x) k.is)

      abbrev home' : Home m (after m h zs) q k.page set.layout.epoch
      home' = home m h zs r fit q k.page set

      abbrev page : IsFitPage m (after m h zs) home'.write.from home'.epoch q k.page
      page = fit_page m h zs r fit q k.page set

      streams : Contains (streams_of page.own.draft) o
      streams = contained (streams_of page.own.draft) o (streams_there m h zs r fit q k.page set k.entry o k.reads k.stands)

      falls : AreFalling q ps
      falls = (entries_are_good m h zs (after m h zs) r trims o q c ps cell e).falling

      -- a token of the epoch: its links are full
      own_epoch : home'.epoch ≡ epoch → IsFull (Settles epoch o) q ps
      own_epoch at = subst (λ (xs : List ℕ). IsFull (Settles epoch o) q xs) (sym (all_below q (backs o page.own.links) full.falling) ∙ (ap (λ (ls : List StreamLink). filter (λ y. nat_lt y q) (backs o ls)) (sym (links_there m h zs r fit q k.page set k.entry k.reads)) ∙ k.points)) full
        where
          issued : Issued m (after m h zs) page.own.seqr epoch q (streams_of page.own.draft) page.own.links
          issued = subst (λ (n : ℕ). Issued m (after m h zs) page.own.seqr n q (streams_of page.own.draft) page.own.links) at page.own.issued

          full : IsFull (Settles epoch o) q (backs o page.own.links)
          full = told_full page.own.seqr epoch q (streams_of page.own.draft) page.own.links o (told_of m (after m h zs) page.own.seqr epoch q (streams_of page.own.draft) page.own.links issued) streams (counts q (omega (arith, less)))
              (λ z j. (named j.seqr z j.streams j.links j.issued).0 ∙ sym (named page.own.seqr q (streams_of page.own.draft) page.own.links issued).0)

      -- of an earlier one: nothing of the epoch lies below it
      older : home'.epoch < epoch → IsFull (Settles epoch o) q ps
      older before = record { falling = falls; all = λ z j lt. absurd (none z j lt) }
        where
          none : (z : ℕ) → Settles epoch o z → z < q → ⊥
          none z j lt =
              let at = (layouts_are_sound m h zs (after m h zs) r epoch t.layout t.decided).epoch in
              let low = home'.past t.layout (subst (λ (n : ℕ). IsDecided m (after m h zs) n t.layout) (sym at) t.decided) (omega (arith, before, at)) in
              let up = (named j.seqr z j.streams j.links j.issued).1 in
              omega (arith, low, up, lt)

      -- none is of a later one
      newer : epoch < home'.epoch → IsFull (Settles epoch o) q ps
      newer past =
          let some = t.some in
          let n = issuer_is_named m h zs (after m h zs) r page.own.seqr home'.epoch q (streams_of page.own.draft) page.own.links page.own.issued (omega (arith, some, past)) in
          let low = later_past home'.epoch n.layout n.decided past in
          let up = n.past in
          absurd (omega (arith, low, up, less))

      pub entry_full : IsFull (Settles epoch o) q ps
      entry_full = by (parted home'.epoch epoch)
        where
          by : (home'.epoch ≡ epoch) ⊎ ((home'.epoch < epoch) ⊎ (epoch < home'.epoch)) → IsFull (Settles epoch o) q ps
          by (inl at) = own_epoch at
          by (inr (inl before)) = older before
          by (inr (inr past)) = newer past

module _ (m : Meaning) where
  by_run : (P : World m → Type 0) → ((h : Header) (ms : Moves m) → Reaches m h ms (after m h ms) → TrimsWereSpare m h ms → DraftsFit m (after m h ms) → P (after m h ms)) → AlwaysBySpareTrims m P
  by_run P f h ms w r trims =
      let here = subst (λ (u : World m). Reaches m h ms u) r.goes.is r in
      subst P (sym r.goes.is) (f h ms here trims (drafts_fit m h ms (after m h ms) here))

  pub entries_are_full : AlwaysBySpareTrims m (EntriesFull m)
  entries_are_full = by_run (EntriesFull m) (λ h zs r trims fit epoch tail t o q c ps less cell e. entry_full m h zs r trims fit epoch tail t o q c ps less cell e)

  pub tails_are_full : AlwaysBySpareTrims m (TailsFull m)
  tails_are_full = by_run (TailsFull m) (λ h zs r trims fit epoch tail os ls o t k i. tail_full m h zs r trims fit epoch tail t os ls o k i)
