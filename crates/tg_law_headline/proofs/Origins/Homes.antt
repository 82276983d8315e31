-- Where an entry of the log was sent: its page has one home in all layouts in which it is settled, and what was in hand of an epoch
-- then follows it.
use Rattle.std.proofs.Common.{◌≡◌, ◌⊎◌, ℕ, ◌<◌, ◌≤◌, [], refl, sym, ap, ◌∙◌, subst, inl, inr, arith, Contains}
use Rattle.tg_base.specs.Clusters.{Header}
use Rattle.tg_base.specs.Layouts.{Layout}
use Rattle.tg_base.specs.declared.cell.Cell.{Cell}
use Rattle.tg_base.specs.declared.cell.Cell.TheVariants.{Data}
use Rattle.tg_entry.specs.declared.entry.Entry.{Entry}
use Rattle.tg_kind.specs.Meaning.{Meaning}
use Rattle.tg_protocol.specs.Words.{client_id}
use Rattle.tg_protocol.specs.Chosen.{IsDecided}
use Rattle.tg_protocol.specs.Worlds.{World, log}
use Rattle.tg_protocol.specs.Runs.{Moves, Reaches, Later, run}
use Rattle.tg_protocol.specs.Alike.{HasEntry}
use Rattle.tg_law_layouts.specs.Moves.After.{after}
use Rattle.tg_law_layouts.proofs.Moves.Lists.{contained}
use Rattle.tg_law_layouts.proofs.Moves.Members.{has_contained}
use Rattle.tg_law_layouts.proofs.Layouts.Deciding.{one_layout, layouts_are_sound}
use Rattle.tg_law_cells.specs.Cells.Settled.{IsSettled}
use Rattle.tg_law_cells.proofs.Cells.Settling.{one_is_settled}
use Rattle.tg_law_cells.proofs.Tokens.Linked.{PageOf, page_in}
use Rattle.tg_law_cells.proofs.Tokens.Named.{issuer_is_named}
use Rattle.tg_law_cells.proofs.Tokens.Own.{pages_are_own}
use Rattle.tg_law_cells.specs.Homes.Homes.{Home}
use Rattle.tg_law_cells.proofs.Homes.Homes.{settled_has_home, starts_rise, epochs_are_decided}
use Rattle.tg_law_cells.specs.Entries.Archive.{TrimsWereSafe}
use Rattle.tg_law_cells.proofs.Entries.Archive.{log_is_settled}
use Rattle.tg_law_walks.proofs.Drafts.Senders.{sender}
use Rattle.tg_law_walks.proofs.Drafts.Drafts.{sourced}
use Rattle.tg_law_walks.specs.Once.GivenUp.{IsGivenUp, IsKept}
use Rattle.tg_law_walks.proofs.Once.Nowhere.{log_has_no_given_up}
use Rattle.tg_law_walks.proofs.Once.Reached.{header, give, short}
use Rattle.tg_law_walks.proofs.Once.Spending.{Put}
use Rattle.tg_law_headline.specs.Origins.Origins.{StartsBelow, StandsSince}

module _ (m : Meaning) (h : Header) (zs : Moves m) (reach : Reaches m h zs (after m h zs)) (safe : TrimsWereSafe m h zs) where
  abbrev w : World m
  w = after m h zs

  -- a world is later than itself
  itself : Later m (after m h zs) (after m h zs)
  unfolding run
  itself = ([], record { lawful = λ x i. absurd (none i); is = refl; few = reach.goes.few })
    where
      none : {X : Type 0} {x : X} → Contains [] x → ⊥
      none i = let l = i.1 in omega (arith, l)

  some : (epoch : ℕ) (q : Layout) → IsDecided m (after m h zs) epoch q → 0 < epoch
  some epoch q (inl a) = let n = a.0 in omega (arith, n)
  some epoch q (inr a) = let n = a.0 in omega (arith, n)

  module _ (pos : ℕ) (e : Entry) (i : HasEntry m (after m h zs) pos e) where
    pub page : PageOf (log m (after m h zs)) pos e
    page = page_in (log m (after m h zs)) pos e (has_contained _ (pos, e) i)

    pub settled : IsSettled m (after m h zs) pos (Data page.page)
    settled = (log_is_settled m h zs (after m h zs) reach safe).settled pos (Data page.page) (contained (log m (after m h zs)) (pos, Data page.page) page.here)

    abbrev there : (last : ℕ) × IsKept m (after m h zs) pos page.page last
    there = log_has_no_given_up m h zs (after m h zs) reach safe pos page.page (contained (log m (after m h zs)) (pos, Data page.page) page.here)

    abbrev pub home : Home m (after m h zs) pos page.page there.0
    home = there.1.home

    -- whose token wasn't given up
    pub kept : IsGivenUp m (after m h zs) home.epoch pos page.page → ⊥
    kept = there.1.kept

    -- a home's layout starts at the position or below it
    starts : (last : ℕ) → (a : Home m (after m h zs) pos page.page last) → a.layout.start ≤ pos
    starts last a =
        let o = pages_are_own m h zs (after m h zs) reach a.write a.epoch pos page.page a.sent a.is in
        let d : IsDecided m (after m h zs) a.epoch a.layout = subst (λ (n : ℕ). IsDecided m (after m h zs) n a.layout) a.of a.decided in
        let n = issuer_is_named m h zs (after m h zs) reach o.seqr a.epoch pos _ o.links o.issued (some a.epoch a.layout d) in
        let same = ap (λ (q : Layout). q.start) (one_layout m h zs (after m h zs) reach a.epoch n.layout a.layout n.decided d) in
        let low = n.past in
        omega (arith, same, low)

    -- so no home is of a later epoch than another
    no_later : (s t : ℕ) (a : Home m (after m h zs) pos page.page s) (b : Home m (after m h zs) pos page.page t) → b.epoch ≤ a.epoch
    no_later s t a b = by (le_or_more b.epoch a.epoch)
      where
        le_or_more : (n k : ℕ) → (n ≤ k) ⊎ (k < n)
        le_or_more n k = grind arith

        by : (b.epoch ≤ a.epoch) ⊎ (a.epoch < b.epoch) → b.epoch ≤ a.epoch
        by (inl le) = le
        by (inr less) = let of = b.of in let past = a.past b.layout b.decided (omega (arith, less, of)) in let low = starts t b in absurd (omega (arith, past, low))

    -- what is of an epoch up to its home's
    module _ (epoch : ℕ) (positive : 0 < epoch) (le : epoch ≤ home.epoch) where
      rise : (q : Layout) → IsDecided m (after m h zs) epoch q → q.start ≤ pos
      rise q d =
          let n = (layouts_are_sound m h zs (after m h zs) reach epoch q d).epoch in
          let of = home.of in
          let up = starts_rise m h zs (after m h zs) reach q home.layout (subst (λ (k : ℕ). IsDecided m (after m h zs) k q) (sym n) d) home.decided (omega (arith, n, le, of)) in
          let low = starts there.0 home in
          omega (arith, up, low)

      start : StartsBelow m (after m h zs) epoch pos
      start =
          let of = home.of in
          let q = epochs_are_decided m h zs (after m h zs) reach epoch home.layout home.decided positive (omega (arith, le, of)) in
          record { layout = q.0; decided = q.1; low = rise q.0 q.1 }

      late : (s : IsSettled m (after m h zs) pos (Data page.page)) → epoch ≤ s.layout.epoch
      late s =
          let b = settled_has_home m h zs (after m h zs) reach pos page.page s in
          let up = b.up_to in
          let same = no_later s.layout.epoch there.0 b home in
          omega (arith, le, up, same)

      pub follows : StandsSince m (after m h zs) epoch pos
      follows = record {
        start = start;
        settled = λ c s. subst (λ (x : Cell). (t : IsSettled m (after m h zs) pos x) → epoch ≤ t.layout.epoch)
            (sym (one_is_settled m h zs (after m h zs) (after m h zs) reach itself pos c (Data page.page) s settled)) late s;
      }

    -- it was sent by the entry's client
    pub from : home.write.from ≡ client_id e.head.client
    from =
        let write = has_contained (after m h zs).packets home.write home.sent in
        let by = sender m h zs home.write write home.epoch pos page.page home.is in
        let s = sourced m h zs (header m h zs reach) (give m h zs reach) (short m h zs reach) pos e home.write home.write.from.num home.epoch page.page write by home.is page.reads in
        by ∙ ap client_id s.2

    -- the page as its client sent it
    abbrev pub sent : Put (after m h zs).packets e.head.client
    sent = record {
      packet = home.write;
      sent = has_contained (after m h zs).packets home.write home.sent;
      from = from;
      epoch = home.epoch;
      pos = pos;
      page = page.page;
      is = home.is;
      entry = e;
      reads = page.reads;
    }
