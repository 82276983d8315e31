-- What is settled up to a confirmed tail, against another confirmed tail: of its epoch, of a later one or an earlier one.
use Rattle.std.proofs.Common.{◌≡◌, ◌⊎◌, ℕ, ◌<◌, ◌≤◌, [], refl, sym, subst, inl, inr, arith, append-nil}
use Rattle.tg_base.specs.Clusters.{Header}
use Rattle.tg_base.specs.Layouts.{Layout}
use Rattle.tg_base.specs.declared.ids.Oid.{Oid}
use Rattle.tg_kind.specs.Meaning.{Meaning}
use Rattle.tg_protocol.specs.Chosen.{IsDecided}
use Rattle.tg_protocol.specs.Runs.{Moves, Reaches, Passes}
use Rattle.tg_law_layouts.specs.Moves.After.{after}
use Rattle.tg_law_layouts.proofs.Layouts.Deciding.{one_layout, layouts_are_sound}
use Rattle.tg_law_cells.proofs.Tokens.Named.{issuer_is_named}
use Rattle.tg_law_cells.specs.Order.Tails.{ConfirmedTail}
use Rattle.tg_law_cells.proofs.Order.Tails.{starts_past}
use Rattle.tg_law_walks.specs.Lists.Spared.{WasSettled, TrimsWereSpare}
use Rattle.tg_law_headline.specs.Trims.Floors.{IsWhole}
use Rattle.tg_law_headline.proofs.Floors.Swept.{tails_are_whole}
use Rattle.tg_law_syncs.specs.Settling.Visits.{IsIssuedTo}
use Rattle.tg_law_headline.proofs.Settled.Rounds.{SavedTo}

parted : (a b : ℕ) → (a ≡ b) ⊎ ((a < b) ⊎ (b < a))
parted a b = grind arith

module _ (m : Meaning) (h : Header) (zs : Moves m) (r : Reaches m h zs (after m h zs)) (trims : TrimsWereSpare m h zs) where
  abbrev pub S : ℕ → ℕ → Type 0
  S e q = WasSettled m (after m h zs) e q

  abbrev pub Tl : ℕ → ℕ → Type 0
  Tl e t = ConfirmedTail m (after m h zs) (after m h zs) e t

  pub up : (a b q : ℕ) → a ≤ b → WasSettled m (after m h zs) a q → WasSettled m (after m h zs) b q
  up a b q le g = record { cell = g.cell; settled = g.settled; in_time = (let i = g.in_time in omega (arith, i, le)) }

  here : Passes m h zs (after m h zs)
  here = record { before = zs; after = []; split = sym (append-nil zs); is = refl }

  -- what is issued in a tail's epoch is issued past its layout's start
  past_start : (e t : ℕ) → (c : ConfirmedTail m (after m h zs) (after m h zs) e t) → (o : Oid) (q : ℕ) → IsIssuedTo m (after m h zs) e o q → c.layout.start ≤ q
  past_start e t c o q i =
      let n = issuer_is_named m h zs (after m h zs) r i.seqr e q i.streams i.links i.issued c.some in
      let same = one_layout m h zs (after m h zs) r e n.layout c.layout n.decided c.decided in
      subst (λ (p : Layout). p.start ≤ q) same n.past

  -- each later layout starts at the tail or past it
  later_past : (e t : ℕ) → ConfirmedTail m (after m h zs) (after m h zs) e t → (f : ℕ) (q : Layout) → IsDecided m (after m h zs) f q → e < f → t ≤ q.start
  later_past e t c f q d less =
      let at = (layouts_are_sound m h zs (after m h zs) r f q d).epoch in
      starts_past m h zs (after m h zs) (after m h zs) r here e t c q (subst (λ (y : ℕ). IsDecided m (after m h zs) y q) (sym at) d) (omega (arith, less, at))

  pub joins : (n : ℕ) (o : Oid) (u : ℕ) → SavedTo m (after m h zs) S Tl n o u → (e t q : ℕ) → ConfirmedTail m (after m h zs) (after m h zs) e t → IsIssuedTo m (after m h zs) e o q → q < t → q < u → WasSettled m (after m h zs) n q
  joins n o u s e t q c i less low = by (parted e s.epoch)
    where
      whole : IsWhole m (after m h zs) s.epoch s.tail → e < s.epoch → WasSettled m (after m h zs) n q
      whole w before = let past = later_past e t c s.epoch w.layout w.decided before in up s.epoch n q s.up_to (w.old q (omega (arith, less, past)))

      by : (e ≡ s.epoch) ⊎ ((e < s.epoch) ⊎ (s.epoch < e)) → WasSettled m (after m h zs) n q
      by (inl at) = s.settled q (subst (λ (y : ℕ). IsIssuedTo m (after m h zs) y o q) at i) low
      by (inr (inl before)) = whole (tails_are_whole m h zs (after m h zs) r trims s.epoch s.tail s.confirmed) before
      by (inr (inr after')) =
          let past = later_past s.epoch s.tail s.confirmed e c.layout c.decided after' in
          let first = past_start e t c o q i in
          let within = s.within in
          absurd (omega (arith, past, first, within, low))
