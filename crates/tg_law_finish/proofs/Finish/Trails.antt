-- Walks over a log of which nothing is trimmed: each visit is of a known cell, or reads an unknown one below the tail.
use Rattle.std.proofs.Common.{◌≡◌, ◌⊎◌, ℕ, zero, suc, ◌+◌, ◌-◌, ◌<◌, ◌≤◌, List, [], ◌∷◌, filter, cond, Bool, true, false, refl, ap, ◌∙◌, sym, subst, inl, inr, arith, Some, None, Option, eqb}
use Rattle.std.specs.Prelude.{nat_lt, nat_le, ⊤}
use Rattle.tg_base.specs.Layouts.{Layout}
use Rattle.tg_base.specs.declared.cell.Cell.{Cell}
use Rattle.tg_base.specs.declared.cell.Cell.TheVariants.{Junk, Data}
use Rattle.tg_base.specs.declared.ids.Oid.{Oid}
use Rattle.tg_entry.specs.declared.entry.Entry.{Entry}
use Rattle.tg_protocol.specs.Words.{cell_at, with_cell, where_true}
use Rattle.tg_protocol.specs.Entries.{backs_in, lists}
use Rattle.tg_protocol.specs.Pages.{entry_of}
use Rattle.tg_protocol.specs.Requests.{Goes, Ends}
use Rattle.tg_protocol.specs.Cells.{Gets, works, place_in, get_cell}
use Rattle.tg_protocol.specs.Walking.{Trail, Walk, Members, WalkTurn, walk_on, walk_members, with_job, visited, pointers_at, listed, trail_after, next_visit, next_of_trail, next_on, go_down, at_least, rest_of, reads_turn}
use Rattle.tg_law_layouts.proofs.Steps.Units.{cell_stored}
use Rattle.tg_law_finish.proofs.Finish.Lists.{Each}

-- Unknown positions.

abbrev pub absent : Option Cell → ℕ
absent None = 1
absent (Some c) = 0

-- how many positions below this one have no known cell
abbrev pub unknown : List (ℕ × Cell) → ℕ → ℕ
unknown cells zero = 0
unknown cells (suc t) = absent (cell_at cells t) + unknown cells t

absent_less : (b : Bool) (c : Cell) (o : Option Cell) → absent (cond b (Some c) o) ≤ absent o
absent_less true c o = omega arith
absent_less false c o = omega arith

absent_after : (cells : List (ℕ × Cell)) (q t : ℕ) (c : Cell) → absent (cell_at (with_cell cells q c) t) ≤ absent (cell_at cells t)
absent_after cells q t c = subst (λ o. absent o ≤ absent (cell_at cells t)) (sym (cell_stored cells q c t)) (absent_less (eqb t q) c (cell_at cells t))

pub unknown_less : (cells : List (ℕ × Cell)) (q : ℕ) (c : Cell) (t : ℕ) → unknown (with_cell cells q c) t ≤ unknown cells t
unknown_less cells q c zero = omega arith
unknown_less cells q c (suc t) = let a = absent_after cells q t c in let b = unknown_less cells q c t in omega (arith, a, b)

gone_at : (cells : List (ℕ × Cell)) (q t : ℕ) (c : Cell) → q ≡ t → cell_at cells q ≡ None → absent (cell_at (with_cell cells q c) t) + 1 ≤ absent (cell_at cells t)
gone_at cells q t c e none = subst (λ n. absent (cell_at (with_cell cells q c) n) + 1 ≤ absent (cell_at cells n)) e
    (subst (λ o. absent (cell_at (with_cell cells q c) q) + 1 ≤ absent o) (sym none) (subst (λ o. absent o + 1 ≤ 1) (sym (cell_stored cells q c q ∙ ap (λ b. cond b (Some c) (cell_at cells q)) (itself q))) (omega arith)))
  where
    itself : (n : ℕ) → eqb n n ≡ true
    itself n = grind arith

last_or_less : (q t : ℕ) → q < suc t → (q ≡ t) ⊎ (q < t)
last_or_less q t less = grind arith

one_fewer : (cells : List (ℕ × Cell)) (q : ℕ) (c : Cell) (t : ℕ) → cell_at cells q ≡ None → (q ≡ t) ⊎ (q < t) → (q < t → unknown (with_cell cells q c) t + 1 ≤ unknown cells t) → unknown (with_cell cells q c) (suc t) + 1 ≤ unknown cells (suc t)
one_fewer cells q c t none (inl e) rest = let a = gone_at cells q t c e none in let b = unknown_less cells q c t in omega (arith, a, b)
one_fewer cells q c t none (inr l) rest = let a = absent_after cells q t c in let b = rest l in omega (arith, a, b)

pub unknown_fewer : (cells : List (ℕ × Cell)) (q : ℕ) (c : Cell) (t : ℕ) → cell_at cells q ≡ None → q < t → unknown (with_cell cells q c) t + 1 ≤ unknown cells t
unknown_fewer cells q c zero none less = absurd (omega (arith, less))
unknown_fewer cells q c (suc t) none less = one_fewer cells q c t none (last_or_less q t less) (λ l. unknown_fewer cells q c t none l)

-- Walks.

module _ (p : Layout) (tail : ℕ) where
  abbrev pub Low : List ℕ → Type 0
  Low ps = Each (λ q. q < tail) ps

  pub record TrailLow (t : Trail) : Type 0 where
    pub pointers : Low t.pointers
    pub last : t.last ≤ tail

  -- a walk reads an unknown position, or ends
  pub data Walked (cells : List (ℕ × Cell)) (next : ℕ) : WalkTurn → Type 0 where
    WalkReads : (w : Walk) (q : ℕ) → q < tail → cell_at cells q ≡ None → w.cells ≡ cells → TrailLow w.trail → Walked cells next (record { next = next + 1; besides = []; gone = 0; to = Goes (with_job w (works (place_in p q) (Gets next))) })
    WalkEnds : (x : Members) → x.cells ≡ cells → x.gone ≡ None → Walked cells next (record { next = next; besides = []; gone = 0; to = Ends x })

  low_rest : (ps : List ℕ) → Low ps → Low (rest_of ps)
  low_rest [] l = tt
  low_rest (q ∷ ps) l = l.1

  under : (x q t : ℕ) → nat_lt x q ≡ true → q < t → x < t
  under x q t e less = grind arith

  low_if : (b : Bool) (x q : ℕ) (ps : List ℕ) → nat_lt x q ≡ b → q < tail → Low ps → Low (cond b (x ∷ ps) ps)
  low_if true x q ps e less l = (under x q tail e less, l)
  low_if false x q ps e less l = l

  low_below : (q : ℕ) (ps : List ℕ) → q < tail → Low (filter (λ b. nat_lt b q) ps)
  low_below q [] less = tt
  low_below q (x ∷ ps) less = low_if (nat_lt x q) x q (filter (λ b. nat_lt b q) ps) refl less (low_below q ps less)

  -- the pointers of a visited cell
  abbrev LowOption : Option (List ℕ) → Type 0
  LowOption None = ⊤
  LowOption (Some ps) = Low ps

  where_low : (b : Bool) (ps : List ℕ) → Low ps → LowOption (where_true b ps)
  where_low true ps l = l
  where_low false ps l = tt

  entry_low : (o : Oid) (q : ℕ) (e : Option Entry) → q < tail → LowOption (listed o q e)
  entry_low o q None less = tt
  entry_low o q (Some e) less = where_low (lists e o) _ (low_below q (backs_in e o) less)

  cell_low : (o : Oid) (q : ℕ) (c : Cell) → q < tail → LowOption (pointers_at o q c)
  cell_low o q Junk less = tt
  cell_low o q (Data d) less = entry_low o q (entry_of d) less

  trail_low : (t : Trail) (q : ℕ) (o : Option (List ℕ)) → q < tail → LowOption o → TrailLow t → TrailLow (trail_after t q o)
  trail_low t q None less l x = record { pointers = low_rest t.pointers x.pointers; last = omega (arith, less) }
  trail_low t q (Some ps) less l x = record { pointers = l; last = omega (arith, less) }

  pub visit_low : (w : Walk) (q : ℕ) (c : Cell) → q < tail → TrailLow w.trail → TrailLow (visited w q c).trail
  visit_low w q c less x = trail_low w.trail q (pointers_at w.oid q c) less (cell_low w.oid q c less) x

  -- the next visit is below the tail
  where_down : (last q : ℕ) → last ≤ tail → where_true (nat_lt 0 last) (last - 1) ≡ Some q → q < tail
  where_down last q le e = by (nat_lt 0 last) refl e
    where
      by : (b : Bool) → nat_lt 0 last ≡ b → where_true b (last - 1) ≡ Some q → q < tail
      by true f g = let i = one (last - 1) q g in let j = pos last f in omega (arith, le, i, j)
        where
          one : (x y : ℕ) → Some x ≡ Some y → x ≡ y
          one x y e = cc

          pos : (n : ℕ) → nat_lt 0 n ≡ true → 1 ≤ n
          pos n e = grind arith
      by false f g = absurd cc

  on_low : (t : Trail) (ps : List ℕ) (q : ℕ) → Low ps → t.last ≤ tail → next_on t ps ≡ Some q → q < tail
  on_low t (x ∷ ps) q l le e = subst (λ n. n < tail) (one x q e) l.0
    where
      one : (x y : ℕ) → Some x ≡ Some y → x ≡ y
      one x y e = cc
  on_low t [] q l le e = by t.were_four e
    where
      by : (b : Bool) → go_down b t.last ≡ Some q → q < tail
      by true e = where_down t.last q le e
      by false e = absurd cc

  least_low : (lo q : ℕ) (o : Option ℕ) → at_least lo o ≡ Some q → o ≡ Some q
  least_low lo q None e = absurd cc
  least_low lo q (Some x) e = by (nat_le lo x) e
    where
      by : (b : Bool) → where_true b x ≡ Some q → Some x ≡ Some q
      by true e = e
      by false e = absurd cc

  next_low : (w : Walk) (q : ℕ) → TrailLow w.trail → next_visit w ≡ Some q → q < tail
  next_low w q x e = on_low w.trail w.trail.pointers q x.pointers x.last (least_low w.lo q (next_of_trail w.trail) e)

  by_cell : (w : Walk) (cells : List (ℕ × Cell)) (next q : ℕ) (o : Option Cell) (rest : Cell → WalkTurn) → w.cells ≡ cells → TrailLow w.trail → q < tail → cell_at w.cells q ≡ o
      → ((c : Cell) → Walked cells next (rest c)) → Walked cells next (elim o as (λ _. WalkTurn) [ Some c ↦ rest c | None ↦ reads_turn w (get_cell (place_in p q) next) ])
  unfolding get_cell
  by_cell w cells next q None rest same low less e t = WalkReads w q less (ap (λ x. cell_at x q) (sym same) ∙ e) same low
  by_cell w cells next q (Some c) rest same low less e t = t c

  by_visit : (w : Walk) (cells : List (ℕ × Cell)) (next : ℕ) (o : Option ℕ) (rest : ℕ → Cell → WalkTurn) → w.cells ≡ cells → TrailLow w.trail → next_visit w ≡ o
      → ((q : ℕ) (c : Cell) → q < tail → Walked cells next (rest q c)) → Walked cells next (elim o as (λ _. WalkTurn) [
        | None ↦ record { next = next; besides = []; gone = 0; to = Ends (walk_members w None) }
        | Some q ↦ elim (cell_at w.cells q) as (λ _. WalkTurn) [ Some c ↦ rest q c | None ↦ reads_turn w (get_cell (place_in p q) next) ]
      ])
  by_visit w cells next None rest same low e t = WalkEnds (walk_members w None) same refl
  by_visit w cells next (Some q) rest same low e t = let less = next_low w q low e in by_cell w cells next q (cell_at w.cells q) (rest q) same low less refl (λ c. t q c less)

  pub walk_goes : (fuel next : ℕ) (w : Walk) (cells : List (ℕ × Cell)) → w.cells ≡ cells → TrailLow w.trail → Walked cells next (walk_on p next fuel w)
  unfolding walk_on
  walk_goes zero next w cells same low = WalkEnds (walk_members w None) same refl
  walk_goes (suc n) next w cells same low = by_visit w cells next (next_visit w) (λ q c. walk_on p next n (visited w q c)) same low refl (λ q c less. walk_goes n next (visited w q c) cells same (visit_low w q c less low))
