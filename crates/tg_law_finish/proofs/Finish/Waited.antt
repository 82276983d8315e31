-- How much there is to count at most: unknown positions, units that have trimmed, a kept view.
use Rattle.std.proofs.Common.{◌≡◌, ℕ, zero, suc, ◌+◌, ◌*◌, ◌≤◌, List, [], ◌∷◌, length, filter, cond, Bool, true, false, refl, ap, sym, subst, arith, Some, None, Option}
use Rattle.std.proofs.Math.Nat.{mul-suc}
use Rattle.std.proofs.lemmas.Nat.{mul-le}
use Rattle.std.specs.Prelude.{nat_lt, slice_index_or}
use Rattle.tg_base.specs.Clusters.{Header}
use Rattle.tg_base.specs.Layouts.{Layout}
use Rattle.tg_base.specs.declared.cell.Cell.{Cell}
use Rattle.tg_base.specs.declared.ids.NodeId.{NodeId}
use Rattle.tg_kind.specs.Meaning.{Meaning}
use Rattle.tg_protocol.specs.Words.{cell_at}
use Rattle.tg_protocol.specs.Units.{UnitState, new_unit}
use Rattle.tg_protocol.specs.Views.{View}
use Rattle.tg_law_finish.specs.Finish.Walks.{passes_of}
use Rattle.tg_law_finish.proofs.Finish.Askers.{Kind, extra, extra_less, above, budget, budget_less, passes, passes_less, rest}
use Rattle.tg_law_finish.proofs.Finish.Counted.{one_if}
use Rattle.tg_law_finish.proofs.Finish.Readers.{seen}
use Rattle.tg_law_finish.proofs.Finish.Trails.{unknown, absent}

pub whole : (n : ℕ) → n ≤ n
whole n = omega arith

pub few_unknown : (cells : List (ℕ × Cell)) (t : ℕ) → unknown cells t ≤ t
few_unknown cells zero = omega arith
few_unknown cells (suc t) = let a = one_at (cell_at cells t) in let b = few_unknown cells t in omega (arith, a, b)
  where
    one_at : (o : Option Cell) → absent o ≤ 1
    one_at None = omega arith
    one_at (Some c) = omega arith

-- Those units that have trimmed past a position are some of those that have trimmed anything.

abbrev pub low_in : List UnitState → ℕ → ℕ
low_in us n = (slice_index_or us n new_unit).low

first_above : (low_at : ℕ → ℕ) (g n : ℕ) → above low_at g (suc n) ≡ one_if (nat_lt g (low_at 0)) + above (λ i. low_at (suc i)) g n
first_above low_at g zero = refl
first_above low_at g (suc n) = let e = first_above low_at g n in omega (arith, e)

none_above : (g n : ℕ) → above (low_in []) g n ≡ 0
unfolding new_unit
none_above g zero = refl
none_above g (suc n) = let e = none_above g n in let z = none g in omega (arith, e, z)
  where
    none : (g : ℕ) → one_if (nat_lt g 0) ≡ 0
    none g = grind arith

one_first : (u : UnitState) (us : List UnitState) → length (filter (λ (v : UnitState). nat_lt 0 v.low) (u ∷ us)) ≡ one_if (nat_lt 0 u.low) + length (filter (λ (v : UnitState). nat_lt 0 v.low) us)
one_first u us = long (nat_lt 0 u.low) (filter (λ (v : UnitState). nat_lt 0 v.low) us)
  where
    long : (b : Bool) (vs : List UnitState) → length (cond b (u ∷ vs) vs) ≡ one_if b + length vs
    long true vs = omega arith
    long false vs = omega arith

pub few_above : (us : List UnitState) (g n : ℕ) → above (low_in us) g n ≤ length (filter (λ (u : UnitState). nat_lt 0 u.low) us)
few_above [] g n = let e = none_above g n in omega (arith, e)
few_above (u ∷ us) g zero = omega arith
few_above (u ∷ us) g (suc n) =
    let e = first_above (low_in (u ∷ us)) g n in
    let r = few_above us g n in
    let a = one_less g u.low in
    let l = one_first u us in
    omega (arith, e, r, a, l)
  where
    one_less : (g low : ℕ) → one_if (nat_lt g low) ≤ one_if (nat_lt 0 low)
    one_less g low = grind arith

pub no_floors : (us : List UnitState) → ((n : ℕ) → low_in us n ≡ 0) → length (filter (λ (u : UnitState). nat_lt 0 u.low) us) ≡ 0
no_floors [] none = refl
no_floors (u ∷ us) none = let e = no_floors us (λ n. none (suc n)) in let l = one_first u us in let z = zero_of u.low (none 0) in omega (arith, e, l, z)
  where
    zero_of : (n : ℕ) → n ≡ 0 → one_if (nat_lt 0 n) ≡ 0
    zero_of n e = grind (arith, e)

-- where none has trimmed anything, none has trimmed past a position
pub all_calm : (low_at : ℕ → ℕ) (floors : ℕ) → ((g n : ℕ) → above low_at g n ≤ floors) → nat_lt 0 floors ≡ false → (u : ℕ) → low_at u ≡ 0
all_calm low_at floors few none u = let a = few 0 (suc u) in let z = zero_of floors none in low (low_at u) (omega (arith, a, z))
  where
    zero_of : (n : ℕ) → nat_lt 0 n ≡ false → n ≡ 0
    zero_of n e = grind (arith, e)

    low : (n : ℕ) → one_if (nat_lt 0 n) ≤ 0 → n ≡ 0
    low n le = grind (arith, le)

-- what syncs and trims cost: two deliveries for each request
pub pays : (c s f : ℕ) → 2 * ((c + 1) + extra (nat_lt 0 f) (c + (s + (2 * c + 1 + s) * (f + 1)))) ≡ passes_of c s f
pays c s zero = omega arith
pays c s (suc f) = subst (λ b. 2 * ((c + 1) + extra b (c + (s + (2 * c + 1 + s) * (suc f + 1)))) ≡ 2 * ((2 * c + 1 + s) * (suc f + 2))) (sym (some f)) (more (2 * c + 1 + s) (suc f + 1) (suc f + 2) refl (omega arith))
  where
    some : (n : ℕ) → nat_lt 0 (suc n) ≡ true
    some n = grind arith

    more : (x n k : ℕ) → x ≡ 2 * c + 1 + s → k ≡ suc n → 2 * ((c + 1) + (c + (s + x * n))) ≡ 2 * (x * k)
    more x n k is next = let e = mul-suc x n in let g = ap (λ i. x * i) next in omega (arith, e, g, is)

pub pays_less : (c s n f : ℕ) → s ≤ n → passes_of c s f ≤ passes_of c n f
pays_less c s n zero le = omega arith
pays_less c s n (suc f) le = let a = mul-le (2 * c + 1 + s) (suc f + 2) (2 * c + 1 + n) (suc f + 2) (omega (arith, le)) (omega arith) in omega (arith, a)

pub few_seen : (m : Meaning) (v : Option (View m)) → seen v ≤ 1
few_seen m None = omega arith
few_seen m (Some v) = omega arith

module _ (m : Meaning) (h : Header) (stopped : List NodeId) (k : ℕ) (p : Layout) (longest : ℕ) (low_at : ℕ → ℕ) (many tail most : ℕ) (kind : Kind low_at p) where
  -- what is counted at most where walks meet trims
  abbrev pub for_trims : ℕ
  for_trims = extra kind.trims (longest + (most + (2 * longest + 1 + most) * (kind.floors + 1)))

  pub budget_within : (cells : List (ℕ × Cell)) → budget m h stopped k p longest low_at many tail most kind (unknown cells tail) ≤ budget m h stopped k p longest low_at many tail most kind tail
  budget_within cells = budget_less m h stopped k p longest low_at many tail most kind (unknown cells tail) tail (few_unknown cells tail)

  pub passes_within : (g : ℕ) (v : Option (View m)) → passes m h stopped k p longest low_at many tail most kind (above low_at g many + seen v) ≤ passes m h stopped k p longest low_at many tail most kind (kind.floors + 1)
  passes_within g v =
      let x = kind.few g many in
      let y = few_seen m v in
      passes_less m h stopped k p longest low_at many tail most kind (above low_at g many + seen v) (kind.floors + 1) (omega (arith, x, y))

  -- so much is left for them when a sync begins
  pub trims_within : (streams g : ℕ) (v : Option (View m)) → streams ≤ most
      → extra kind.trims (longest + rest m h stopped k p longest low_at many tail most kind streams g (seen v)) ≤ extra kind.trims (longest + (most + passes m h stopped k p longest low_at many tail most kind (kind.floors + 1)))
  trims_within streams g v le = let b = passes_within g v in extra_less kind.trims (longest + rest m h stopped k p longest low_at many tail most kind streams g (seen v)) (longest + (most + passes m h stopped k p longest low_at many tail most kind (kind.floors + 1))) (omega (arith, b, le))
