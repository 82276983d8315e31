-- The numbers of a set in a range.
use Rattle.std.specs.Prelude.{◌≡◌, ℕ, ◌<◌, ◌≤◌, true, false, ◌&&◌, not, nat_lt, nat_le, [], ◌∷◌, filter, refl}
use Rattle.std.specs.Ordering.{nat_cmp, is_le}
use Rattle.std.specs.BTreeMap.Range.{range_contains}
use Rattle.std.specs.declared.cmp.Ordering.TheVariants.{Less, Equal, Greater}
use Rattle.std.specs.declared.ops.Bound.TheVariants.{Included, Excluded}
use Rattle.std.proofs.Common.{cond, eqb, sym, arith}
use Rattle.std.proofs.lemmas.Bool.{ltb-true, eqb-true, le-leb}
use Rattle.std.proofs.lemmas.Bool.Decides.{nat_tests}
use Rattle.std.proofs.lemmas.List.Elements.{filter_agree}
use Rattle.tg_set.specs.Sets.{Numbers, between}

le_is : (a b : ℕ) → is_le (nat_cmp a b) ≡ nat_le a b
le_is a b =
    elim (nat_lt a b) as (λ c. nat_lt a b ≡ c → is_le (cond c Less (cond (eqb a b) Equal Greater)) ≡ nat_le a b) [
      | true ↦ λ lt. let less : a < b = ltb-true _ _ lt in sym (le-leb a b (omega (arith, less)))
      | false ↦ λ ge. elim (eqb a b) as (λ c. eqb a b ≡ c → is_le (cond c Equal Greater) ≡ nat_le a b) [
        | true ↦ λ is. let same : a ≡ b = eqb-true _ _ is in sym (le-leb a b (omega (arith, same)))
        | false ↦ λ other. grind (arith, nat_tests)
      ] refl
    ] refl

above_is : (high n : ℕ) → not (nat_le high n) ≡ nat_lt n high
above_is high n = grind (arith, nat_tests)

range_is : (low high n : ℕ) → (is_le (nat_cmp low n) && not (is_le (nat_cmp high n))) ≡ (nat_le low n && nat_lt n high)
range_is low high n = rw (le_is low n, le_is high n, above_is high n) refl

pub between_is : (numbers : Numbers) (low high : ℕ) → filter (range_contains nat_cmp (Included low) (Excluded high)) numbers ≡ between numbers low high
between_is numbers low high = filter_agree (range_contains nat_cmp (Included low) (Excluded high)) (λ n. nat_le low n && nat_lt n high) (λ n. range_is low high n) numbers

pub between_none : (numbers : Numbers) (low high : ℕ) → high ≤ low → between numbers low high ≡ []
between_none [] low high le = refl
between_none (n ∷ numbers) low high le =
    let out : (nat_le low n && nat_lt n high) ≡ false = grind (arith, nat_tests) in
    rw out (between_none numbers low high le)
