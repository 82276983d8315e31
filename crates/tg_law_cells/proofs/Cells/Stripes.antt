-- Which positions a unit looks at that is asked for a stripe.
use Rattle.std.proofs.Common.{◌≡◌, ℕ, zero, suc, ◌+◌, ◌-◌, ◌*◌, ◌/◌, ◌%◌, ◌<◌, ◌≤◌, ap, sym, ◌∙◌, subst, inl, inr, arith}
use Rattle.std.proofs.Math.Nat.{suc-mul}
use Rattle.std.proofs.lemmas.Nat.{div-mul-add, div-add-mod'}
use Rattle.std.proofs.lemmas.Bool.{cases_lt}
use Rattle.tg_protocol.specs.Units.{how_many}
use Rattle.tg_law_layouts.proofs.Moves.Units.{InSteps}

small_div : (n k : ℕ) → n < k → n / k ≡ 0
small_div n k lt = let e : 0 * k + n ≡ n = omega arith in ap (λ x. x / k) (sym e) ∙ div-mul-add 0 k n lt

none_left : (lo hi step : ℕ) → 1 ≤ step → hi ≤ lo → how_many lo hi step ≡ 0
none_left lo hi step s le = let e : (hi - lo) + (step - 1) ≡ step - 1 = omega arith in ap (λ x. x / step) e ∙ small_div (step - 1) step (omega arith)

one_more_div : (x k : ℕ) → 1 ≤ k → (x + k) / k ≡ suc (x / k)
one_more_div x k s =
    let parts : k * (x / k) + x % k ≡ x = omega arith in
    let small : x % k < k = omega arith in
    let e : x + k ≡ suc (x / k) * k + x % k = omega arith in
    ap (λ y. y / k) e ∙ div-mul-add (suc (x / k)) k (x % k) small

one_more : (lo hi step : ℕ) → 1 ≤ step → lo < hi → how_many lo hi step ≡ suc (how_many (lo + step) hi step)
one_more lo hi step s lt =
    elim (cases_lt hi (lo + step)) [
      | inl past ↦
          let e : (hi - lo) + (step - 1) ≡ (hi - lo - 1) + step = omega arith in
          let f : hi - lo - 1 < step = omega arith in
          ap (λ x. x / step) e ∙ one_more_div (hi - lo - 1) step s ∙ ap suc (small_div (hi - lo - 1) step f ∙ sym (none_left (lo + step) hi step s (omega arith)))
      | inr fits ↦
          let e : (hi - lo) + (step - 1) ≡ ((hi - (lo + step)) + (step - 1)) + step = omega arith in
          ap (λ x. x / step) e ∙ one_more_div ((hi - (lo + step)) + (step - 1)) step s
    ]

in_steps : (q lo hi step p : ℕ) → 1 ≤ step → p ≡ lo + q * step → p < hi → InSteps step (how_many lo hi step) lo p
in_steps zero lo hi step p s e less =
    subst (λ (n : ℕ). InSteps step n lo p) (sym (one_more lo hi step s (omega (arith, e, less)))) (inl (omega (arith, e)))
in_steps (suc q) lo hi step p s e less =
    let x = suc-mul q step in
    let f : p ≡ (lo + step) + q * step = omega (arith, e, x) in
    subst (λ (n : ℕ). InSteps step n lo p) (sym (one_more lo hi step s (omega (arith, e, less)))) (inr (in_steps q (lo + step) hi step p s f less))

-- a position of a stripe
pub in_stripe : (lo hi step s p : ℕ) → 1 ≤ step → lo ≤ p → p < hi → s ≡ (p - lo) % step → InSteps step (how_many (lo + s) hi step) (lo + s) p
in_stripe lo hi step s p some from less is =
    let d = div-add-mod' (p - lo) step in
    in_steps ((p - lo) / step) (lo + s) hi step p some (omega (arith, d, from, is)) less
