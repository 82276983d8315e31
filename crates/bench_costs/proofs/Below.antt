-- The positions of the records that are played.
use Rattle.std.specs.Prelude.{◌≡◌, ℕ, zero, suc, ◌+◌, ◌≤◌, true, nat_lt, [], ◌∷◌, ◌++◌, refl}
use Rattle.std.proofs.Common.{sym, ap, ◌∙◌, arith, add-one}
use Rattle.std.proofs.lemmas.Bool.{lt-ltb}
use Rattle.tg_entry.specs.Drafts.{Placed, all_below}
use Rattle.tg_entry.specs.declared.entry.Entry.{Entry}
use Rattle.tg_play.proofs.Truths.{both, first_true, rest_true}
use Rattle.bench_costs.specs.Plays.{entries_from, record_at}

one_below : (bound : ℕ) (es : Placed) (p : ℕ) (e : Entry) → all_below bound es ≡ true → nat_lt p bound ≡ true → all_below bound (es ++ (p, e) ∷ []) ≡ true
one_below bound [] p e all lt = both (nat_lt p bound) true lt refl
one_below bound (x ∷ xs) p e all lt =
    both (nat_lt x.0 bound) (all_below bound (xs ++ (p, e) ∷ [])) (first_true (nat_lt x.0 bound) (all_below bound xs) all) (one_below bound xs p e (rest_true (nat_lt x.0 bound) (all_below bound xs) all) lt)

pub below : (first n bound : ℕ) → first + n ≤ bound → all_below bound (entries_from first n) ≡ true
below first zero bound le = refl
below first (suc n) bound le =
    let within : first + suc n ≤ bound = le in
    one_below bound (entries_from first n) (first + n) (record_at (first + n)) (below first n bound (omega (arith, within))) (lt-ltb (first + n) bound (omega (arith, within)))

pub one_more : (first place : ℕ) (es new : Placed) (p : ℕ) (e : Entry) → new ≡ es ++ (p, e) ∷ [] → es ≡ entries_from first place → p ≡ first + place → e ≡ record_at p → new ≡ entries_from first (place + 1)
one_more first place es new p e is so_far at made =
    let entry : e ≡ record_at (first + place) = made ∙ ap record_at at in
    is ∙ (λ i. so_far i ++ (at i, entry i) ∷ []) ∙ ap (λ (n : ℕ). entries_from first n) (sym (add-one place))
