-- A loop that changes each item of a list in place.
use Rattle.std.proofs.Common.{◌≡◌, ℕ, ◌+◌, ◌<◌, List, ◌++◌, length, map, take, drop, set, get_or, sym, ap, subst, ◌∙◌}
use Rattle.std.proofs.lemmas.List.Edits.{map_over_more}
use Rattle.std.proofs.lemmas.Option.{slice_get-get_or, get_or_from_slice_get}

pub goes_on : {X : Type 0} (f : X → X) (xs ys : List X) (i : ℕ) (y d : X) → i < length xs → length ys ≡ length xs → ys ≡ map f (take i xs) ++ drop i xs
    → y ≡ f (get_or ys i d) → set ys i y ≡ map f (take (i + 1) xs) ++ drop (i + 1) xs
goes_on f xs ys i y d low same so is =
    ap (set ys i) is ∙ map_over_more f xs ys i (get_or ys i d) low so
    (sym (get_or_from_slice_get ys i (get_or ys i d) (get_or ys i d) (slice_get-get_or ys i d (subst (λ n. i < n) (sym same) low))))
