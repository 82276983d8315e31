-- Lists all of whose elements pass, and tests of numbers.
use Rattle.std.proofs.Common.{◌≡◌, ℕ, ◌<◌, List, [], ◌∷◌, Bool, true, refl, inl, inr, arith}
use Rattle.std.specs.Prelude.{nat_lt}
use Rattle.std.specs.List.{list_all}
use Rattle.std.proofs.lemmas.Bool.Decides.{nat_tests}
use Rattle.tg_codec.proofs.Laws.{both, and-left, and-right}
use Rattle.tg_law_layouts.proofs.Moves.Members.{Has}

pub all_of : {X : Type 0} → (f : X → Bool) (xs : List X) → ((x : X) → Has xs x → f x ≡ true) → list_all f xs ≡ true
all_of f [] k = refl
all_of f (x ∷ xs) k = both (f x) (list_all f xs) (k x (inl refl)) (all_of f xs (λ y i. k y (inr i)))

-- where two tests are passed by all, a third is that follows
pub both_of : {X : Type 0} → (f g k : X → Bool) (xs : List X) → ((x : X) → f x ≡ true → g x ≡ true → k x ≡ true) → list_all f xs ≡ true → list_all g xs ≡ true → list_all k xs ≡ true
both_of f g k [] n a b = refl
both_of f g k (x ∷ xs) n a b = both (k x) (list_all k xs) (n x (and-left (f x) _ a) (and-left (g x) _ b)) (both_of f g k xs n (and-right (f x) _ a) (and-right (g x) _ b))

pub weaker_of : {X : Type 0} → (f k : X → Bool) (xs : List X) → ((x : X) → f x ≡ true → k x ≡ true) → list_all f xs ≡ true → list_all k xs ≡ true
weaker_of f k [] n a = refl
weaker_of f k (x ∷ xs) n a = both (k x) (list_all k xs) (n x (and-left (f x) _ a)) (weaker_of f k xs n (and-right (f x) _ a))

pub lt_test : (a b : ℕ) → a < b → nat_lt a b ≡ true
lt_test a b e = grind (arith, nat_tests)
