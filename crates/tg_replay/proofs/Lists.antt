-- Fronts of lists, and their next elements.
use Rattle.std.proofs.Common.{◌≡◌, ◌⊎◌, ℕ, zero, suc, ◌<◌, ◌≤◌, List, [], ◌∷◌, ◌++◌, length, take, map, refl, ap, inl, inr, arith, Some}
use Rattle.std.specs.Prelude.{slice_get}

-- the first elements and the next one
pub front_and_next : {A : Type 0} (xs read : List A) (x : A) → take (suc (length read)) xs ≡ read ++ x ∷ [] → (take (length read) xs ≡ read) × (slice_get xs (length read) ≡ Some x)
front_and_next [] [] x e = absurd cc
front_and_next [] (r ∷ rs) x e = absurd cc
front_and_next (y ∷ ys) [] x e = let h : y ≡ x = cc in (refl, ap Some h)
front_and_next (y ∷ ys) (r ∷ rs) x e =
    let head : y ≡ r = cc in
    let tail : take (suc (length rs)) ys ≡ rs ++ x ∷ [] = cc in
    let more = front_and_next ys rs x tail in
    let front : take (length rs) ys ≡ rs = more.0 in
    (cc, more.1)

pub front_more : {A : Type 0} (read more : List A) (x : A) → take (suc (length read)) (read ++ x ∷ more) ≡ read ++ x ∷ []
front_more [] more x = refl
front_more (r ∷ rs) more x = ap (λ xs. r ∷ xs) (front_more rs more x)

pub take_next : {A : Type 0} (xs : List A) (n : ℕ) (x : A) → slice_get xs n ≡ Some x → take (suc n) xs ≡ take n xs ++ x ∷ []
take_next [] n x e = absurd cc
take_next (y ∷ ys) zero x e = let h : y ≡ x = cc in ap (λ z. z ∷ []) h
take_next (y ∷ ys) (suc n) x e = ap (λ xs. y ∷ xs) (take_next ys n x e)

pub length_last : {A : Type 0} (xs : List A) (x : A) → length (xs ++ x ∷ []) ≡ suc (length xs)
length_last [] x = refl
length_last (y ∷ ys) x = ap suc (length_last ys x)

-- an element of a list with one more at its end
pub last_or_before : {A : Type 0} (xs : List A) (x : A) (k : ℕ) (y : A) → slice_get (xs ++ x ∷ []) k ≡ Some y → ((k < length xs) × (slice_get xs k ≡ Some y)) ⊎ ((k ≡ length xs) × (x ≡ y))
last_or_before [] x zero y e = let h : x ≡ y = cc in inr (refl, h)
last_or_before [] x (suc k) y e = absurd cc
last_or_before (z ∷ zs) x zero y e = inl (omega arith, e)
last_or_before (z ∷ zs) x (suc k) y e = elim (last_or_before zs x k y e) [
  | inl h ↦ let below : k < length zs = h.0 in inl (omega arith, h.1)
  | inr h ↦ let at : k ≡ length zs = h.0 in inr (ap suc at, h.1)
]

pub take_whole : {A : Type 0} (xs : List A) (ys : List A) → take (length xs) (xs ++ ys) ≡ xs
take_whole [] ys = refl
take_whole (x ∷ xs) ys = ap (λ zs. x ∷ zs) (take_whole xs ys)

pub take_within : {A : Type 0} (xs ys : List A) (k : ℕ) → k ≤ length xs → take k (xs ++ ys) ≡ take k xs
take_within xs ys zero h = refl
take_within [] ys (suc k) h = absurd (omega arith)
take_within (x ∷ xs) ys (suc k) h = ap (λ zs. x ∷ zs) (take_within xs ys k (omega arith))

pub take_self : {A : Type 0} (xs : List A) → take (length xs) xs ≡ xs
take_self [] = refl
take_self (x ∷ xs) = ap (λ zs. x ∷ zs) (take_self xs)

-- an element of a list of images is the image of an element
pub image : {A B : Type 0} (f : A → B) (xs : List A) (k : ℕ) (y : B) → slice_get (map f xs) k ≡ Some y → (x : A) × (slice_get xs k ≡ Some x) × (f x ≡ y)
image f [] k y e = absurd cc
image f (x ∷ xs) zero y e = let h : f x ≡ y = cc in (x, refl, h)
image f (x ∷ xs) (suc k) y e = image f xs k y e
