-- What stands in a list.
use Rattle.std.proofs.Common.{◌≡◌, ◌⊎◌, ℕ, zero, suc, ◌<◌, List, [], ◌∷◌, ◌++◌, length, Bool, true, false, refl, sym, ap, ◌∙◌, inl, inr, arith}
use Rattle.std.specs.Prelude.{Contains, slice_index_or, ◌&&◌, ◌||◌, not}
use Rattle.std.specs.List.{list_any, list_all}

abbrev pub Has : {X : Type 0} → List X → X → Type 0
Has [] x = ⊥
Has (y ∷ ys) x = (x ≡ y) ⊎ Has ys x

pub has_left : {X : Type 0} → (xs ys : List X) (x : X) → Has xs x → Has (xs ++ ys) x
has_left [] ys x h = absurd h
has_left (y ∷ xs) ys x (inl e) = inl e
has_left (y ∷ xs) ys x (inr h) = inr (has_left xs ys x h)

pub has_right : {X : Type 0} → (xs ys : List X) (x : X) → Has ys x → Has (xs ++ ys) x
has_right [] ys x h = h
has_right (y ∷ xs) ys x h = inr (has_right xs ys x h)

has_index : {X : Type 0} → (xs : List X) (x : X) (k : ℕ) → k < length xs → slice_index_or xs k x ≡ x → Has xs x
has_index [] x k less e = absurd (omega (arith, less))
has_index (y ∷ xs) x zero less e = inl (sym e)
has_index (y ∷ xs) x (suc k) less e = inr (has_index xs x k (omega (arith, less)) e)

pub has_contained : {X : Type 0} → (xs : List X) (x : X) → Contains xs x → Has xs x
has_contained xs x h = has_index xs x h.0 h.1 h.2

contained_later : {X : Type 0} → (y : X) (xs : List X) (x : X) → Contains xs x → Contains (y ∷ xs) x
contained_later y xs x c = let less = c.1 in (suc c.0, omega (arith, less), c.2)

pub contained_has : {X : Type 0} → (xs : List X) (x : X) → Has xs x → Contains xs x
contained_has [] x h = absurd h
contained_has (y ∷ xs) x (inl e) = (zero, omega arith, sym e)
contained_has (y ∷ xs) x (inr h) = contained_later y xs x (contained_has xs x h)

-- an element, and what stands before and after it
pub record Cut {X : Type 0} (xs : List X) (x : X) : Type 0 where
  pub before : List X
  pub after : List X
  pub is : xs ≡ before ++ x ∷ after

cut_more : {X : Type 0} → (y : X) (xs : List X) (x : X) → Cut xs x → Cut (y ∷ xs) x
cut_more y xs x c = record { before = y ∷ c.before; after = c.after; is = ap (λ zs. y ∷ zs) c.is }

pub cut_at : {X : Type 0} → (xs : List X) (x : X) → Has xs x → Cut xs x
cut_at [] x h = absurd h
cut_at (y ∷ xs) x (inl e) = record { before = []; after = xs; is = ap (λ z. z ∷ xs) (sym e) }
cut_at (y ∷ xs) x (inr h) = cut_more y xs x (cut_at xs x h)

pub joined : {X : Type 0} → (xs : List X) (y : X) (ys : List X) → (xs ++ y ∷ []) ++ ys ≡ xs ++ y ∷ ys
joined [] y ys = refl
joined (x ∷ xs) y ys = ap (λ zs. x ∷ zs) (joined xs y ys)

-- Tests.

pub differ : true ≡ false → ⊥
differ e = cc

pub contrary : {X : Type 0} → (b : Bool) → b ≡ false → b ≡ true → X
contrary b f t = absurd (differ (sym t ∙ f))

pub and_both : (a b : Bool) → (a && b) ≡ true → (a ≡ true) × (b ≡ true)
and_both true b e = (refl, e)
and_both false b e = absurd cc

pub both_and : (a b : Bool) → a ≡ true → b ≡ true → (a && b) ≡ true
both_and a b d e = grind arith

pub or_right : (a b : Bool) → b ≡ true → (a || b) ≡ true
or_right true b e = refl
or_right false b e = e

pub not_true : (b : Bool) → not b ≡ true → b ≡ false
not_true true e = absurd cc
not_true false e = refl

pub not_false : (b : Bool) → b ≡ false → not b ≡ true
not_false b e = ap not e

-- an element that passes
pub record Passes {X : Type 0} (f : X → Bool) (xs : List X) : Type 0 where
  pub it : X
  pub has : Has xs it
  pub passes : f it ≡ true

passes_more : {X : Type 0} → (f : X → Bool) (x : X) (xs : List X) → Passes f xs → Passes f (x ∷ xs)
passes_more f x xs p = record { it = p.it; has = inr p.has; passes = p.passes }

found_at : {X : Type 0} → (f : X → Bool) (x : X) (xs : List X) (b : Bool) → f x ≡ b → (list_any f xs ≡ true → Passes f xs) → (b || list_any f xs) ≡ true → Passes f (x ∷ xs)
found_at f x xs true e rest h = record { it = x; has = inl refl; passes = e }
found_at f x xs false e rest h = passes_more f x xs (rest h)

pub found : {X : Type 0} → (f : X → Bool) (xs : List X) → list_any f xs ≡ true → Passes f xs
found f [] h = absurd (cc)
found f (x ∷ xs) h = found_at f x xs (f x) refl (λ t. found f xs t) h

pub passes_somewhere : {X : Type 0} → (f : X → Bool) (xs : List X) (y : X) → Has xs y → f y ≡ true → list_any f xs ≡ true
passes_somewhere f [] y h t = absurd h
passes_somewhere f (x ∷ xs) y (inl e) t = ap (λ b. b || list_any f xs) (ap f (sym e) ∙ t)
passes_somewhere f (x ∷ xs) y (inr h) t = or_right (f x) (list_any f xs) (passes_somewhere f xs y h t)

-- nothing passes
pub none_passes : {X : Type 0} → (f : X → Bool) (xs : List X) → ((x : X) → Has xs x → f x ≡ true → ⊥) → list_any f xs ≡ false
none_passes f xs none = by (list_any f xs) refl
  where
    by : (b : Bool) → list_any f xs ≡ b → list_any f xs ≡ false
    by true e = let p = found f xs e in absurd (none p.it p.has p.passes)
    by false e = e

pub no_pass : {X : Type 0} → (f : X → Bool) (xs : List X) → list_any f xs ≡ false → (x : X) → Has xs x → f x ≡ true → ⊥
no_pass f xs none x h t = contrary (list_any f xs) none (passes_somewhere f xs x h t)

pub all_pass : {X : Type 0} → (f : X → Bool) (xs : List X) → list_all f xs ≡ true → (x : X) → Has xs x → f x ≡ true
all_pass f [] e x h = absurd h
all_pass f (y ∷ ys) e x (inl s) = ap f s ∙ (and_both (f y) (list_all f ys) e).0
all_pass f (y ∷ ys) e x (inr h) = all_pass f ys (and_both (f y) (list_all f ys) e).1 x h

pub each_passes : {X : Type 0} → (f : X → Bool) (xs : List X) → ((x : X) → Has xs x → f x ≡ true) → list_all f xs ≡ true
each_passes f [] each = refl
each_passes f (y ∷ ys) each = both_and (f y) (list_all f ys) (each y (inl refl)) (each_passes f ys (λ x h. each x (inr h)))
