-- What stands in a list.
use Rattle.std.proofs.Common.{◌≡◌, ◌⊎◌, ℕ, zero, suc, ◌<◌, List, [], ◌∷◌, ◌++◌, length, Bool, true, false, refl, sym, ap, inl, inr, arith, Some, filter, map, cond, ◌||◌}
use Rattle.std.specs.Prelude.{Contains, slice_get, slice_set, slice_index_or}
use Rattle.std.specs.List.{list_any}

abbrev pub Has : {X : Type 0} → List X → X → Type 0
Has [] x = ⊥
Has (y ∷ ys) x = (x ≡ y) ⊎ Has ys x

pub has_left : {X : Type 0} → (xs ys : List X) (x : X) → Has xs x → Has (xs ++ ys) x
has_left [] ys x h = absurd h
has_left (y ∷ xs) ys x (inl e) = inl e
has_left (y ∷ xs) ys x (inr h) = inr (has_left xs ys x h)

pub has_right : {X : Type 0} → (xs ys : List X) (x : X) → Has ys x → Has (xs ++ ys) x
has_right [] ys x h = h
has_right (y ∷ xs) ys x h = inr (has_right xs ys x h)

or_first : {X : Type 0} → {A B : Type 0} → A ⊎ B → (X ⊎ A) ⊎ B
or_first (inl a) = inl (inr a)
or_first (inr b) = inr b

pub has_either : {X : Type 0} → (xs ys : List X) (x : X) → Has (xs ++ ys) x → Has xs x ⊎ Has ys x
has_either [] ys x h = inr h
has_either (y ∷ xs) ys x (inl e) = inl (inl e)
has_either (y ∷ xs) ys x (inr h) = or_first (has_either xs ys x h)

some_same : {X : Type 0} → (x y : X) → Some x ≡ Some y → x ≡ y
some_same x y e = cc

pub has_got : {X : Type 0} → (xs : List X) (i : ℕ) (x : X) → slice_get xs i ≡ Some x → Has xs x
has_got [] i x e = absurd (cc)
has_got (y ∷ xs) zero x e = inl (some_same x y (sym e))
has_got (y ∷ xs) (suc i) x e = inr (has_got xs i x e)

has_index : {X : Type 0} → (xs : List X) (x : X) (k : ℕ) → k < length xs → slice_index_or xs k x ≡ x → Has xs x
has_index [] x k less e = absurd (omega (arith, less))
has_index (y ∷ xs) x zero less e = inl (sym e)
has_index (y ∷ xs) x (suc k) less e = inr (has_index xs x k (omega (arith, less)) e)

pub has_contained : {X : Type 0} → (xs : List X) (x : X) → Contains xs x → Has xs x
has_contained xs x h = has_index xs x h.0 h.1 h.2

pub record Image {X Y : Type 0} (f : X → Y) (xs : List X) (y : Y) : Type 0 where
  pub of : X
  pub has : Has xs of
  pub is : y ≡ f of

image_more : {X Y : Type 0} → (f : X → Y) (x : X) (xs : List X) (y : Y) → Image f xs y → Image f (x ∷ xs) y
image_more f x xs y i = record { of = i.of; has = inr i.has; is = i.is }

pub has_map : {X Y : Type 0} → (f : X → Y) (xs : List X) (y : Y) → Has (map f xs) y → Image f xs y
has_map f [] y h = absurd h
has_map f (x ∷ xs) y (inl e) = record { of = x; has = inl refl; is = e }
has_map f (x ∷ xs) y (inr h) = image_more f x xs y (has_map f xs y h)

filtered : {X : Type 0} → (b : Bool) (x y : X) (ys zs : List X) → (Has zs x → Has ys x) → Has (cond b (y ∷ zs) zs) x → Has (y ∷ ys) x
filtered true x y ys zs rest (inl e) = inl e
filtered true x y ys zs rest (inr h) = inr (rest h)
filtered false x y ys zs rest h = inr (rest h)

pub has_filter : {X : Type 0} → (f : X → Bool) (xs : List X) (x : X) → Has (filter f xs) x → Has xs x
has_filter f [] x h = h
has_filter f (y ∷ ys) x h = filtered (f y) x y ys (filter f ys) (λ t. has_filter f ys x t) h

-- an element that passes
pub record Passes {X : Type 0} (f : X → Bool) (xs : List X) : Type 0 where
  pub it : X
  pub has : Has xs it
  pub passes : f it ≡ true

passes_more : {X : Type 0} → (f : X → Bool) (x : X) (xs : List X) → Passes f xs → Passes f (x ∷ xs)
passes_more f x xs p = record { it = p.it; has = inr p.has; passes = p.passes }

found_at : {X : Type 0} → (f : X → Bool) (x : X) (xs : List X) (b : Bool) → f x ≡ b → (list_any f xs ≡ true → Passes f xs) → (b || list_any f xs) ≡ true → Passes f (x ∷ xs)
found_at f x xs true e rest h = record { it = x; has = inl refl; passes = e }
found_at f x xs false e rest h = passes_more f x xs (rest h)

-- a test that passes somewhere
pub found : {X : Type 0} → (f : X → Bool) (xs : List X) → list_any f xs ≡ true → Passes f xs
found f [] h = absurd (cc)
found f (x ∷ xs) h = found_at f x xs (f x) refl (λ t. found f xs t) h

passed_at : {X : Type 0} → (f : X → Bool) (x y : X) (xs : List X) → f y ≡ true → x ≡ y → list_any f (x ∷ xs) ≡ true
passed_at f x y xs h e = grind arith

passed_on : {X : Type 0} → (f : X → Bool) (x : X) (xs : List X) → list_any f xs ≡ true → list_any f (x ∷ xs) ≡ true
passed_on f x xs h = grind arith

pub passes_somewhere : {X : Type 0} → (f : X → Bool) (xs : List X) (y : X) → Has xs y → f y ≡ true → list_any f xs ≡ true
passes_somewhere f [] y h t = absurd h
passes_somewhere f (x ∷ xs) y (inl e) t = passed_at f x y xs t (sym e)
passes_somewhere f (x ∷ xs) y (inr h) t = passed_on f x xs (passes_somewhere f xs y h t)

-- Places.

placed_later : {X : Type 0} → (z : X) (xs : List X) (i : ℕ) (y : X) (k : ℕ) (x : X) → ((k ≡ i) × (x ≡ y)) ⊎ ((k ≡ i → ⊥) × (slice_get xs k ≡ Some x))
    → ((suc k ≡ suc i) × (x ≡ y)) ⊎ ((suc k ≡ suc i → ⊥) × (slice_get (z ∷ xs) (suc k) ≡ Some x))
placed_later z xs i y k x (inl a) = let e = a.0 in inl (omega (arith, e), a.1)
placed_later z xs i y k x (inr b) = inr ((λ s. b.0 (omega (arith, s))), b.1)

pub placed : {X : Type 0} → (xs : List X) (i : ℕ) (y : X) (k : ℕ) (x : X) → slice_get (slice_set xs i y) k ≡ Some x
    → ((k ≡ i) × (x ≡ y)) ⊎ ((k ≡ i → ⊥) × (slice_get xs k ≡ Some x))
placed [] i y k x e = absurd (grind arith)
placed (z ∷ xs) zero y zero x e = inl (refl, sym (some_same y x e))
placed (z ∷ xs) zero y (suc k) x e = inr ((λ s. omega (arith, s)), e)
placed (z ∷ xs) (suc i) y zero x e = inr ((λ s. omega (arith, s)), e)
placed (z ∷ xs) (suc i) y (suc k) x e = placed_later z xs i y k x (placed xs i y k x e)

pub set_long : {X : Type 0} → (xs : List X) (i : ℕ) (y : X) → length (slice_set xs i y) ≡ length xs
set_long [] i y = refl
set_long (z ∷ xs) zero y = refl
set_long (z ∷ xs) (suc i) y = ap suc (set_long xs i y)

pub got_below : {X : Type 0} → (xs : List X) (i : ℕ) (x : X) → slice_get xs i ≡ Some x → i < length xs
got_below [] i x e = absurd (cc)
got_below (z ∷ xs) zero x e = omega arith
got_below (z ∷ xs) (suc i) x e = let rest = got_below xs i x e in omega (arith, rest)
