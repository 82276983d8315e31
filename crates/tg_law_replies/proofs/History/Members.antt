-- What stands in a list, and tests.
use Rattle.std.proofs.Common.{map, ◌++◌, ◌≡◌, ◌⊎◌, ℕ, zero, suc, ◌<◌, ◌≤◌, List, [], ◌∷◌, length, Bool, true, false, refl, sym, ap, ◌∙◌, inl, inr, arith}
use Rattle.std.specs.Prelude.{filter, if◌then◌else◌, Contains, slice_index_or, ◌&&◌, ◌||◌, ◌==◌, not, nat_lt, nat_le}
use Rattle.std.specs.List.{list_any, list_all}
use Rattle.std.proofs.lemmas.Bool.Decides.{nat_tests}
use Rattle.tg_base.specs.declared.ids.Oid.{Oid}
use Rattle.tg_base.specs.Orders.{oid_eq}

abbrev pub Has : {X : Type 0} → List X → X → Type 0
Has [] x = ⊥
Has (y ∷ ys) x = (x ≡ y) ⊎ Has ys x

has_index : {X : Type 0} → (xs : List X) (x : X) (k : ℕ) → k < length xs → slice_index_or xs k x ≡ x → Has xs x
has_index [] x k less e = absurd (omega (arith, less))
has_index (y ∷ xs) x zero less e = inl (sym e)
has_index (y ∷ xs) x (suc k) less e = inr (has_index xs x k (omega (arith, less)) e)

pub has_contained : {X : Type 0} → (xs : List X) (x : X) → Contains xs x → Has xs x
has_contained xs x h = has_index xs x h.0 h.1 h.2

contained_later : {X : Type 0} → (y : X) (xs : List X) (x : X) → Contains xs x → Contains (y ∷ xs) x
contained_later y xs x c = let less = c.1 in (suc c.0, omega (arith, less), c.2)

pub contained_has : {X : Type 0} → (xs : List X) (x : X) → Has xs x → Contains xs x
contained_has [] x h = absurd h
contained_has (y ∷ xs) x (inl e) = (zero, omega arith, sym e)
contained_has (y ∷ xs) x (inr h) = contained_later y xs x (contained_has xs x h)

-- Tests.

pub lt_of : (a b : ℕ) → nat_lt a b ≡ true → a < b
lt_of a b e = grind (arith, nat_tests)

pub of_lt : (a b : ℕ) → a < b → nat_lt a b ≡ true
of_lt a b e = grind (arith, nat_tests)

pub of_le : (a b : ℕ) → a ≤ b → nat_le a b ≡ true
of_le a b e = grind (arith, nat_tests)

pub not_lt : (a b : ℕ) → nat_lt a b ≡ false → b ≤ a
not_lt a b e = grind (arith, nat_tests)

pub of_not_lt : (a b : ℕ) → b ≤ a → nat_lt a b ≡ false
of_not_lt a b e = grind (arith, nat_tests)

pub same_number : (a b : ℕ) → (a == b) ≡ true → a ≡ b
same_number a b e = grind (arith, nat_tests)

pub number_same : (a b : ℕ) → a ≡ b → (a == b) ≡ true
number_same a b e = grind (arith, nat_tests)

pub same_oid : (o q : Oid) → oid_eq o q ≡ true → o ≡ q
same_oid o q e = let is : o.0 ≡ q.0 = same_number o.0 q.0 e in λ i. record { 0 = is i }

pub oid_itself : (o : Oid) → oid_eq o o ≡ true
oid_itself o = number_same o.0 o.0 refl

pub differ : true ≡ false → ⊥
differ e = cc

pub contrary : {X : Type 0} → (b : Bool) → b ≡ false → b ≡ true → X
contrary b f t = absurd (differ (sym t ∙ f))

pub and_both : (a b : Bool) → (a && b) ≡ true → (a ≡ true) × (b ≡ true)
and_both true b e = (refl, e)
and_both false b e = absurd cc

pub both_and : (a b : Bool) → a ≡ true → b ≡ true → (a && b) ≡ true
both_and a b d e = grind arith

pub either : (b : Bool) → (b ≡ true) ⊎ (b ≡ false)
either true = inl refl
either false = inr refl

pub or_right : (a b : Bool) → b ≡ true → (a || b) ≡ true
or_right true b e = refl
or_right false b e = e

pub not_true : (b : Bool) → not b ≡ true → b ≡ false
not_true true e = absurd cc
not_true false e = refl

pub passes_somewhere : {X : Type 0} → (f : X → Bool) (xs : List X) (y : X) → Has xs y → f y ≡ true → list_any f xs ≡ true
passes_somewhere f [] y h t = absurd h
passes_somewhere f (x ∷ xs) y (inl e) t = ap (λ b. b || list_any f xs) (ap f (sym e) ∙ t)
passes_somewhere f (x ∷ xs) y (inr h) t = or_right (f x) (list_any f xs) (passes_somewhere f xs y h t)

-- an element that passes
pub record Passes {X : Type 0} (f : X → Bool) (xs : List X) : Type 0 where
  pub it : X
  pub has : Has xs it
  pub passes : f it ≡ true

passes_more : {X : Type 0} → (f : X → Bool) (x : X) (xs : List X) → Passes f xs → Passes f (x ∷ xs)
passes_more f x xs p = record { it = p.it; has = inr p.has; passes = p.passes }

found_at : {X : Type 0} → (f : X → Bool) (x : X) (xs : List X) (b : Bool) → f x ≡ b → (list_any f xs ≡ true → Passes f xs) → (b || list_any f xs) ≡ true → Passes f (x ∷ xs)
found_at f x xs true e rest h = record { it = x; has = inl refl; passes = e }
found_at f x xs false e rest h = passes_more f x xs (rest h)

pub found : {X : Type 0} → (f : X → Bool) (xs : List X) → list_any f xs ≡ true → Passes f xs
found f [] h = absurd (cc)
found f (x ∷ xs) h = found_at f x xs (f x) refl (λ t. found f xs t) h

-- nothing passes
pub none_passes : {X : Type 0} → (f : X → Bool) (xs : List X) → ((x : X) → Has xs x → f x ≡ true → ⊥) → list_any f xs ≡ false
none_passes f xs none = by (list_any f xs) refl
  where
    by : (b : Bool) → list_any f xs ≡ b → list_any f xs ≡ false
    by true e = let p = found f xs e in absurd (none p.it p.has p.passes)
    by false e = e

pub all_pass : {X : Type 0} → (f : X → Bool) (xs : List X) → list_all f xs ≡ true → (x : X) → Has xs x → f x ≡ true
all_pass f [] e x h = absurd h
all_pass f (y ∷ ys) e x (inl s) = ap f s ∙ (and_both (f y) (list_all f ys) e).0
all_pass f (y ∷ ys) e x (inr h) = all_pass f ys (and_both (f y) (list_all f ys) e).1 x h

-- Lists.

pub has_either : {X : Type 0} → (xs ys : List X) (x : X) → Has (xs ++ ys) x → Has xs x ⊎ Has ys x
has_either [] ys x i = inr i
has_either (y ∷ xs) ys x (inl e) = inl (inl e)
has_either (y ∷ xs) ys x (inr i) = by (has_either xs ys x i)
  where
    by : Has xs x ⊎ Has ys x → Has (y ∷ xs) x ⊎ Has ys x
    by (inl j) = inl (inr j)
    by (inr j) = inr j

pub has_left : {X : Type 0} → (xs ys : List X) (x : X) → Has xs x → Has (xs ++ ys) x
has_left [] ys x h = absurd h
has_left (y ∷ xs) ys x (inl e) = inl e
has_left (y ∷ xs) ys x (inr h) = inr (has_left xs ys x h)

pub has_right : {X : Type 0} → (xs ys : List X) (x : X) → Has ys x → Has (xs ++ ys) x
has_right [] ys x h = h
has_right (y ∷ xs) ys x h = inr (has_right xs ys x h)

pub has_image : {X Y : Type 0} → (f : X → Y) (xs : List X) (y : Y) → Has (map f xs) y → (x : X) × Has xs x × (y ≡ f x)
has_image f [] y i = absurd i
has_image f (x ∷ xs) y (inl e) = (x, inl refl, e)
has_image f (x ∷ xs) y (inr i) = let r = has_image f xs y i in (r.0, inr r.1, r.2)

pub has_kept : {X : Type 0} → (f : X → Bool) (xs : List X) (x : X) → Has (filter f xs) x → Has xs x
has_kept f [] x i = absurd i
has_kept f (y ∷ xs) x i = by (f y) i (has_kept f xs x)
  where
    by : (b : Bool) → Has (if b then y ∷ filter f xs else filter f xs) x → (Has (filter f xs) x → Has xs x) → Has (y ∷ xs) x
    by true (inl e) rest = inl e
    by true (inr j) rest = inr (rest j)
    by false j rest = inr (rest j)
