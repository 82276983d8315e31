-- Reading a list after one place is set, and the lists of new nodes.
use Rattle.std.proofs.Common.{◌≡◌, ◌≢◌, ℕ, zero, suc, ◌<◌, List, [], ◌∷◌, length, map, get_or, set, sym, subst, inl, inr, arith, ⊎_elim}
use Rattle.std.specs.Prelude.{replicate, slice_index_or, Contains}
use Rattle.tg_law_layouts.proofs.Moves.Members.{Has}
use Rattle.std.proofs.lemmas.List.{get_or-set_same, get_or-set_other}
use Rattle.std.proofs.lemmas.Bool.{cases_eq}

-- a fact of each element after a set
pub at_set : {A : Type 0} (xs : List A) (i : ℕ) (a : A) (d : ℕ → A) (Q : ℕ → A → Type 0) → i < length xs → Q i a → ((j : ℕ) → j ≢ i → Q j (get_or xs j (d j))) → (j : ℕ) → Q j (get_or (set xs i a) j (d j))
at_set xs i a d Q within here there j =
    ⊎_elim
    (λ (e : j ≡ i). subst (λ (x : ℕ). Q x (get_or (set xs i a) x (d x))) (sym e) (subst (λ y. Q i y) (sym (get_or-set_same xs i a (d i) within)) here))
    (λ (n : j ≢ i). subst (λ y. Q j y) (sym (get_or-set_other xs i j a (d j) n)) (there j n))
    (cases_eq j i)

pub at_map : {X A : Type 0} (f : X → A) (xs : List X) (k : ℕ) (d : A) (Q : A → Type 0) → ((x : X) → Q (f x)) → Q d → Q (slice_index_or (map f xs) k d)
at_map f [] k d Q h e = e
at_map f (x ∷ xs) zero d Q h e = h x
at_map f (x ∷ xs) (suc k) d Q h e = at_map f xs k d Q h e

pub at_replicate : {A : Type 0} (n : ℕ) (a : A) (k : ℕ) (d : A) (Q : A → Type 0) → Q a → Q d → Q (slice_index_or (replicate n a) k d)
at_replicate zero a k d Q h e = e
at_replicate (suc n) a zero d Q h e = h
at_replicate (suc n) a (suc k) d Q h e = at_replicate n a k d Q h e

contains_more : {X : Type 0} → (y : X) (xs : List X) (x : X) → Contains xs x → Contains (y ∷ xs) x
contains_more y xs x c = (suc c.0, (let l = c.1 in omega (arith, l)), c.2)

pub contained : {X : Type 0} → (xs : List X) (x : X) → Has xs x → Contains xs x
contained [] x h = absurd h
contained (y ∷ xs) x (inl e) = (0, omega arith, sym e)
contained (y ∷ xs) x (inr h) = contains_more y xs x (contained xs x h)
