-- Lists of moves, of numbers and of cells.
use Rattle.std.proofs.Common.{◌≡◌, ℕ, List, [], ◌∷◌, ◌++◌, Bool, true, false, refl, sym, ap, ◌∙◌, subst, inl, inr, arith, Some, None, eqb}
use Rattle.std.specs.Prelude.{nat_lt, if◌then◌else◌}
use Rattle.tg_base.specs.declared.cell.Cell.{Cell}
use Rattle.tg_base.specs.declared.cell.Cell.TheVariants.{Junk, Data}
use Rattle.tg_protocol.specs.Words.{cell_at, with_num, with_nums, bytes_eq, cell_eq}
use Rattle.tg_law_layouts.proofs.Moves.Members.{Has}

pub joined : {X : Type 0} → (xs ys zs : List X) → (xs ++ ys) ++ zs ≡ xs ++ (ys ++ zs)
joined [] ys zs = refl
joined (x ∷ xs) ys zs = ap (λ rest. x ∷ rest) (joined xs ys zs)

-- Rising lists of numbers.

num_here : (x : ℕ) (xs : List ℕ) → Has (with_num x xs) x
num_here x [] = inl refl
num_here x (y ∷ ys) = by (nat_lt x y) (eqb x y) refl (num_here x ys)
  where
    same : (x y : ℕ) → eqb x y ≡ true → x ≡ y
    same x y e = grind arith

    by : (b c : Bool) → eqb x y ≡ c → Has (with_num x ys) x → Has (if b then x ∷ y ∷ ys else (if c then y ∷ ys else y ∷ with_num x ys)) x
    by true c e f = inl refl
    by false true e f = inl (same x y e)
    by false false e f = inr f

num_more : (x u : ℕ) (ys : List ℕ) → Has ys u → Has (with_num x ys) u
num_more x u [] h = absurd h
num_more x u (y ∷ ys) h = by (nat_lt x y) (eqb x y) h (λ g. num_more x u ys g)
  where
    by : (a b : Bool) → Has (y ∷ ys) u → (Has ys u → Has (with_num x ys) u) → Has (if a then x ∷ y ∷ ys else (if b then y ∷ ys else y ∷ with_num x ys)) u
    by true b h f = inr h
    by false true h f = h
    by false false (inl e) f = inl e
    by false false (inr g) f = inr (f g)

pub nums_left : (xs ys : List ℕ) (u : ℕ) → Has xs u → Has (with_nums xs ys) u
nums_left [] ys u h = absurd h
nums_left (x ∷ xs) ys u (inl e) = subst (λ v. Has (with_num x (with_nums xs ys)) v) (sym e) (num_here x (with_nums xs ys))
nums_left (x ∷ xs) ys u (inr h) = num_more x u (with_nums xs ys) (nums_left xs ys u h)

pub nums_right : (xs ys : List ℕ) (u : ℕ) → Has ys u → Has (with_nums xs ys) u
nums_right [] ys u h = h
nums_right (x ∷ xs) ys u h = num_more x u (with_nums xs ys) (nums_right xs ys u h)

-- Cells.

pub some_same : {X : Type 0} → (a b : X) → Some a ≡ Some b → a ≡ b
some_same a b e = cc

pub none_cell : {X : Type 0} (c : Cell) → None ≡ Some c → X
none_cell c e = absurd (cc)

same_at : (p r : ℕ) → eqb p r ≡ true → p ≡ r
same_at p r t = grind arith

not_at : (p r : ℕ) → p ≡ r → eqb p r ≡ false → ⊥
not_at p r e t = grind arith

pub first_read : (x : ℕ × Cell) (xs : List (ℕ × Cell)) (p : ℕ) → p ≡ x.0 → cell_at (x ∷ xs) p ≡ Some x.1
first_read x xs p e = grind arith

pub later_read : (x : ℕ × Cell) (xs : List (ℕ × Cell)) (p : ℕ) → eqb p x.0 ≡ false → cell_at (x ∷ xs) p ≡ cell_at xs p
later_read x xs p e = grind arith

pub read_has : (xs : List (ℕ × Cell)) (p : ℕ) (c : Cell) → cell_at xs p ≡ Some c → Has xs (p, c)
read_has [] p c e = none_cell c e
read_has (x ∷ xs) p c e = by (eqb p x.0) refl (λ f. read_has xs p c f)
  where
    pair : (y : ℕ × Cell) → p ≡ y.0 → c ≡ y.1 → (p, c) ≡ y
    pair y i j = λ k. (i k, j k)

    by : (b : Bool) → eqb p x.0 ≡ b → (cell_at xs p ≡ Some c → Has xs (p, c)) → Has (x ∷ xs) (p, c)
    by true t rest = let i = same_at p x.0 t in inl (pair x i (some_same c x.1 (sym e ∙ first_read x xs p i)))
    by false t rest = inr (rest (sym (later_read x xs p t) ∙ e))

-- where a list has a cell, some cell is read
pub has_read : (xs : List (ℕ × Cell)) (p : ℕ) (c : Cell) → Has xs (p, c) → (d : Cell) × (cell_at xs p ≡ Some d)
has_read [] p c i = absurd i
has_read (x ∷ xs) p c i = by (eqb p x.0) refl i (λ j. has_read xs p c j)
  where
    by : (b : Bool) → eqb p x.0 ≡ b → Has (x ∷ xs) (p, c) → (Has xs (p, c) → (d : Cell) × (cell_at xs p ≡ Some d)) → (d : Cell) × (cell_at (x ∷ xs) p ≡ Some d)
    by true t j rest = (x.1, first_read x xs p (same_at p x.0 t))
    by false t (inl s) rest = absurd (not_at p x.0 (ap (λ (y : ℕ × Cell). y.0) s) t)
    by false t (inr j) rest = let k = rest j in (k.0, later_read x xs p t ∙ k.1)

-- a cell is itself

bytes_more : (x : ℕ) (xs : List ℕ) → bytes_eq xs xs ≡ true → bytes_eq (x ∷ xs) (x ∷ xs) ≡ true
unfolding bytes_eq
bytes_more x xs h = grind arith

bytes_self : (xs : List ℕ) → bytes_eq xs xs ≡ true
unfolding bytes_eq
bytes_self [] = refl
bytes_self (x ∷ xs) = bytes_more x xs (bytes_self xs)

pub cell_self : (c : Cell) → cell_eq c c ≡ true
unfolding cell_eq
cell_self Junk = refl
cell_self (Data d) = bytes_self d
