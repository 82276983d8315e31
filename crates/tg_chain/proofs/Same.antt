-- Tests of equality, and equality.
use Rattle.std.proofs.Common.{◌≡◌, ◌↔◌, IsTrue, ℕ, Bool, true, false, List, [], ◌∷◌, refl, sym, ap, subst, arith}
use Rattle.tg_base.specs.declared.cell.Cell.{Cell}
use Rattle.tg_base.specs.declared.cell.Cell.TheVariants.{Junk, Data}
use Rattle.tg_protocol.specs.Words.{bytes_eq, cell_eq}

pub bytes_same : (a : List ℕ) → bytes_eq a a ≡ true
unfolding bytes_eq
bytes_same [] = refl
bytes_same (x ∷ xs) = grind (arith, bytes_same xs)

pub same_bytes : (a b : List ℕ) → bytes_eq a b ≡ true → a ≡ b
unfolding bytes_eq
same_bytes [] [] e = refl
same_bytes [] (y ∷ ys) e = absurd cc
same_bytes (x ∷ xs) [] e = absurd cc
same_bytes (x ∷ xs) (y ∷ ys) e = grind (arith, same_bytes xs ys)

pub cell_same : (a : Cell) → cell_eq a a ≡ true
unfolding cell_eq
cell_same Junk = refl
cell_same (Data d) = bytes_same d

pub same_cell : (a b : Cell) → cell_eq a b ≡ true → a ≡ b
unfolding cell_eq
same_cell Junk Junk e = refl
same_cell Junk (Data d) e = absurd cc
same_cell (Data c) Junk e = absurd cc
same_cell (Data c) (Data d) e = ap Data (same_bytes c d e)

false_unless : (b : Bool) → (b ≡ true → false ≡ true) → false ≡ b
false_unless true k = k refl
false_unless false k = refl

-- a test that is true of equal cells alone
pub tested_cell : (r : Bool) (a b : Cell) → (IsTrue r ↔ (a ≡ b)) → r ≡ cell_eq a b
tested_cell true a b h = subst (λ z. true ≡ cell_eq a z) (h.0 refl) (sym (cell_same a))
tested_cell false a b h = false_unless (cell_eq a b) (λ e. h.1 (same_cell a b e))

-- likewise of pages
pub tested_page : (r : Bool) (a b : List ℕ) → (IsTrue r ↔ (a ≡ b)) → r ≡ cell_eq (Data a) (Data b)
unfolding cell_eq
tested_page true a b h = subst (λ z. true ≡ bytes_eq a z) (h.0 refl) (sym (bytes_same a))
tested_page false a b h = false_unless (bytes_eq a b) (λ e. h.1 (same_bytes a b e))
