-- Equal cells, by a test.
use Rattle.std.proofs.Common.{◌≡◌, ℕ, Bool, true, false, ◌↔◌, eqb, List, [], ◌∷◌, refl, sym, ap, ap₂, ◌∙◌}
use Rattle.std.specs.Prelude.{IsTrue}
use Rattle.std.proofs.lemmas.Bool.{eqb-true, eq-eqb, and_parts, and_from}
use Rattle.tg_base.specs.declared.cell.Cell.{Cell}
use Rattle.tg_base.specs.declared.cell.Cell.TheVariants.{Junk, Data}
use Rattle.tg_protocol.specs.Words.{bytes_eq, cell_eq}

bytes-sound : (xs ys : List ℕ) → bytes_eq xs ys ≡ true → xs ≡ ys
unfolding bytes_eq
bytes-sound [] [] e = refl
bytes-sound [] (y ∷ ys) e = absurd (cc)
bytes-sound (x ∷ xs) [] e = absurd (cc)
bytes-sound (x ∷ xs) (y ∷ ys) e =
    let parts = and_parts (eqb x y) (bytes_eq xs ys) e in
    ap₂ (λ z zs. z ∷ zs) (eqb-true x y parts.0) (bytes-sound xs ys parts.1)

bytes-whole : (xs : List ℕ) → bytes_eq xs xs ≡ true
unfolding bytes_eq
bytes-whole [] = refl
bytes-whole (x ∷ xs) = and_from (eqb x x) (bytes_eq xs xs) (eq-eqb x x refl) (bytes-whole xs)

cell-sound : (x y : Cell) → cell_eq x y ≡ true → x ≡ y
unfolding cell_eq
cell-sound Junk Junk e = refl
cell-sound Junk (Data b) e = absurd (cc)
cell-sound (Data a) Junk e = absurd (cc)
cell-sound (Data a) (Data b) e = ap Data (bytes-sound a b e)

cell-whole : (x : Cell) → cell_eq x x ≡ true
unfolding cell_eq
cell-whole Junk = refl
cell-whole (Data a) = bytes-whole a

-- a test that is true of equal cells alone
pub is-cell_eq : (r : Bool) (x y : Cell) → (IsTrue r ↔ (x ≡ y)) → r ≡ cell_eq x y
is-cell_eq r x y h = go r (cell_eq x y) refl h
  where
    go : (r b : Bool) → cell_eq x y ≡ b → (IsTrue r ↔ (x ≡ y)) → r ≡ cell_eq x y
    go true b is h = sym (ap (λ z. cell_eq x z) (sym (h.0 refl)) ∙ cell-whole x)
    go false false is h = sym is
    go false true is h = h.1 (cell-sound x y is) ∙ sym is
