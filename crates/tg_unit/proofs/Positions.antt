-- The positions of cells.
use Rattle.std.specs.Prelude.{◌≡◌, ℕ, ◌+◌, nat_lt, Bool, true, false, cond, List, [], ◌∷◌, ◌++◌, refl}
use Rattle.std.proofs.Common.{ap, sym, subst, ◌∙◌}
use Rattle.std.proofs.lemmas.List.{append_assoc}
use Rattle.tg_base.specs.declared.cell.Cell.{Cell}
use Rattle.tg_protocol.specs.Logs.{positions}
use Rattle.tg_unit.specs.Segments.{by_position, cells_below, cells_of, ArePlaces, AreLow, AreNear, AreSegments}
use Rattle.tg_unit.specs.declared.segment.Segment.{Segment}

are-low : (cells : List (ℕ × Cell)) (least : ℕ) → ArePlaces least cells → AreLow cells
are-low [] least h = tt
are-low (e ∷ es) least h = (h.1, are-low es (e.0 + 1) h.2)

-- the positions of whole segments are numbers of 64 bits
pub are-near : (es : List (ℕ × Segment)) (least : ℕ) → AreSegments least es → AreNear es
are-near [] least h = tt
are-near (e ∷ es) least h = (h.4, are-low e.1.cells 0 h.1.rising, are-near es (e.0 + 1) h.3)

-- the first segment is near, and so are the others
pub first-near : (es rest : List (ℕ × Segment)) (num : ℕ) (s : Segment) → es ≡ (num, s) ∷ rest → AreNear es → AreNear ((num, s) ∷ rest)
first-near es rest num s first h = subst AreNear first h

positions_joined : (xs ys : List (ℕ × Cell)) → positions (xs ++ ys) ≡ positions xs ++ positions ys
positions_joined [] ys = refl
positions_joined (x ∷ xs) ys = λ i. x.0 ∷ positions_joined xs ys i

-- the positions of one more segment are put last
pub positions_more : (found new all : List ℕ) (num : ℕ) (s : Segment) (cells : List (ℕ × Cell)) (es rest : List (ℕ × Segment))
    → new ≡ found ++ positions (by_position num cells) → cells ≡ s.cells → es ≡ (num, s) ∷ rest → found ++ positions (cells_of es) ≡ all
    → new ++ positions (cells_of rest) ≡ all
positions_more found new all num s cells es rest put same first h =
    ap (λ (xs : List ℕ). xs ++ positions (cells_of rest)) (put ∙ ap (λ (cs : List (ℕ × Cell)). found ++ positions (by_position num cs)) same)
    ∙ append_assoc found (positions (by_position num s.cells)) (positions (cells_of rest))
    ∙ ap (λ (xs : List ℕ). found ++ xs) (sym (positions_joined (by_position num s.cells) (cells_of rest)))
    ∙ ap (λ (xs : List (ℕ × Segment)). found ++ positions (cells_of xs)) (sym first)
    ∙ h

-- ---- cells below a position

below_joined : (low : ℕ) (xs ys : List (ℕ × Cell)) → cells_below low (xs ++ ys) ≡ cells_below low xs ++ cells_below low ys
below_joined low [] ys = refl
below_joined low (x ∷ xs) ys = by (below_joined low xs ys) (nat_lt x.0 low)
  where
    by : cells_below low (xs ++ ys) ≡ cells_below low xs ++ cells_below low ys → (t : Bool)
        → cond t (x ∷ cells_below low (xs ++ ys)) (cells_below low (xs ++ ys)) ≡ cond t (x ∷ cells_below low xs) (cells_below low xs) ++ cells_below low ys
    by h true = λ i. x ∷ h i
    by h false = h

-- the cells of one more segment are put last
pub below_more : (low : ℕ) (found new all : List (ℕ × Cell)) (num : ℕ) (s : Segment) (cells : List (ℕ × Cell)) (es rest : List (ℕ × Segment))
    → new ≡ found ++ cells_below low (by_position num cells) → cells ≡ s.cells → es ≡ (num, s) ∷ rest → found ++ cells_below low (cells_of es) ≡ all
    → new ++ cells_below low (cells_of rest) ≡ all
below_more low found new all num s cells es rest put same first h =
    ap (λ (xs : List (ℕ × Cell)). xs ++ cells_below low (cells_of rest)) (put ∙ ap (λ (cs : List (ℕ × Cell)). found ++ cells_below low (by_position num cs)) same)
    ∙ append_assoc found (cells_below low (by_position num s.cells)) (cells_below low (cells_of rest))
    ∙ ap (λ (xs : List (ℕ × Cell)). found ++ xs) (sym (below_joined low (by_position num s.cells) (cells_of rest)))
    ∙ ap (λ (xs : List (ℕ × Segment)). found ++ cells_below low (cells_of xs)) (sym first)
    ∙ h

-- one more cell, and the others
pub below_next : (low : ℕ) (x : ℕ × Cell) (found : List (ℕ × Cell)) (xs : List (ℕ × Cell))
    → (found ++ cells_below low (x ∷ [])) ++ cells_below low xs ≡ found ++ cells_below low (x ∷ xs)
below_next low x found xs = append_assoc found (cells_below low (x ∷ [])) (cells_below low xs) ∙ ap (λ (ys : List (ℕ × Cell)). found ++ ys) (sym (below_joined low (x ∷ []) xs))
