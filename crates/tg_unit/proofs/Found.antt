-- What is found by position.
use Rattle.std.proofs.Common.{◌≡◌, ℕ, ◌+◌, ◌*◌, ◌/◌, ◌%◌, ◌<◌, ◌≤◌, true, List, [], ◌∷◌, length, Option, Some, None, refl, sym, ap, subst, ◌∙◌, inl, inr, arith}
use Rattle.std.specs.Prelude.{is_some}
use Rattle.std.proofs.lemmas.Bool.{cases_eq}
use Rattle.tg_base.specs.declared.cell.Cell.{Cell}
use Rattle.tg_unit.specs.declared.segment.Segment.{Segment}
use Rattle.tg_unit.specs.Bits.{IsRun}
use Rattle.tg_unit.specs.Segments.{cells_of, ArePlaces, IsSegment, AreSegments, IsBare, TellsSegment, one_if_held, one_if_junk}
use Rattle.tg_unit.proofs.Keys.{look, look-here, look-past}
use Rattle.tg_unit.proofs.Lookups.{cell_in, look-cells}
use Rattle.tg_unit.proofs.Bits.{held-some, held-none}

pub found-whole : (es : List (ℕ × Segment)) (n least : ℕ) (s : Segment) → look n es ≡ Some s → AreSegments least es → IsSegment s × (1 ≤ length s.cells)
found-whole [] n least s found h = absurd (cc)
found-whole (e ∷ es) n least s found h =
    elim (cases_eq n e.0) [
      | inl same ↦
          let is : Some e.1 ≡ Some s = sym (look-here n e es same) ∙ found in
          let is-s : e.1 ≡ s = cc in
          subst (λ (t : Segment). IsSegment t × (1 ≤ length t.cells)) is-s (h.1, h.2)
      | inr other ↦ found-whole es n (e.0 + 1) s (sym (look-past n e es other) ∙ found) h.3
    ]

-- the cell at a place of a segment
pub at-place : (es : List (ℕ × Segment)) (all : List (ℕ × Cell)) (n i : ℕ) (o : Option Segment) → cells_of es ≡ all → AreSegments 0 es → i < 64 → look n es ≡ o → look (64 * n + i) all ≡ cell_in o i
at-place es all n i o is h lt found = ap (look (64 * n + i)) (sym is) ∙ look-cells es n i 0 lt h ∙ ap (λ t. cell_in t i) found

-- the cell at a position
pub at-position : (es : List (ℕ × Segment)) (all : List (ℕ × Cell)) (p : ℕ) (o : Option Segment) → cells_of es ≡ all → AreSegments 0 es → look (p / 64) es ≡ o → look p all ≡ cell_in o (p % 64)
at-position es all p o is h found =
    let e : p ≡ 64 * (p / 64) + p % 64 = omega arith in
    let lt : p % 64 < 64 = omega arith in
    ap (λ q. look q all) e ∙ at-place es all (p / 64) (p % 64) o is h lt found

pub is-bare : (es : List (ℕ × Segment)) (all : List (ℕ × Cell)) (n : ℕ) → cells_of es ≡ all → AreSegments 0 es → look n es ≡ None → IsBare all n
is-bare es all n is h found = λ i lt. at-place es all n i None is h lt found

pub tells : (es : List (ℕ × Segment)) (all : List (ℕ × Cell)) (n : ℕ) (s : Segment) → cells_of es ≡ all → AreSegments 0 es → look n es ≡ Some s → TellsSegment all n s
tells es all n s is h found =
    let whole = found-whole es n 0 s found h in
    record {
      held = λ i lt. whole.0.held i lt ∙ sym (ap one_if_held (at-place es all n i (Some s) is h lt found));
      junk = λ i lt. whole.0.junk i lt ∙ sym (ap one_if_junk (at-place es all n i (Some s) is h lt found));
      cells = λ i lt. sym (at-place es all n i (Some s) is h lt found);
      rising = whole.0.rising;
    }

first-cell : (es : List (ℕ × Cell)) → 1 ≤ length es → ArePlaces 0 es → (i : ℕ) × (c : Cell) × (i < 64) × (look i es ≡ Some c)
first-cell [] some h = absurd (omega arith)
first-cell (e ∷ es) some h = (e.0, e.1, h.1, look-here e.0 e es refl)

pub not-bare : (es : List (ℕ × Segment)) (all : List (ℕ × Cell)) (n : ℕ) (s : Segment) → cells_of es ≡ all → AreSegments 0 es → look n es ≡ Some s → IsBare all n → ⊥
not-bare es all n s is h found bare =
    let whole = found-whole es n 0 s found h in
    let first = first-cell s.cells whole.1 whole.0.rising in
    let none : look (64 * n + first.0) all ≡ None = bare first.0 first.2 in
    let some : look (64 * n + first.0) all ≡ Some first.1 = at-place es all n first.0 (Some s) is h first.2 found ∙ first.3 in
    absurd (cc)

pub run-held : (es : List (ℕ × Segment)) (all : List (ℕ × Cell)) (p r : ℕ) (s : Segment) → cells_of es ≡ all → AreSegments 0 es → look (p / 64) es ≡ Some s → IsRun s.held (p % 64) r
    → (j : ℕ) → j < r → is_some (look (p + j) all) ≡ true
run-held es all p r s is h found run j less =
    let whole = found-whole es (p / 64) 0 s found h in
    let within : r + p % 64 ≤ 64 = run.within in
    let lt : p % 64 + j < 64 = omega arith in
    let e : p + j ≡ 64 * (p / 64) + (p % 64 + j) = omega arith in
    ap (λ q. is_some (look q all)) e ∙ ap is_some (at-place es all (p / 64) (p % 64 + j) (Some s) is h lt found)
    ∙ held-some (look (p % 64 + j) s.cells) (sym (whole.0.held (p % 64 + j) lt) ∙ run.ones j less)

pub run-bare : (es : List (ℕ × Segment)) (all : List (ℕ × Cell)) (p r : ℕ) (s : Segment) → cells_of es ≡ all → AreSegments 0 es → look (p / 64) es ≡ Some s → IsRun s.held (p % 64) r
    → r + p % 64 < 64 → look (p + r) all ≡ None
run-bare es all p r s is h found run less =
    let whole = found-whole es (p / 64) 0 s found h in
    let lt : p % 64 + r < 64 = omega arith in
    let e : p + r ≡ 64 * (p / 64) + (p % 64 + r) = omega arith in
    ap (λ q. look q all) e ∙ at-place es all (p / 64) (p % 64 + r) (Some s) is h lt found
    ∙ held-none (look (p % 64 + r) s.cells) (sym (whole.0.held (p % 64 + r) lt) ∙ run.zero_after less)
