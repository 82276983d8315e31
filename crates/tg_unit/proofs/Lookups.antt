-- The cell at a position stands at its place in its segment.
use Rattle.std.proofs.Common.{◌≡◌, ◌≢◌, ℕ, ◌+◌, ◌*◌, ◌<◌, ◌≤◌, List, [], ◌∷◌, ◌++◌, Option, Some, None, refl, sym, ap, ◌∙◌, inl, inr, arith}
use Rattle.std.proofs.lemmas.Bool.{cases_eq}
use Rattle.tg_base.specs.declared.cell.Cell.{Cell}
use Rattle.tg_unit.specs.declared.segment.Segment.{Segment}
use Rattle.tg_unit.specs.Segments.{by_position, cells_of, ArePlaces, AreSegments}
use Rattle.tg_unit.proofs.Keys.{look, look-here, look-past}

pub look-first : (p : ℕ) (xs ys : List (ℕ × Cell)) → look p ys ≡ None → look p (xs ++ ys) ≡ look p xs
look-first p [] ys h = h
look-first p (x ∷ xs) ys h =
    elim (cases_eq p x.0) [
      | inl same ↦ look-here p x (xs ++ ys) same ∙ sym (look-here p x xs same)
      | inr other ↦ look-past p x (xs ++ ys) other ∙ look-first p xs ys h ∙ sym (look-past p x xs other)
    ]

pub look-second : (p : ℕ) (xs ys : List (ℕ × Cell)) → look p xs ≡ None → look p (xs ++ ys) ≡ look p ys
look-second p [] ys h = refl
look-second p (x ∷ xs) ys h =
    elim (cases_eq p x.0) [
      | inl same ↦ let found = look-here p x xs same in absurd (cc)
      | inr other ↦ look-past p x (xs ++ ys) other ∙ look-second p xs ys (sym (look-past p x xs other) ∙ h)
    ]

pub look-placed : (n m i : ℕ) (es : List (ℕ × Cell)) → n ≡ m → look (64 * n + i) (by_position m es) ≡ look i es
look-placed n m i [] h = refl
look-placed n m i (e ∷ es) h =
    elim (cases_eq i e.0) [
      | inl same ↦ look-here (64 * n + i) (64 * m + e.0, e.1) (by_position m es) (omega arith) ∙ sym (look-here i e es same)
      | inr other ↦
          let apart : (64 * n + i) ≢ (64 * m + e.0) = λ p. other (omega arith) in
          look-past (64 * n + i) (64 * m + e.0, e.1) (by_position m es) apart ∙ look-placed n m i es h ∙ sym (look-past i e es other)
    ]

pub look-elsewhere : (n m i least : ℕ) (es : List (ℕ × Cell)) → n ≢ m → i < 64 → ArePlaces least es → look (64 * n + i) (by_position m es) ≡ None
look-elsewhere n m i least [] ne lt h = refl
look-elsewhere n m i least (e ∷ es) ne lt h =
    let below : e.0 < 64 = h.1 in
    let apart : (64 * n + i) ≢ (64 * m + e.0) = λ p. ne (omega arith) in
    look-past (64 * n + i) (64 * m + e.0, e.1) (by_position m es) apart ∙ look-elsewhere n m i (e.0 + 1) es ne lt h.2

pub look-before : (es : List (ℕ × Segment)) (n i least : ℕ) → n < least → i < 64 → AreSegments least es → look (64 * n + i) (cells_of es) ≡ None
look-before [] n i least below lt h = refl
look-before (e ∷ es) n i least below lt h =
    let from : least ≤ e.0 = h.0 in
    let ne : n ≢ e.0 = λ p. omega arith in
    look-second (64 * n + i) (by_position e.0 e.1.cells) (cells_of es) (look-elsewhere n e.0 i 0 e.1.cells ne lt h.1.rising)
    ∙ look-before es n i (e.0 + 1) (omega arith) lt h.3

pub none-before : (es : List (ℕ × Segment)) (n least : ℕ) → n < least → AreSegments least es → look n es ≡ None
none-before [] n least below h = refl
none-before (e ∷ es) n least below h =
    let from : least ≤ e.0 = h.0 in
    let ne : n ≢ e.0 = λ p. omega arith in
    look-past n e es ne ∙ none-before es n (e.0 + 1) (omega arith) h.3

-- the cell at a place of a segment, if there is that segment
abbrev pub cell_in : Option Segment → ℕ → Option Cell
cell_in None i = None
cell_in (Some s) i = look i s.cells

pub look-cells : (es : List (ℕ × Segment)) (n i least : ℕ) → i < 64 → AreSegments least es → look (64 * n + i) (cells_of es) ≡ cell_in (look n es) i
look-cells [] n i least lt h = refl
look-cells (e ∷ es) n i least lt h =
    elim (cases_eq n e.0) [
      | inl same ↦
          look-first (64 * n + i) (by_position e.0 e.1.cells) (cells_of es) (look-before es n i (e.0 + 1) (omega arith) lt h.3)
          ∙ look-placed n e.0 i e.1.cells same ∙ sym (ap (λ o. cell_in o i) (look-here n e es same))
      | inr other ↦
          look-second (64 * n + i) (by_position e.0 e.1.cells) (cells_of es) (look-elsewhere n e.0 i 0 e.1.cells other lt h.1.rising)
          ∙ look-cells es n i (e.0 + 1) lt h.3 ∙ sym (ap (λ o. cell_in o i) (look-past n e es other))
    ]
