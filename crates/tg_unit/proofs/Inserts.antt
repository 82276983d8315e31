-- A cell is put into its segment.
use Rattle.std.proofs.Common.{◌≡◌, ◌≢◌, ℕ, ◌+◌, ◌*◌, ◌^◌, ◌<◌, ◌≤◌, List, [], ◌∷◌, ◌++◌, length, Option, Some, None, refl, sym, ap, ◌∙◌, inl, inr, arith}
use Rattle.std.specs.Ordering.{nat_cmp}
use Rattle.std.specs.Map.{set_value}
use Rattle.std.specs.BTreeMap.{is_at}
use Rattle.std.proofs.lemmas.Bool.{cases_order}
use Rattle.tg_base.specs.declared.cell.Cell.{Cell}
use Rattle.tg_unit.specs.declared.segment.Segment.{Segment}
use Rattle.tg_unit.specs.Segments.{by_position, cells_of, ArePlaces, IsSegment, AreSegments}
use Rattle.tg_unit.proofs.Keys.{look, put, look-here, look-past, put-before, put-here, put-past, set-here, set-past}
use Rattle.tg_unit.proofs.Lookups.{none-before}

-- each key is at least a bound
abbrev pub AllFrom : ℕ → List (ℕ × Cell) → Type 0
AllFrom bound [] = Unit {0}
AllFrom bound (x ∷ xs) = (bound ≤ x.0) × AllFrom bound xs

-- each key is below a bound
abbrev pub AllBelow : ℕ → List (ℕ × Cell) → Type 0
AllBelow bound [] = Unit {0}
AllBelow bound (x ∷ xs) = (x.0 < bound) × AllBelow bound xs

from-append : (bound : ℕ) (xs ys : List (ℕ × Cell)) → AllFrom bound xs → AllFrom bound ys → AllFrom bound (xs ++ ys)
from-append bound [] ys h k = k
from-append bound (x ∷ xs) ys h k = (h.0, from-append bound xs ys h.1 k)

from-placed : (bound n : ℕ) (es : List (ℕ × Cell)) → bound ≤ 64 * n → AllFrom bound (by_position n es)
from-placed bound n [] le = tt
from-placed bound n (e ∷ es) le = (omega arith, from-placed bound n es le)

pub from-cells : (es : List (ℕ × Segment)) (bound least : ℕ) → bound ≤ 64 * least → AreSegments least es → AllFrom bound (cells_of es)
from-cells [] bound least le h = tt
from-cells (e ∷ es) bound least le h =
    let from : least ≤ e.0 = h.0 in
    from-append bound (by_position e.0 e.1.cells) (cells_of es) (from-placed bound e.0 e.1.cells (omega arith)) (from-cells es bound (e.0 + 1) (omega arith) h.3)

pub below-placed : (es : List (ℕ × Cell)) (bound n least : ℕ) → 64 * n + 64 ≤ bound → ArePlaces least es → AllBelow bound (by_position n es)
below-placed [] bound n least le h = tt
below-placed (e ∷ es) bound n least le h =
    let lt : e.0 < 64 = h.1 in
    (omega arith, below-placed es bound n (e.0 + 1) le h.2)

put-front : (xs : List (ℕ × Cell)) (bound p : ℕ) (c : Cell) → p < bound → AllFrom bound xs → put xs p c ≡ (p, c) ∷ xs
put-front [] bound p c lt h = refl
put-front (x ∷ xs) bound p c lt h = put-before x xs p c (omega (arith, h.0))

put-second : (xs ys : List (ℕ × Cell)) (bound p : ℕ) (c : Cell) → bound ≤ p → AllBelow bound xs → put (xs ++ ys) p c ≡ xs ++ put ys p c
put-second [] ys bound p c le h = refl
put-second (x ∷ xs) ys bound p c le h = put-past x (xs ++ ys) p c (omega (arith, h.0)) ∙ ap (λ zs. x ∷ zs) (put-second xs ys bound p c le h.1)

put-placed : (es ys : List (ℕ × Cell)) (n m i : ℕ) (c : Cell) → n ≡ m → i < 64 → AllFrom (64 * m + 64) ys
    → put (by_position m es ++ ys) (64 * n + i) c ≡ by_position m (put es i c) ++ ys
put-placed [] ys n m i c h lt from = put-front ys (64 * m + 64) (64 * n + i) c (omega arith) from ∙ ap (λ k. (64 * k + i, c) ∷ ys) h
put-placed (e ∷ es) ys n m i c h lt from =
    elim (cases_order i e.0) [
      | inl same ↦
          put-here (64 * m + e.0, e.1) (by_position m es ++ ys) (64 * n + i) c (omega arith)
          ∙ sym (ap (λ zs. by_position m zs ++ ys) (put-here e es i c same))
      | inr (inl less) ↦
          put-before (64 * m + e.0, e.1) (by_position m es ++ ys) (64 * n + i) c (omega arith)
          ∙ ap (λ k. (64 * k + i, c) ∷ (64 * m + e.0, e.1) ∷ (by_position m es ++ ys)) h
          ∙ sym (ap (λ zs. by_position m zs ++ ys) (put-before e es i c less))
      | inr (inr more) ↦
          put-past (64 * m + e.0, e.1) (by_position m es ++ ys) (64 * n + i) c (omega arith)
          ∙ ap (λ zs. (64 * m + e.0, e.1) ∷ zs) (put-placed es ys n m i c h lt from)
          ∙ sym (ap (λ zs. by_position m zs ++ ys) (put-past e es i c more))
    ]

-- the cells of a segment, if there is one
abbrev pub cells_in : Option Segment → List (ℕ × Cell)
cells_in None = []
cells_in (Some s) = s.cells

pub put-cells : (es : List (ℕ × Segment)) (n i least : ℕ) (c : Cell) (s : Segment) → i < 64 → AreSegments least es → s.cells ≡ put (cells_in (look n es)) i c
    → cells_of (put es n s) ≡ put (cells_of es) (64 * n + i) c
put-cells [] n i least c s lt h new = ap (λ zs. by_position n zs ++ []) new
put-cells (e ∷ es) n i least c s lt h new =
    elim (cases_order n e.0) [
      | inl same ↦
          let cells : s.cells ≡ put e.1.cells i c = new ∙ ap (λ o. put (cells_in o) i c) (look-here n e es same) in
          ap cells_of (put-here e es n s same) ∙ ap (λ zs. by_position e.0 zs ++ cells_of es) cells
          ∙ sym (put-placed e.1.cells (cells_of es) n e.0 i c same lt (from-cells es (64 * e.0 + 64) (e.0 + 1) (omega arith) h.3))
      | inr (inl less) ↦
          let cells : s.cells ≡ (i, c) ∷ [] = new ∙ ap (λ o. put (cells_in o) i c) (none-before (e ∷ es) n e.0 less (omega arith, h.1, h.2, h.3, h.4)) in
          ap cells_of (put-before e es n s less) ∙ ap (λ zs. by_position n zs ++ cells_of (e ∷ es)) cells
          ∙ sym (put-front (cells_of (e ∷ es)) (64 * e.0) (64 * n + i) c (omega arith) (from-cells (e ∷ es) (64 * e.0) e.0 (omega arith) (omega arith, h.1, h.2, h.3, h.4)))
      | inr (inr more) ↦
          let cells : s.cells ≡ put (cells_in (look n es)) i c = new ∙ ap (λ o. put (cells_in o) i c) (look-past n e es (λ p. omega arith)) in
          ap cells_of (put-past e es n s more) ∙ ap (λ zs. by_position e.0 e.1.cells ++ zs) (put-cells es n i (e.0 + 1) c s lt h.3 cells)
          ∙ sym (put-second (by_position e.0 e.1.cells) (cells_of es) (64 * e.0 + 64) (64 * n + i) c (omega arith) (below-placed e.1.cells (64 * e.0 + 64) e.0 0 (omega arith) h.1.rising))
    ]

pub put-whole : (es : List (ℕ × Segment)) (n least : ℕ) (s : Segment) → n < 2 ^ 58 → least ≤ n → IsSegment s → 1 ≤ length s.cells → AreSegments least es → AreSegments least (put es n s)
put-whole [] n least s near le new some h = (le, new, some, tt, near)
put-whole (e ∷ es) n least s near le new some h =
    elim (cases_order n e.0) [
      | inl same ↦ rw (put-here e es n s same) (h.0, new, some, h.3, h.4)
      | inr (inl less) ↦ rw (put-before e es n s less) (le, new, some, (omega arith, h.1, h.2, h.3, h.4), near)
      | inr (inr more) ↦ rw (put-past e es n s more) (h.0, h.1, h.2, put-whole es n (e.0 + 1) s near (omega arith) new some h.3, h.4)
    ]

pub set-put : (es : List (ℕ × Segment)) (n least : ℕ) (old s : Segment) → look n es ≡ Some old → AreSegments least es → set_value (is_at (nat_cmp n)) es s ≡ put es n s
set-put [] n least old s found h = absurd (cc)
set-put (e ∷ es) n least old s found h =
    elim (cases_order n e.0) [
      | inl same ↦ set-here e es n s same ∙ sym (put-here e es n s same)
      | inr (inl less) ↦ let none = none-before (e ∷ es) n e.0 less (omega arith, h.1, h.2, h.3, h.4) in absurd (cc)
      | inr (inr more) ↦
          let ne : n ≢ e.0 = λ p. omega arith in
          set-past e es n s ne ∙ ap (λ zs. e ∷ zs) (set-put es n (e.0 + 1) old s (sym (look-past n e es ne) ∙ found) h.3) ∙ sym (put-past e es n s more)
    ]

pub set-same : (es : List (ℕ × Segment)) (n : ℕ) (s : Segment) → look n es ≡ Some s → set_value (is_at (nat_cmp n)) es s ≡ es
set-same [] n s found = refl
set-same (e ∷ es) n s found =
    elim (cases_order n e.0) [
      | inl same ↦
          let is : Some e.1 ≡ Some s = sym (look-here n e es same) ∙ found in
          let is-s : e.1 ≡ s = cc in
          set-here e es n s same ∙ ap (λ (t : Segment). (e.0, t) ∷ es) (sym is-s)
      | inr (inl less) ↦ let ne : n ≢ e.0 = λ p. omega arith in set-past e es n s ne ∙ ap (λ zs. e ∷ zs) (set-same es n s (sym (look-past n e es ne) ∙ found))
      | inr (inr more) ↦ let ne : n ≢ e.0 = λ p. omega arith in set-past e es n s ne ∙ ap (λ zs. e ∷ zs) (set-same es n s (sym (look-past n e es ne) ∙ found))
    ]
