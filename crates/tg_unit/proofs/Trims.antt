-- Cells below a position go: whole segments first, and then places of the next.
use Rattle.std.proofs.Common.{◌≡◌, ℕ, ◌+◌, ◌*◌, ◌<◌, ◌≤◌, cond, List, [], ◌∷◌, ◌++◌, length, Some, None, refl, sym, ap, ap₂, ◌∙◌, inl, inr, arith}
use Rattle.std.specs.Prelude.{nat_le}
use Rattle.std.specs.Ordering.{nat_cmp}
use Rattle.std.specs.Map.{set_value, remove_entry}
use Rattle.std.specs.BTreeMap.{is_at}
use Rattle.std.proofs.lemmas.Bool.{cases_eq, cases_lt, le-leb, lt-leb}
use Rattle.std.proofs.lemmas.List.Elements.{filter-append}
use Rattle.tg_base.specs.declared.cell.Cell.{Cell}
use Rattle.tg_protocol.specs.Words.{cells_from}
use Rattle.tg_unit.specs.declared.segment.Segment.{Segment}
use Rattle.tg_unit.specs.Segments.{by_position, cells_of, ArePlaces, IsSegment, AreSegments}
use Rattle.tg_unit.proofs.Keys.{look, look-here, look-past, set-here, set-past, remove-here, remove-past}
use Rattle.tg_unit.proofs.Lookups.{none-before}
use Rattle.tg_unit.proofs.Inserts.{AllFrom, AllBelow, from-cells, below-placed}

keeps-first : (b : ℕ) (x : ℕ × Cell) (xs : List (ℕ × Cell)) → b ≤ x.0 → cells_from b (x ∷ xs) ≡ x ∷ cells_from b xs
keeps-first b x xs le = ap (λ t. cond t (x ∷ cells_from b xs) (cells_from b xs)) (le-leb b x.0 le)

drops-first : (b : ℕ) (x : ℕ × Cell) (xs : List (ℕ × Cell)) → x.0 < b → cells_from b (x ∷ xs) ≡ cells_from b xs
drops-first b x xs lt = ap (λ t. cond t (x ∷ cells_from b xs) (cells_from b xs)) (lt-leb b x.0 lt)

all-kept : (xs : List (ℕ × Cell)) (bound b : ℕ) → b ≤ bound → AllFrom bound xs → cells_from b xs ≡ xs
all-kept [] bound b le h = refl
all-kept (x ∷ xs) bound b le h = keeps-first b x xs (omega (arith, h.0)) ∙ ap (λ zs. x ∷ zs) (all-kept xs bound b le h.1)

all-dropped : (xs : List (ℕ × Cell)) (bound b : ℕ) → bound ≤ b → AllBelow bound xs → cells_from b xs ≡ []
all-dropped [] bound b le h = refl
all-dropped (x ∷ xs) bound b le h = drops-first b x xs (omega (arith, h.0)) ∙ all-dropped xs bound b le h.1

kept-placed : (es : List (ℕ × Cell)) (n m j : ℕ) → n ≡ m → cells_from (64 * n + j) (by_position m es) ≡ by_position m (cells_from j es)
kept-placed [] n m j h = refl
kept-placed (e ∷ es) n m j h =
    elim (cases_lt e.0 j) [
      | inl less ↦
          drops-first (64 * n + j) (64 * m + e.0, e.1) (by_position m es) (omega arith) ∙ kept-placed es n m j h
          ∙ sym (ap (by_position m) (drops-first j e es less))
      | inr more ↦
          keeps-first (64 * n + j) (64 * m + e.0, e.1) (by_position m es) (omega arith) ∙ ap (λ zs. (64 * m + e.0, e.1) ∷ zs) (kept-placed es n m j h)
          ∙ sym (ap (by_position m) (keeps-first j e es more))
    ]

split : (b : ℕ) (e : ℕ × Segment) (es : List (ℕ × Segment)) → cells_from b (cells_of (e ∷ es)) ≡ cells_from b (by_position e.0 e.1.cells) ++ cells_from b (cells_of es)
split b e es = filter-append (λ (x : ℕ × Cell). nat_le b x.0) (by_position e.0 e.1.cells) (cells_of es)

-- the first segment goes where its number is lower
pub drop-segment : (e : ℕ × Segment) (es : List (ℕ × Segment)) (n j least : ℕ) → e.0 < n → AreSegments least (e ∷ es)
    → cells_from (64 * n + j) (cells_of es) ≡ cells_from (64 * n + j) (cells_of (e ∷ es))
drop-segment e es n j least lt h =
    sym (split (64 * n + j) e es
    ∙ ap (λ zs. zs ++ cells_from (64 * n + j) (cells_of es))
    (all-dropped (by_position e.0 e.1.cells) (64 * e.0 + 64) (64 * n + j) (omega arith) (below-placed e.1.cells (64 * e.0 + 64) e.0 0 (omega arith) h.1.rising)))

pub weaker : (es : List (ℕ × Segment)) (low least : ℕ) → low ≤ least → AreSegments least es → AreSegments low es
weaker [] low least le h = tt
weaker (e ∷ es) low least le h = (omega (arith, h.0), h.1, h.2, h.3, h.4)

pub keep-segments : (es : List (ℕ × Segment)) (n j : ℕ) → j < 64 → AreSegments (n + 1) es → cells_from (64 * n + j) (cells_of es) ≡ cells_of es
keep-segments es n j lt h = all-kept (cells_of es) (64 * n + 64) (64 * n + j) (omega arith) (from-cells es (64 * n + 64) (n + 1) (omega arith) h)

-- places of the segment go
pub trim-set : (es : List (ℕ × Segment)) (n j : ℕ) (old s : Segment) → j < 64 → look n es ≡ Some old → s.cells ≡ cells_from j old.cells → AreSegments n es
    → cells_of (set_value (is_at (nat_cmp n)) es s) ≡ cells_from (64 * n + j) (cells_of es)
trim-set [] n j old s lt found new h = absurd (cc)
trim-set (e ∷ es) n j old s lt found new h =
    elim (cases_eq n e.0) [
      | inl same ↦
          let is : Some e.1 ≡ Some old = sym (look-here n e es same) ∙ found in
          let is-old : e.1 ≡ old = cc in
          let cells : s.cells ≡ cells_from j e.1.cells = new ∙ ap (λ (t : Segment). cells_from j t.cells) (sym is-old) in
          ap cells_of (set-here e es n s same) ∙ ap (λ zs. by_position e.0 zs ++ cells_of es) cells
          ∙ ap₂ (λ xs ys. xs ++ ys) (sym (kept-placed e.1.cells n e.0 j same)) (sym (keep-segments es n j lt (weaker es (n + 1) (e.0 + 1) (omega arith) h.3)))
          ∙ sym (split (64 * n + j) e es)
      | inr other ↦ let none : look n (e ∷ es) ≡ None = look-past n e es other ∙ none-before es n (e.0 + 1) (omega (arith, h.0)) h.3 in absurd (cc)
    ]

-- the segment goes, with no cell from the place on
pub trim-remove : (es : List (ℕ × Segment)) (n j : ℕ) → j < 64 → ((s : Segment) → look n es ≡ Some s → cells_from j s.cells ≡ []) → AreSegments n es
    → cells_of (remove_entry (is_at (nat_cmp n)) es) ≡ cells_from (64 * n + j) (cells_of es)
trim-remove [] n j lt gone h = refl
trim-remove (e ∷ es) n j lt gone h =
    elim (cases_eq n e.0) [
      | inl same ↦
          ap cells_of (remove-here e es n same)
          ∙ ap₂ (λ xs ys. xs ++ ys) (sym (kept-placed e.1.cells n e.0 j same ∙ ap (by_position e.0) (gone e.1 (look-here n e es same)))) (sym (keep-segments es n j lt (weaker es (n + 1) (e.0 + 1) (omega arith) h.3)))
          ∙ sym (split (64 * n + j) e es)
      | inr other ↦
          ap cells_of (remove-past e es n other)
          ∙ ap (λ zs. by_position e.0 e.1.cells ++ cells_of zs) (absent es n (e.0 + 1) (omega (arith, h.0)) h.3)
          ∙ sym (all-kept (cells_of (e ∷ es)) (64 * n + 64) (64 * n + j) (omega arith) (from-cells (e ∷ es) (64 * n + 64) (n + 1) (omega arith) (omega (arith, h.0), h.1, h.2, h.3, h.4)))
    ]
  where
    absent : (es : List (ℕ × Segment)) (n least : ℕ) → n < least → AreSegments least es → remove_entry (is_at (nat_cmp n)) es ≡ es
    absent [] n least below h = refl
    absent (e ∷ es) n least below h = remove-past e es n (λ p. omega (arith, h.0)) ∙ ap (λ zs. e ∷ zs) (absent es n (e.0 + 1) (omega (arith, h.0)) h.3)

pub removed-whole : (es : List (ℕ × Segment)) (n least : ℕ) → AreSegments least es → AreSegments least (remove_entry (is_at (nat_cmp n)) es)
removed-whole [] n least h = tt
removed-whole (e ∷ es) n least h =
    elim (cases_eq n e.0) [
      | inl same ↦ rw (remove-here e es n same) (weaker es least (e.0 + 1) (omega (arith, h.0)) h.3)
      | inr other ↦ rw (remove-past e es n other) (h.0, h.1, h.2, removed-whole es n (e.0 + 1) h.3, h.4)
    ]

pub set-whole : (es : List (ℕ × Segment)) (n least : ℕ) (s : Segment) → IsSegment s → 1 ≤ length s.cells → AreSegments least es → AreSegments least (set_value (is_at (nat_cmp n)) es s)
set-whole [] n least s new some h = tt
set-whole (e ∷ es) n least s new some h =
    elim (cases_eq n e.0) [
      | inl same ↦ rw (set-here e es n s same) (h.0, new, some, h.3, h.4)
      | inr other ↦ rw (set-past e es n s other) (h.0, h.1, h.2, set-whole es n (e.0 + 1) s new some h.3, h.4)
    ]

-- places below one go from the cells of a segment
pub places-weaker : (es : List (ℕ × Cell)) (low least : ℕ) → low ≤ least → ArePlaces least es → ArePlaces low es
places-weaker [] low least le h = tt
places-weaker (e ∷ es) low least le h = (omega (arith, h.0), h.1, h.2)

pub places-from : (es : List (ℕ × Cell)) (j least : ℕ) → ArePlaces least es → ArePlaces least (cells_from j es)
places-from [] j least h = tt
places-from (e ∷ es) j least h =
    elim (cases_lt e.0 j) [
      | inl less ↦ rw (drops-first j e es less) (places-weaker (cells_from j es) least (e.0 + 1) (omega (arith, h.0)) (places-from es j (e.0 + 1) h.2))
      | inr more ↦ rw (keeps-first j e es more) (h.0, h.1, places-from es j (e.0 + 1) h.2)
    ]

pub none-below : (es : List (ℕ × Cell)) (j least : ℕ) → j ≤ least → ArePlaces least es → cells_from j es ≡ es
none-below [] j least le h = refl
none-below (e ∷ es) j least le h = keeps-first j e es (omega (arith, h.0)) ∙ ap (λ zs. e ∷ zs) (none-below es j (e.0 + 1) (omega (arith, h.0)) h.2)

pub first-goes : (e : ℕ × Cell) (es : List (ℕ × Cell)) (j : ℕ) → e.0 < j → cells_from j es ≡ cells_from j (e ∷ es)
first-goes e es j lt = sym (drops-first j e es lt)
