-- The words of a segment.
use Rattle.std.proofs.Common.{◌≡◌, ◌≢◌, ℕ, ◌+◌, ◌-◌, ◌*◌, ◌/◌, ◌%◌, ◌^◌, ◌<◌, ◌≤◌, true, cond, List, [], ◌∷◌, length, Option, Some, None, refl, sym, ap, subst, ◌∙◌, inl, inr, arith, bit_or}
use Rattle.std.specs.Prelude.{is_some}
use Rattle.std.specs.Int.{bit_at, w64, trailing_ones}
use Rattle.std.proofs.Math.Nat.{div-div-eq-div-mul, div-le_self}
use Rattle.std.proofs.lemmas.Nat.{pow-add}
use Rattle.std.proofs.lemmas.Nat.Bits.{bit_at_set_same, bit_at_set_other, bit_at_and, bit_at_mask_inside, bit_at_mask_below, bit_at-lt, bit_at-trailing_ones, bit_at_above, bit_at_ones, bit_at-zero, same_from_bits}
use Rattle.std.proofs.lemmas.Bool.{cases_eq, cases_lt, cases_order, le-leb}
use Rattle.tg_base.specs.declared.cell.Cell.{Cell}
use Rattle.tg_base.specs.declared.cell.Cell.TheVariants.{Junk, Data}
use Rattle.tg_protocol.specs.Words.{cells_from}
use Rattle.tg_unit.specs.declared.segment.Segment.{Segment}
use Rattle.tg_unit.specs.Bits.{with_bit, without_low, IsRun}
use Rattle.tg_unit.specs.Segments.{ArePlaces, IsSegment, one_if_held, one_if_junk, is_junk}
use Rattle.tg_unit.proofs.Keys.{look, look-here, look-past, put, put-before, put-here, put-past}
use Rattle.tg_unit.proofs.Trims.{places-from, first-goes}

pub look-put-same : (es : List (ℕ × Cell)) (k : ℕ) (c : Cell) → look k (put es k c) ≡ Some c
look-put-same [] k c = look-here k (k, c) [] refl
look-put-same (e ∷ es) k c =
    elim (cases_order k e.0) [
      | inl same ↦ ap (look k) (put-here e es k c same) ∙ look-here k (e.0, c) es same
      | inr (inl less) ↦ ap (look k) (put-before e es k c less) ∙ look-here k (k, c) (e ∷ es) refl
      | inr (inr more) ↦ ap (look k) (put-past e es k c more) ∙ look-past k e (put es k c) (λ p. omega arith) ∙ look-put-same es k c
    ]

pub look-put-other : (es : List (ℕ × Cell)) (k i : ℕ) (c : Cell) → i ≢ k → look i (put es k c) ≡ look i es
look-put-other [] k i c ne = look-past i (k, c) [] ne
look-put-other (e ∷ es) k i c ne =
    elim (cases_order k e.0) [
      | inl same ↦
          ap (look i) (put-here e es k c same) ∙ look-past i (e.0, c) es (λ p. ne (omega arith)) ∙ sym (look-past i e es (λ p. ne (omega arith)))
      | inr (inl less) ↦ ap (look i) (put-before e es k c less) ∙ look-past i (k, c) (e ∷ es) ne
      | inr (inr more) ↦
          ap (look i) (put-past e es k c more)
          ∙ elim (cases_eq i e.0) [
            | inl here ↦ look-here i e (put es k c) here ∙ sym (look-here i e es here)
            | inr there ↦ look-past i e (put es k c) there ∙ look-put-other es k i c ne ∙ sym (look-past i e es there)
          ]
    ]

put-places : (es : List (ℕ × Cell)) (k least : ℕ) (c : Cell) → k < 64 → least ≤ k → ArePlaces least es → ArePlaces least (put es k c)
put-places [] k least c lt le h = (le, lt, tt)
put-places (e ∷ es) k least c lt le h =
    elim (cases_order k e.0) [
      | inl same ↦ rw (put-here e es k c same) (h.0, h.1, h.2)
      | inr (inl less) ↦ rw (put-before e es k c less) (le, lt, (omega arith, h.1, h.2))
      | inr (inr more) ↦ rw (put-past e es k c more) (h.0, h.1, put-places es k (e.0 + 1) c lt (omega arith) h.2)
    ]

put-junk : (c : Cell) (word k i : ℕ) (es : List (ℕ × Cell)) → k < 64 → look k es ≡ None → bit_at word i ≡ one_if_junk (look i es)
    → bit_at (with_bit (is_junk c) word k) i ≡ one_if_junk (look i (put es k c))
put-junk Junk word k i es lt free h =
    elim (cases_eq i k) [
      | inl same ↦ ap (bit_at (bit_or word (1 * 2 ^ k % 2 ^ 64))) same ∙ bit_at_set_same w64 word k lt ∙ sym (ap one_if_junk (ap (λ x. look x (put es k Junk)) same ∙ look-put-same es k Junk))
      | inr other ↦ bit_at_set_other w64 word k lt i other ∙ h ∙ sym (ap one_if_junk (look-put-other es k i Junk other))
    ]
put-junk (Data page) word k i es lt free h =
    elim (cases_eq i k) [
      | inl same ↦ h ∙ ap one_if_junk (ap (λ x. look x es) same ∙ free) ∙ sym (ap one_if_junk (ap (λ x. look x (put es k (Data page))) same ∙ look-put-same es k (Data page)))
      | inr other ↦ h ∙ sym (ap one_if_junk (look-put-other es k i (Data page) other))
    ]

-- a segment after a cell is put
pub put-segment : (old new : Segment) (k : ℕ) (c : Cell) → k < 64 → look k old.cells ≡ None → IsSegment old
    → new.held ≡ with_bit true old.held k → new.junk ≡ with_bit (is_junk c) old.junk k → new.cells ≡ put old.cells k c → IsSegment new
put-segment old new k c lt free h held junk cells = record {
  held = λ i below. ap (λ w. bit_at w i) held ∙ held-bit i below ∙ sym (ap (λ es. one_if_held (look i es)) cells);
  junk = λ i below. ap (λ w. bit_at w i) junk ∙ put-junk c old.junk k i old.cells lt free (h.junk i below) ∙ sym (ap (λ es. one_if_junk (look i es)) cells);
  rising = rw cells (put-places old.cells k 0 c lt (omega arith) h.rising);
}
  where
    held-bit : (i : ℕ) → i < 64 → bit_at (bit_or old.held (1 * 2 ^ k % 2 ^ 64)) i ≡ one_if_held (look i (put old.cells k c))
    held-bit i below =
        elim (cases_eq i k) [
          | inl same ↦
              ap (bit_at (bit_or old.held (1 * 2 ^ k % 2 ^ 64))) same ∙ bit_at_set_same w64 old.held k lt
              ∙ sym (ap one_if_held (ap (λ x. look x (put old.cells k c)) same ∙ look-put-same old.cells k c))
          | inr other ↦ bit_at_set_other w64 old.held k lt i other ∙ h.held i below ∙ sym (ap one_if_held (look-put-other old.cells k i c other))
        ]

low-bit : (word j i : ℕ) → i < j → bit_at (without_low word j) i ≡ 0
low-bit word j i lt = bit_at_and word (2 ^ 64 - 2 ^ j) i ∙ let e = bit_at_mask_below j 64 i lt in omega (arith, e)

high-bit : (word j i : ℕ) → j ≤ i → i < 64 → bit_at (without_low word j) i ≡ bit_at word i
high-bit word j i le lt = bit_at_and word (2 ^ 64 - 2 ^ j) i ∙ let e = bit_at_mask_inside j 64 i le lt in let f = bit_at-lt word i in omega (arith, e, f)

look-low : (es : List (ℕ × Cell)) (j i : ℕ) → i < j → look i (cells_from j es) ≡ None
look-low [] j i lt = refl
look-low (e ∷ es) j i lt =
    elim (cases_lt e.0 j) [
      | inl less ↦ ap (look i) (sym (first-goes e es j less)) ∙ look-low es j i lt
      | inr more ↦ ap (look i) (ap (λ t. cond t (e ∷ cells_from j es) (cells_from j es)) (le-leb j e.0 more)) ∙ look-past i e (cells_from j es) (λ p. omega arith) ∙ look-low es j i lt
    ]

look-high : (es : List (ℕ × Cell)) (j i : ℕ) → j ≤ i → look i (cells_from j es) ≡ look i es
look-high [] j i le = refl
look-high (e ∷ es) j i le =
    elim (cases_lt e.0 j) [
      | inl less ↦ ap (look i) (sym (first-goes e es j less)) ∙ look-high es j i le ∙ sym (look-past i e es (λ p. omega arith))
      | inr more ↦
          ap (look i) (ap (λ t. cond t (e ∷ cells_from j es) (cells_from j es)) (le-leb j e.0 more))
          ∙ elim (cases_eq i e.0) [
            | inl here ↦ look-here i e (cells_from j es) here ∙ sym (look-here i e es here)
            | inr there ↦ look-past i e (cells_from j es) there ∙ look-high es j i le ∙ sym (look-past i e es there)
          ]
    ]

-- a segment after the places below one went
pub trim-whole : (old new : Segment) (j : ℕ) → IsSegment old → new.held ≡ without_low old.held j → new.junk ≡ without_low old.junk j → new.cells ≡ cells_from j old.cells → IsSegment new
trim-whole old new j h held junk cells = record {
  held = λ i below. ap (λ w. bit_at w i) held ∙ go one_if_held old.held refl i below (h.held i below) ∙ sym (ap (λ es. one_if_held (look i es)) cells);
  junk = λ i below. ap (λ w. bit_at w i) junk ∙ go one_if_junk old.junk refl i below (h.junk i below) ∙ sym (ap (λ es. one_if_junk (look i es)) cells);
  rising = rw cells (places-from old.cells j 0 h.rising);
}
  where
    go : (flag : Option Cell → ℕ) (word : ℕ) → flag None ≡ 0 → (i : ℕ) → i < 64 → bit_at word i ≡ flag (look i old.cells) → bit_at (without_low word j) i ≡ flag (look i (cells_from j old.cells))
    go flag word none i below is =
        elim (cases_lt i j) [
          | inl less ↦ low-bit word j i less ∙ sym (ap flag (look-low old.cells j i less) ∙ none)
          | inr more ↦ high-bit word j i more below ∙ is ∙ sym (ap flag (look-high old.cells j i more))
        ]

-- a bit tells of a cell
pub held-some : (o : Option Cell) → one_if_held o ≡ 1 → is_some o ≡ true
held-some None e = absurd (omega arith)
held-some (Some c) e = refl

pub held-none : (o : Option Cell) → one_if_held o ≡ 0 → o ≡ None
held-none None e = refl
held-none (Some c) e = absurd (omega arith)

-- ---- how many places from one on have a cell
shifted : (word j i : ℕ) → bit_at (word / 2 ^ j) i ≡ bit_at word (j + i)
shifted word j i = ap (λ x. x % 2) (div-div-eq-div-mul word (2 ^ j) (2 ^ i) ∙ ap (λ x. word / x) (sym (pow-add 2 j i)))

runs : (word j t : ℕ) → t + j ≤ 64 → ((i : ℕ) → i < t → bit_at (word / 2 ^ j) i ≡ 1) → (t + j < 64 → bit_at (word / 2 ^ j) t ≡ 0) → IsRun word j t
runs word j t within ones after = record {
  within = within;
  ones = λ i below. sym (shifted word j i) ∙ ones i below;
  zero_after = λ below. sym (shifted word j t) ∙ after below;
}

-- a word of 64 bits that is shifted has none but 0 after the last
no-bit : (word j i : ℕ) → word < 2 ^ 64 → 64 ≤ j + i → bit_at (word / 2 ^ j) i ≡ 0
no-bit word j i fits above = shifted word j i ∙ bit_at_above word 64 (j + i) fits above

pub run-of-ones : (word j : ℕ) → j < 64 → word < 2 ^ 64 → IsRun word j (trailing_ones w64 (word / 2 ^ j))
unfolding lib.Count.count_trailing_zeros
run-of-ones word j lt fits =
    elim (cases_lt (word / 2 ^ j + 1) (2 ^ 64)) [
      | inl small ↦
          let h = bit_at-trailing_ones w64 (word / 2 ^ j) small in
          runs word j (trailing_ones w64 (word / 2 ^ j)) (within (trailing_ones w64 (word / 2 ^ j)) h.2) h.2 (λ below. h.1)
      | inr large ↦
          let le : word / 2 ^ j ≤ word = div-le_self word (2 ^ j) in
          let all : word / 2 ^ j ≡ 2 ^ 64 - 1 = omega arith in
          let ones : trailing_ones w64 (word / 2 ^ j) ≡ 64 = ap (trailing_ones w64) all in
          let bits : (i : ℕ) → i < 64 → bit_at (word / 2 ^ j) i ≡ 1 = λ i below. ap (λ w. bit_at w i) all ∙ bit_at_ones 64 i below in
          let fit = within 64 bits in
          subst (IsRun word j) (sym ones) (runs word j 64 fit bits (λ below. absurd (omega arith)))
    ]
  where
    within : (t : ℕ) → ((i : ℕ) → i < t → bit_at (word / 2 ^ j) i ≡ 1) → t + j ≤ 64
    within t ones =
        elim (cases_lt 64 (t + j)) [
          | inl over ↦
              let one : bit_at (word / 2 ^ j) (64 - j) ≡ 1 = ones (64 - j) (omega arith) in
              let none : bit_at (word / 2 ^ j) (64 - j) ≡ 0 = no-bit word j (64 - j) fits (omega arith) in
              absurd (omega (arith, one, none))
          | inr fine ↦ omega arith
        ]

-- ---- whether there is a cell from a place on
pub word-none : (s : Segment) (j : ℕ) → s.held < 2 ^ 64 → IsSegment s → cells_from j s.cells ≡ [] → s.held / 2 ^ j ≡ 0
word-none s j fits h none = same_from_bits (s.held / 2 ^ j) 0 (λ i. shifted s.held j i ∙ go i ∙ sym (bit_at-zero i))
  where
    go : (i : ℕ) → bit_at s.held (j + i) ≡ 0
    go i =
        elim (cases_lt (j + i) 64) [
          | inl below ↦
              h.held (j + i) below
              ∙ ap one_if_held (sym (look-high s.cells j (j + i) (omega arith)) ∙ ap (look (j + i)) none)
          | inr above ↦ bit_at_above s.held 64 (j + i) fits above
        ]

some-from : (s : Segment) (j : ℕ) (e : ℕ × Cell) (es : List (ℕ × Cell)) → IsSegment s → cells_from j s.cells ≡ e ∷ es → s.held / 2 ^ j ≡ 0 → ⊥
some-from s j e es h is none =
    let places : ArePlaces 0 (e ∷ es) = subst (ArePlaces 0) is (places-from s.cells j 0 h.rising) in
    let here : look e.0 (cells_from j s.cells) ≡ Some e.1 = ap (look e.0) is ∙ look-here e.0 e es refl in
    elim (cases_lt e.0 j) [
      | inl low ↦ let missing = look-low s.cells j e.0 low in absurd (cc)
      | inr high ↦
          let one : bit_at s.held e.0 ≡ 1 = h.held e.0 places.1 ∙ ap one_if_held (sym (look-high s.cells j e.0 high) ∙ here) in
          let same : j + (e.0 - j) ≡ e.0 = omega arith in
          let nought : bit_at s.held e.0 ≡ 0 = sym (shifted s.held j (e.0 - j) ∙ ap (bit_at s.held) same) ∙ ap (λ w. bit_at w (e.0 - j)) none ∙ bit_at-zero (e.0 - j) in
          absurd (omega (arith, one, nought))
    ]

pub cells-none : (s : Segment) (j : ℕ) → IsSegment s → s.held / 2 ^ j ≡ 0 → cells_from j s.cells ≡ []
cells-none s j h none = go (cells_from j s.cells) refl
  where
    go : (xs : List (ℕ × Cell)) → cells_from j s.cells ≡ xs → xs ≡ []
    go [] is = refl
    go (e ∷ es) is = absurd (some-from s j e es h is none)

pub cells-some : (s : Segment) (j : ℕ) → s.held < 2 ^ 64 → IsSegment s → (s.held / 2 ^ j ≡ 0 → ⊥) → 1 ≤ length (cells_from j s.cells)
cells-some s j fits h some = go (cells_from j s.cells) refl
  where
    go : (xs : List (ℕ × Cell)) → cells_from j s.cells ≡ xs → 1 ≤ length xs
    go [] is = absurd (some (word-none s j fits h is))
    go (e ∷ es) is = omega arith

pub some-after : (es : List (ℕ × Cell)) (k : ℕ) (c : Cell) → 1 ≤ length (put es k c)
some-after [] k c = omega arith
some-after (e ∷ es) k c =
    elim (cases_order k e.0) [
      | inl same ↦ rw (put-here e es k c same) (omega arith)
      | inr (inl less) ↦ rw (put-before e es k c less) (omega arith)
      | inr (inr more) ↦ rw (put-past e es k c more) (omega arith)
    ]
