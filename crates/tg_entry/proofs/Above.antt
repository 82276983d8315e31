-- A part above another fits behind it.
use Rattle.std.proofs.Common.{◌≡◌, ℕ, zero, suc, ◌+◌, ◌-◌, ◌^◌, ◌<◌, ◌≤◌, Bool, true, false, cond, eqb, ltb, leb, ◌&&◌, List, [], ◌∷◌, length, Option, Some, None, refl, inl, inr, arith}
use Rattle.std.specs.Prelude.{min, max}
use Rattle.std.specs.List.{list_all}
use Rattle.std.specs.Ordering.{is_lt, nat_cmp}
use Rattle.std.specs.Cmp.Lexicographic.{slice_cmp}
use Rattle.std.proofs.lemmas.Bool.{eqb-true, ltb-true, leb-true, lt-ltb, le-ltb, le-leb, or_cases, or_left, or_right}
use Rattle.std.proofs.lemmas.Bool.Decides.{nat_tests}
use Rattle.tg_base.specs.declared.ids.Oid.{Oid}
use Rattle.tg_base.specs.declared.marks.Part.{Part}
use Rattle.tg_base.specs.declared.marks.Part.TheVariants.{All, Text, Num}
use Rattle.tg_base.specs.Clusters.{is_user_object}
use Rattle.tg_base.specs.Parts.{part_cmp, is_part}
use Rattle.tg_codec.specs.Reading.{meets}
use Rattle.tg_codec.specs.Codec.{u8, u16, u32, u64}
use Rattle.tg_codec.specs.Bounds.{is_above, tops}
use Rattle.tg_codec.specs.Streams.{any, oids_from, oid}
use Rattle.tg_codec.proofs.Laws.{IsBytes, and-left, and-right, both}
use Rattle.tg_codec.proofs.Bounds.{fit_above}
use Rattle.tg_entry.specs.Parts.{over, text_above, part_above}
use Rattle.tg_entry.specs.Records.{is_object, is_byte, is_number}

-- ---- numbers from a range

pub meets_one : (low high n : ℕ) → low ≤ n → n ≤ high → meets ((low, high) ∷ []) n n ≡ true
meets_one low high n p q = or_left _ _ (le-leb (max low n) (min high n) (omega (arith, p, q)))

pub u8_fits : (low high n : ℕ) → low ≤ n → n ≤ high → n < 256 → (u8 ((low, high) ∷ [])).fits n ≡ true
u8_fits low high n p q r = both _ _ (meets_one low high n p q) (lt-ltb _ _ r)

pub u16_fits : (low high n : ℕ) → low ≤ n → n ≤ high → n < 2 ^ 16 → (u16 ((low, high) ∷ [])).fits n ≡ true
u16_fits low high n p q r = both _ _ (meets_one low high n p q) (lt-ltb _ _ r)

pub u32_fits : (low high n : ℕ) → low ≤ n → n ≤ high → n < 2 ^ 32 → (u32 ((low, high) ∷ [])).fits n ≡ true
u32_fits low high n p q r = both _ _ (meets_one low high n p q) (lt-ltb _ _ r)

pub u64_fits : (low high n : ℕ) → low ≤ n → n ≤ high → n < 2 ^ 64 → (u64 ((low, high) ∷ [])).fits n ≡ true
u64_fits low high n p q r = both _ _ (meets_one low high n p q) (lt-ltb _ _ r)

pub u64_any : (n : ℕ) → is_number n ≡ true → (u64 any).fits n ≡ true
u64_any n e = let lt : n < 2 ^ 64 = ltb-true _ _ e in u64_fits 0 (2 ^ 64 - 1) n (omega arith) (omega (arith, lt)) lt

-- an object from low on
pub oid_fits : (low : ℕ) (o : Oid) → is_object o ≡ true → low ≤ o.0 → (oid (oids_from low)).fits o ≡ true
oid_fits low o e le = elim (or_cases (eqb o.0 0) (is_user_object o) e) [
  | inl dir ↦
      let none : o.0 ≡ 0 = eqb-true _ _ dir in
      let met : leb (max low o.0) (min 0 o.0) ≡ true = le-leb (max low o.0) (min 0 o.0) (omega (arith, none, le)) in
      let small : ltb o.0 (2 ^ 32) ≡ true = lt-ltb o.0 (2 ^ 32) (omega (arith, none)) in
      both _ _ (or_left _ _ met) small
  | inr user ↦
      let from : 0x1000000 ≤ o.0 = leb-true _ _ (and-left _ _ user) in
      let upto : o.0 < 0x7000000 = ltb-true _ _ (and-right _ _ user) in
      let met : leb (max (max low 0x01000000) o.0) (min 0x06ffffff o.0) ≡ true = le-leb (max (max low 0x01000000) o.0) (min 0x06ffffff o.0) (omega (arith, from, upto, le)) in
      let small : ltb o.0 (2 ^ 32) ≡ true = lt-ltb o.0 (2 ^ 32) (omega (arith, upto)) in
      both _ _ (or_right _ _ (or_left _ _ met)) small
]

-- an object's number has four bytes
pub oid_small : (o : Oid) → is_object o ≡ true → ltb o.0 (2 ^ 32) ≡ true
oid_small o e = let fits = oid_fits 0 o e (omega arith) in and-right (meets (oids_from 0) o.0 o.0) (ltb o.0 (2 ^ 32)) fits

-- ---- texts

pub bytes_at : (t : List ℕ) → list_all is_byte t ≡ true → IsBytes t
bytes_at [] e i = omega arith
bytes_at (b ∷ t) e zero = ltb-true _ _ (and-left _ _ e)
bytes_at (b ∷ t) e (suc i) = bytes_at t (and-right _ _ e) i

-- what stands after a text is above it
pub less_above : (s t : List ℕ) → is_lt (slice_cmp nat_cmp s t) ≡ true → is_above s t ≡ true
less_above [] [] e = absurd cc
less_above [] (b ∷ t) e = refl
less_above (a ∷ s) [] e = absurd cc
less_above (a ∷ s) (b ∷ t) e = grind (arith, nat_tests, less_above s t)

-- bytes above a text are more than the greatest bytes that it begins with
tops_lt : (s t : List ℕ) → IsBytes t → is_above s t ≡ true → tops s < length t
tops_lt [] [] h e = absurd cc
tops_lt [] (b ∷ t) h e = omega arith
tops_lt (a ∷ s) [] h e = absurd cc
tops_lt (a ∷ s) (b ∷ t) h e =
    elim (eqb a 255) as (λ k. eqb a 255 ≡ k → cond k (suc (tops s)) 0 < suc (length t)) [
      | true ↦ λ k.
          let top : a ≡ 255 = eqb-true _ _ k in
          let small : b < 256 = h 0 in
          let not_lt : ltb a b ≡ false = le-ltb _ _ (omega (arith, top, small)) in
          let rest : is_above s t ≡ true = elim (or_cases (ltb a b) (eqb a b && is_above s t) e) [
            | inl lt ↦ absurd (omega (arith, ltb-true a b lt, top, small))
            | inr more ↦ and-right _ _ more
          ] in
          let less = tops_lt s t (λ i. h (suc i)) rest in
          omega (arith, less)
      | false ↦ λ k. omega arith
    ] refl

text_fits : (s t : List ℕ) → is_part (Text t) ≡ true → is_above s t ≡ true → (text_above s).fits t ≡ true
text_fits s t e up =
    let high : length t ≤ 4096 = leb-true _ _ (and-right _ _ (and-left _ _ e)) in
    let bytes = bytes_at t (and-right _ _ e) in
    let low = tops_lt s t bytes up in
    both _ _ (u16_fits (tops s + 1) 4096 (length t) (omega (arith, low)) high (omega (arith, high))) (fit_above s t bytes up)

some_above : (t : List ℕ) → is_part (Text t) ≡ true → is_above [] t ≡ true
some_above [] e = absurd cc
some_above (b ∷ t) e = refl

-- ---- parts

-- whether a part stands after the one before, if there is one
abbrev pub is_after : Option Part → Part → Bool
is_after None p = true
is_after (Some b) p = is_lt (part_cmp b p)

-- the tag of a text above a text
text_tag : (s t : List ℕ) → is_part (Text t) ≡ true → is_above s t ≡ true → ltb (tops s) 4096 ≡ true
text_tag s t e up =
    let high : length t ≤ 4096 = leb-true _ _ (and-right _ _ (and-left _ _ e)) in
    let low = tops_lt s t (bytes_at t (and-right _ _ e)) up in
    lt-ltb _ _ (omega (arith, low, high))

tag_fits : (b : Bool) → (u8 ((cond b 1 2, 2) ∷ [])).fits 2 ≡ true
tag_fits true = refl
tag_fits false = refl

pub part_fits : (before : Option Part) (p : Part) → is_part p ≡ true → is_after before p ≡ true → (part_above before).fits p ≡ true
part_fits None All e h = refl
part_fits None (Text t) e h = both _ _ refl (text_fits [] t e (some_above t e))
part_fits None (Num n) e h = both _ _ refl (u64_any n e)
part_fits (Some All) All e h = absurd cc
part_fits (Some All) (Text t) e h = both _ _ refl (text_fits [] t e (some_above t e))
part_fits (Some All) (Num n) e h = both _ _ refl (u64_any n e)
part_fits (Some (Text s)) All e h = absurd cc
part_fits (Some (Text s)) (Text t) e h =
    let up = less_above s t h in
    let tag = text_tag s t e up in
    let one : (u8 ((cond (ltb (tops s) 4096) 1 2, 2) ∷ [])).fits 1 ≡ true = rw tag refl in
    both _ _ one (text_fits s t e up)
part_fits (Some (Text s)) (Num n) e h = both _ _ (tag_fits (ltb (tops s) 4096)) (u64_any n e)
part_fits (Some (Num m)) All e h = absurd cc
part_fits (Some (Num m)) (Text t) e h = absurd cc
part_fits (Some (Num m)) (Num n) e h =
    let lt : m < n = number_lt m n h in
    let most : n < 2 ^ 64 = ltb-true _ _ e in
    let room : ltb m (2 ^ 64 - 1) ≡ true = lt-ltb _ _ (omega (arith, lt, most)) in
    let tag : (u8 ((cond (ltb m (2 ^ 64 - 1)) 2 3, 2) ∷ [])).fits 2 ≡ true = rw room refl in
    let range : (u64 (over m (2 ^ 64 - 1) ∷ [])).fits n ≡ true = rw room (u64_fits (m + 1) (2 ^ 64 - 1) n (omega (arith, lt)) (omega (arith, most)) most) in
    both _ _ tag range
  where
    number_lt : (m n : ℕ) → is_lt (nat_cmp m n) ≡ true → m < n
    number_lt m n e = grind (arith, nat_tests)
