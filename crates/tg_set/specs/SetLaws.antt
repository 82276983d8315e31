-- The laws of sets.
use Rattle.std.specs.Prelude.{◌≡◌, ℕ, suc, ◌+◌, ◌-◌, ◌<◌, ◌≤◌, ◌^◌, min, max, nat_le, nat_lt, Bool, true, false, ◌||◌, List, [], ◌∷◌, ◌++◌, length, Option, Some, None, Ok, refl}
use Rattle.std.specs.Ordering.{nat_cmp, match_ordering, is_eq}
use Rattle.std.specs.declared.cmp.Ordering.TheVariants.{Less, Equal, Greater}
use Rattle.std.specs.BTreeMap.{is_at}
use Rattle.std.specs.BTreeSet.{insert_key}
use Rattle.std.specs.Set.{remove_key}
use Rattle.std.proofs.Common.{cond, ap, sym, ◌∙◌, arith, eqb}
use Rattle.std.proofs.lemmas.Bool.{eqb-true, le-leb, lt-ltb, ltb-true}
use Rattle.std.proofs.lemmas.Bool.Decides.{nat_tests}
use Rattle.std.proofs.lemmas.Cmp.{ranked}
use Rattle.tg_base.specs.declared.ids.Oid.{Oid}
use Rattle.tg_codec.specs.Codec.{Codec, u32, u64, fit_many}
use Rattle.tg_codec.specs.Reading.{meets}
use Rattle.tg_codec.specs.Streams.{any}
use Rattle.tg_codec.proofs.Laws.{IsExact, IsCodec, dep_exact, via_exact, fixed_law, variant_law, only_if_exact, no_front, and-left, and-right, both}
use Rattle.tg_codec.proofs.Shapes.{tagged_law, chosen_law, behind_many_exact}
use Rattle.tg_codec.proofs.Widths.{u32_law, u64_law}
use Rattle.tg_kind.specs.Bytes.{IsBytes}
use Rattle.tg_kind.specs.Headers.{is_header}
use Rattle.tg_base.specs.Parts.{is_part}
use Rattle.tg_kind.specs.Parts.{overlap}
use Rattle.tg_kind.specs.Words.{after}
use Rattle.tg_kind.specs.Words as words
use Rattle.tg_set.specs.declared.set.SetOp.{SetOp}
use Rattle.tg_set.specs.declared.set.SetOp.TheVariants.{Include, Exclude}
use Rattle.tg_set.specs.declared.set.SetAsk.{SetAsk}
use Rattle.tg_set.specs.declared.set.SetAsk.TheVariants.{Member, Count, Between}
use Rattle.tg_set.specs.declared.set.SetAns.TheVariants as answers
use Rattle.tg_set.specs.Sets.{Numbers, has, most, takes, with_number, without_number, rises, number_format, after_number, is_object, is_state, is_of, first, applied, answered, touched, looked, saved, loaded, state_format, op_code, as_include, as_exclude, include_format, exclude_format, op_format}

-- ---- the formats

pub after_exact : {A : Type 0} (code : ℕ) (c : Codec A) → IsExact c → IsExact (after code c)
after_exact code c law = via_exact _ _ (dep_exact (fixed_law (code ∷ [])).exact (λ _. law)) (λ p e. refl) (λ x. refl)

number_exact : (last : Option ℕ) → IsExact (number_format last)
number_exact last = only_if_exact (rises last) (u64_law any).exact

pub state_exact : IsExact state_format
unfolding state_format
state_exact = after_exact 6 _ (behind_many_exact number_format after_number (λ n. None) (u32_law any).exact number_exact)

inner : (m n : ℕ) → Some m ≡ Some n → m ≡ n
inner m n e = cc

include_forth : (x : SetOp) (n : ℕ) → as_include x ≡ Some n → Include n ≡ x
include_forth (Include m) n e = ap (λ k. Include k) (sym (inner m n e))
include_forth (Exclude m) n e = absurd cc

exclude_forth : (x : SetOp) (n : ℕ) → as_exclude x ≡ Some n → Exclude n ≡ x
exclude_forth (Include m) n e = absurd cc
exclude_forth (Exclude m) n e = ap (λ k. Exclude k) (sym (inner m n e))

include_law : IsCodec include_format
include_law = variant_law _ _ (u64_law any) (λ n. refl) include_forth

exclude_law : IsCodec exclude_format
exclude_law = variant_law _ _ (u64_law any) (λ n. refl) exclude_forth

second_code : (t : ℕ) → meets ((0x60, 0x61) ∷ []) t t ≡ true → eqb t 0x60 ≡ false → 0x61 ≡ t
second_code t m ne = grind (arith, nat_tests)

code_is : (t : ℕ) (b : Bool) (x : SetOp) → eqb t 0x60 ≡ b → meets ((0x60, 0x61) ∷ []) t t ≡ true → (cond b include_format exclude_format).fits x ≡ true → op_code x ≡ t
code_is t true (Include n) is m e = sym (eqb-true _ _ is)
code_is t true (Exclude n) is m e = absurd cc
code_is t false (Include n) is m e = absurd cc
code_is t false (Exclude n) is m e = second_code t m is

pub op_law : IsCodec op_format
unfolding op_format
op_law = tagged_law _ op_code _ (λ t. chosen_law (eqb t 0x60) _ _ include_law exclude_law) (λ t x m e. code_is t _ x refl m e)

-- ---- a number among others

differ : (n x : ℕ) → n < x → eqb n x ≡ false
differ n x lt = grind (arith, nat_tests)

flipped : (n m : ℕ) → eqb n m ≡ false → eqb m n ≡ false
flipped n m ne = grind (arith, nat_tests)

other_at : (n m x : ℕ) → eqb n m ≡ false → eqb n x ≡ true → eqb m x ≡ false
other_at n m x ne is = grind (arith, nat_tests)

pub at_is : (n x : ℕ) → is_at (nat_cmp n) x ≡ eqb n x
at_is n x =
    elim (nat_lt n x) as (λ b. nat_lt n x ≡ b → is_eq (cond b Less (cond (eqb n x) Equal Greater)) ≡ eqb n x) [
      | true ↦ λ lt. sym (differ n x (ltb-true _ _ lt))
      | false ↦ λ ge. elim (eqb n x) as (λ b. is_eq (cond b Equal Greater) ≡ b) [
        | true ↦ refl
        | false ↦ refl
      ]
    ] refl

not_false : (b : Bool) → b ≡ true → b ≡ false → ⊥
not_false true e f = absurd cc
not_false false e f = absurd cc

or_right : (a b : Bool) → a ≡ false → (a || b) ≡ true → b ≡ true
or_right true b f e = absurd cc
or_right false b f e = e

-- ---- numbers that rise

abbrev pub AreRising : Option ℕ → Numbers → Type 0
AreRising last numbers = fit_many number_format after_number (length numbers) last numbers ≡ true

above : (last : Option ℕ) (m n : ℕ) → rises last m ≡ true → m < n → rises last n ≡ true
above None m n e lt = refl
above (Some last) m n e lt = let below : last < m = ltb-true _ _ e in lt-ltb _ _ (omega (arith, below, lt))

-- numbers that rise after one that comes after the last
lower : (numbers : Numbers) (last : Option ℕ) (m : ℕ) → rises last m ≡ true → AreRising (Some m) numbers → AreRising last numbers
unfolding fit_many
lower [] last m e h = refl
lower (n ∷ numbers) last m e h =
    let head = and-left _ _ h in
    let test : nat_lt m n ≡ true = and-right _ _ head in
    let lt : m < n = ltb-true _ _ test in
    both _ _ (both _ _ (and-left _ _ head) (above last m n e lt)) (and-right _ _ h)

with_rising : (numbers : Numbers) (last : Option ℕ) (n : ℕ) → (u64 any).fits n ≡ true → rises last n ≡ true → AreRising last numbers → AreRising last (insert_key nat_cmp numbers n)
unfolding fit_many
with_rising [] last n f e h = both _ _ (both _ _ f e) refl
with_rising (x ∷ numbers) last n f e h =
    let head : (number_format last).fits x ≡ true = and-left _ (fit_many number_format after_number (length numbers) (Some x) numbers) h in
    let tail : AreRising (Some x) numbers = and-right ((number_format last).fits x) _ h in
    elim (nat_cmp n x) as (λ o. o ≡ nat_cmp n x → AreRising last (match_ordering o (n ∷ x ∷ numbers) (x ∷ numbers) (x ∷ insert_key nat_cmp numbers n))) [
      | Less ↦ λ is. let lt : n < x = ranked n x Less is in both _ _ (both _ _ f e) (both _ _ (both _ _ (and-left _ (rises last x) head) (lt-ltb _ _ lt)) tail)
      | Equal ↦ λ is. h
      | Greater ↦ λ is. let lt : x < n = ranked n x Greater is in both _ _ head (with_rising numbers (Some x) n f (lt-ltb _ _ lt) tail)
    ] refl

without_rising : (numbers : Numbers) (last : Option ℕ) (n : ℕ) → AreRising last numbers → AreRising last (remove_key (is_at (nat_cmp n)) numbers)
unfolding fit_many
without_rising [] last n h = refl
without_rising (x ∷ numbers) last n h =
    let head = and-left _ _ h in
    let tail = and-right _ _ h in
    elim (is_at (nat_cmp n) x) as (λ b. AreRising last (cond b numbers (x ∷ remove_key (is_at (nat_cmp n)) numbers))) [
      | true ↦ lower numbers last x (and-right _ _ head) tail
      | false ↦ both _ _ head (without_rising numbers (Some x) n tail)
    ]

-- ---- how many numbers there are

with_len_most : (numbers : Numbers) (n : ℕ) → length (insert_key nat_cmp numbers n) ≤ length numbers + 1
with_len_most [] n = omega arith
with_len_most (x ∷ numbers) n =
    elim (nat_cmp n x) as (λ o. length (match_ordering o (n ∷ x ∷ numbers) (x ∷ numbers) (x ∷ insert_key nat_cmp numbers n)) ≤ suc (length numbers) + 1) [
      | Less ↦ omega arith
      | Equal ↦ omega arith
      | Greater ↦ omega (arith, with_len_most numbers n)
    ]

goes_on : (n x y : ℕ) → n < x → x < y → n < y
goes_on n x y lt more = omega (arith, lt, more)

-- numbers that rise after a greater one don't have the number
lacks : (numbers : Numbers) (x n : ℕ) → n < x → AreRising (Some x) numbers → has numbers n ≡ false
unfolding fit_many
lacks [] x n lt h = refl
lacks (y ∷ numbers) x n lt h =
    let more : x < y = ltb-true _ _ (and-right _ _ (and-left _ _ h)) in
    let below : n < y = goes_on n x y lt more in
    let other : is_at (nat_cmp n) y ≡ false = at_is n y ∙ differ n y below in
    rw other (lacks numbers y n below (and-right _ _ h))

with_len_had : (numbers : Numbers) (last : Option ℕ) (n : ℕ) → AreRising last numbers → has numbers n ≡ true → length (insert_key nat_cmp numbers n) ≡ length numbers
unfolding fit_many
with_len_had [] last n h had = absurd cc
with_len_had (x ∷ numbers) last n h had =
    let tail = and-right _ _ h in
    elim (nat_cmp n x) as (λ o. o ≡ nat_cmp n x → length (match_ordering o (n ∷ x ∷ numbers) (x ∷ numbers) (x ∷ insert_key nat_cmp numbers n)) ≡ suc (length numbers)) [
      | Less ↦ λ is.
          let lt : n < x = ranked n x Less is in
          let other : is_at (nat_cmp n) x ≡ false = at_is n x ∙ differ n x lt in
          absurd (not_false _ (or_right _ _ other had) (lacks numbers x n lt tail))
      | Equal ↦ λ is. refl
      | Greater ↦ λ is.
          let lt : x < n = ranked n x Greater is in
          let other : is_at (nat_cmp n) x ≡ false = at_is n x ∙ flipped x n (differ x n lt) in
          ap suc (with_len_had numbers (Some x) n tail (or_right _ _ other had))
    ] refl

pub without_len : (numbers : Numbers) (n : ℕ) → length (remove_key (is_at (nat_cmp n)) numbers) ≤ length numbers
without_len [] n = omega arith
without_len (x ∷ numbers) n =
    elim (is_at (nat_cmp n) x) as (λ b. length (cond b numbers (x ∷ remove_key (is_at (nat_cmp n)) numbers)) ≤ suc (length numbers)) [
      | true ↦ omega arith
      | false ↦ omega (arith, without_len numbers n)
    ]

count_fits : (n : ℕ) → n ≤ most → (u32 any).fits n ≡ true
count_fits n le =
    let whole : nat_le (max 0 n) (min (2 ^ 64 - 1) n) ≡ true = le-leb _ _ (omega (arith, le)) in
    let short : nat_lt n (2 ^ 32) ≡ true = lt-ltb _ _ (omega (arith, le)) in
    rw (whole, short) refl

-- each number of 64 bits has a spelling
pub number_fits : (n : ℕ) → n < 2 ^ 64 → (u64 any).fits n ≡ true
number_fits n lt =
    let whole : nat_le (max 0 n) (min (2 ^ 64 - 1) n) ≡ true = le-leb _ _ (omega (arith, lt)) in
    let short : nat_lt n (2 ^ 64) ≡ true = lt-ltb _ _ lt in
    rw (whole, short) refl

few_is : (n : ℕ) → n < 2 ^ 32 → n ≤ most
few_is n lt = omega (arith, lt)

few : (numbers : Numbers) → state_format.fits numbers ≡ true → length numbers ≤ most
unfolding state_format
few numbers e = few_is (length numbers) (ltb-true _ _ (and-right _ _ (and-left _ _ e)))

with_len : (numbers : Numbers) (n : ℕ) → state_format.fits numbers ≡ true → takes numbers n ≡ true → length (insert_key nat_cmp numbers n) ≤ most
unfolding state_format
with_len numbers n e t =
    elim (nat_lt (length numbers) most) as (λ b. nat_lt (length numbers) most ≡ b → (b || has numbers n) ≡ true → length (insert_key nat_cmp numbers n) ≤ most) [
      | true ↦ λ lt h. let below : length numbers < most = ltb-true _ _ lt in omega (arith, below, with_len_most numbers n)
      | false ↦ λ lt h. omega (arith, few numbers e, with_len_had numbers None n (and-right _ _ e) h)
    ] refl t

with_fits : (numbers : Numbers) (n : ℕ) → (u64 any).fits n ≡ true → state_format.fits numbers ≡ true → state_format.fits (with_number numbers n) ≡ true
unfolding state_format
with_fits numbers n f e =
    elim (takes numbers n) as (λ b. takes numbers n ≡ b → state_format.fits (cond b (insert_key nat_cmp numbers n) numbers) ≡ true) [
      | true ↦ λ t. both _ _ (count_fits _ (with_len numbers n e t)) (with_rising numbers None n f refl (and-right _ _ e))
      | false ↦ λ t. e
    ] refl

without_fits : (numbers : Numbers) (n : ℕ) → state_format.fits numbers ≡ true → state_format.fits (without_number numbers n) ≡ true
unfolding state_format
without_fits numbers n e =
    let le : length (without_number numbers n) ≤ most = omega (arith, few numbers e, without_len numbers n) in
    both _ _ (count_fits _ le) (without_rising numbers None n (and-right _ _ e))

-- ---- other numbers

other_with : (numbers : Numbers) (n m : ℕ) → eqb n m ≡ false → has (insert_key nat_cmp numbers n) m ≡ has numbers m
other_with [] n m ne = let other : is_at (nat_cmp m) n ≡ false = at_is m n ∙ flipped n m ne in rw other refl
other_with (x ∷ numbers) n m ne =
    elim (nat_cmp n x) as (λ o. has (match_ordering o (n ∷ x ∷ numbers) (x ∷ numbers) (x ∷ insert_key nat_cmp numbers n)) m ≡ has (x ∷ numbers) m) [
      | Less ↦ let other : is_at (nat_cmp m) n ≡ false = at_is m n ∙ flipped n m ne in rw other refl
      | Equal ↦ refl
      | Greater ↦ ap (λ b. is_at (nat_cmp m) x || b) (other_with numbers n m ne)
    ]

other_with_number : (numbers : Numbers) (n m : ℕ) → eqb n m ≡ false → has (with_number numbers n) m ≡ has numbers m
other_with_number numbers n m ne =
    elim (takes numbers n) as (λ b. has (cond b (insert_key nat_cmp numbers n) numbers) m ≡ has numbers m) [
      | true ↦ other_with numbers n m ne
      | false ↦ refl
    ]

other_without : (numbers : Numbers) (n m : ℕ) → eqb n m ≡ false → has (remove_key (is_at (nat_cmp n)) numbers) m ≡ has numbers m
other_without [] n m ne = refl
other_without (x ∷ numbers) n m ne =
    elim (is_at (nat_cmp n) x) as (λ b. is_at (nat_cmp n) x ≡ b → has (cond b numbers (x ∷ remove_key (is_at (nat_cmp n)) numbers)) m ≡ has (x ∷ numbers) m) [
      | true ↦ λ is. let other : is_at (nat_cmp m) x ≡ false = at_is m x ∙ other_at n m x ne (sym (at_is n x) ∙ is) in rw other refl
      | false ↦ λ is. ap (λ b. is_at (nat_cmp m) x || b) (other_without numbers n m ne)
    ] refl

-- ---- the laws

pub first_is : (o : Oid) (os : List Oid) → is_object o ≡ true → is_header os ≡ true → is_state o (first o os) ≡ true
unfolding fit_many state_format
first_is o os e h = both _ _ e refl

pub applied_is : (o : Oid) (s : Numbers) (op : SetOp) → is_state o s ≡ true → op_format.fits op ≡ true → is_state o (applied s op) ≡ true
unfolding op_format
applied_is o s (Include n) e f = both _ _ (and-left _ _ e) (with_fits s n f (and-right _ _ e))
applied_is o s (Exclude n) e f = both _ _ (and-left _ _ e) (without_fits s n (and-right _ _ e))

pub other_kind : (o : Oid) (s : Numbers) (op : SetOp) → is_state o s ≡ true → is_of o op ≡ false → applied s op ≡ s
other_kind o s op e f = absurd (not_false (is_object o) (and-left _ _ e) f)

pub touched_is : (op : SetOp) → op_format.fits op ≡ true → is_part (touched op) ≡ true
unfolding op_format
touched_is (Include n) e = and-right _ _ e
touched_is (Exclude n) e = and-right _ _ e

pub apart : (s : Numbers) (op : SetOp) (ask : SetAsk) → overlap (touched op) (looked ask) ≡ false → answered (applied s op) ask ≡ answered s ask
apart s (Include n) (Member m) ne = ap (λ b. answers.Member b) (other_with_number s n m ne)
apart s (Include n) (Count low high) ne = absurd cc
apart s (Include n) (Between low high) ne = absurd cc
apart s (Exclude n) (Member m) ne = ap (λ b. answers.Member b) (other_without s n m ne)
apart s (Exclude n) (Count low high) ne = absurd cc
apart s (Exclude n) (Between low high) ne = absurd cc

pub loads_saved : (o : Oid) (s : Numbers) → is_state o s ≡ true → loaded o (saved s) ≡ Ok s
loads_saved o s e = words.loads_saved state_format state_exact s (and-right _ _ e)

pub loads_only : (o : Oid) (bytes : List ℕ) (s : Numbers) → is_object o ≡ true → IsBytes bytes → loaded o bytes ≡ Ok s → (is_state o s ≡ true) × (bytes ≡ saved s)
loads_only o bytes s is fits e = let t = words.loads_only state_format state_exact bytes s fits e in (both _ _ is t.0, t.1)

pub reads_spelled : (op : SetOp) (rest : List ℕ) → op_format.fits op ≡ true → op_format.read (op_format.spell op ++ rest) ≡ Ok (op, rest)
reads_spelled op rest e = op_law.exact.again op rest e

pub reads_only : (bytes : List ℕ) (op : SetOp) (rest : List ℕ) → IsBytes bytes → op_format.read bytes ≡ Ok (op, rest) → (op_format.fits op ≡ true) × (bytes ≡ op_format.spell op ++ rest)
reads_only bytes op rest fits e = words.reads_only op_format op_law.exact bytes op rest fits e

pub spelled_some : (op : SetOp) → op_format.fits op ≡ true → 1 ≤ length (op_format.spell op)
unfolding op_format
spelled_some op e = words.tagged_some ((0x60, 0x61) ∷ []) op_code (λ code. cond (eqb code 0x60) include_format exclude_format) op

pub no_front_law : (a b : SetOp) (x y : List ℕ) → op_format.fits a ≡ true → op_format.fits b ≡ true → op_format.spell a ++ x ≡ op_format.spell b ++ y → a ≡ b
no_front_law a b x y f g e = no_front op_format op_law.exact a b x y f g e
