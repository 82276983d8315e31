-- The laws of maps.
use Rattle.std.specs.Prelude.{◌≡◌, ℕ, suc, ◌+◌, ◌<◌, ◌≤◌, ◌^◌, ◌-◌, min, max, nat_le, nat_lt, Bool, true, false, ◌||◌, not, List, [], ◌∷◌, ◌++◌, length, Some, Ok, refl}
use Rattle.std.specs.Cmp.Lexicographic.{nat_list_eq_equiv}
use Rattle.std.specs.Map.{keys_of, lookup, remove_entry}
use Rattle.std.proofs.Common.{cond, ap, sym, ◌∙◌, arith, eqb}
use Rattle.std.proofs.lemmas.Bool.{eqb-true, le-leb, lt-ltb, ltb-true}
use Rattle.std.proofs.lemmas.Bool.Decides.{nat_tests}
use Rattle.std.proofs.lemmas.List.Folds.{list_any-append}
use Rattle.indexmap.specs.IndexMap.{insert_entry}
use Rattle.tg_base.specs.declared.ids.Oid.{Oid}
use Rattle.tg_codec.specs.Codec.{Codec, u32, fit_many}
use Rattle.tg_codec.specs.Reading.{meets}
use Rattle.tg_codec.specs.Streams.{any}
use Rattle.tg_codec.proofs.Laws.{IsExact, IsCodec, dep_exact, dep_law, via_exact, fixed_law, variant_law, only_if_exact, no_front, and-left, and-right, both}
use Rattle.tg_codec.proofs.Shapes.{tagged_law, chosen_law, behind_many_exact}
use Rattle.tg_codec.proofs.Widths.{u32_law}
use Rattle.tg_kind.specs.Bytes.{IsBytes}
use Rattle.tg_kind.specs.Headers.{is_header}
use Rattle.tg_base.specs.Parts.{is_part}
use Rattle.tg_kind.specs.Parts.{overlap}
use Rattle.tg_kind.specs.Words.{after}
use Rattle.tg_kind.specs.Words as words
use Rattle.tg_kind.specs.Texts.{text_format, text_law, text_is_part}
use Rattle.tg_map.specs.declared.map.MapOp.{MapOp}
use Rattle.tg_map.specs.declared.map.MapOp.TheVariants.{Set, Unset}
use Rattle.tg_map.specs.declared.map.MapAsk.{MapAsk}
use Rattle.tg_map.specs.declared.map.MapAsk.TheVariants.{Get, Size, Keys}
use Rattle.tg_map.specs.declared.map.MapAns.TheVariants as answers
use Rattle.tg_map.specs.Maps.{Pairs, same, has_key, most, takes, set_pair, unset_pair, pair, after_pair, is_object, is_state, is_of, first, applied, answered, touched, looked, saved, loaded, state_format, op_code, as_set, as_unset, set_format, unset_format, op_format}

-- ---- the formats

pub after_exact : {A : Type 0} (code : ℕ) (c : Codec A) → IsExact c → IsExact (after code c)
after_exact code c law = via_exact _ _ (dep_exact (fixed_law (code ∷ [])).exact (λ _. law)) (λ p e. refl) (λ x. refl)

pair_exact : (keys : List (List ℕ)) → IsExact (pair keys)
pair_exact keys = dep_exact (only_if_exact (λ key. not (has_key keys key)) text_law.exact) (λ _. text_law.exact)

pub state_exact : IsExact state_format
unfolding state_format
state_exact = after_exact 3 _ (behind_many_exact pair after_pair (λ n. []) (u32_law any).exact pair_exact)

inner : {A : Type 0} (p q : A) → Some p ≡ Some q → p ≡ q
inner p q e = cc

set_forth : (x : MapOp) (p : List ℕ × List ℕ) → as_set x ≡ Some p → Set p.0 p.1 ≡ x
set_forth (Set k v) p e = ap (λ (r : List ℕ × List ℕ). Set r.0 r.1) (sym (inner (k, v) p e))
set_forth (Unset k) p e = absurd cc

unset_forth : (x : MapOp) (k : List ℕ) → as_unset x ≡ Some k → Unset k ≡ x
unset_forth (Set k v) q e = absurd cc
unset_forth (Unset k) q e = ap (λ (r : List ℕ). Unset r) (sym (inner k q e))

set_law : IsCodec set_format
set_law = variant_law _ _ (dep_law text_law (λ _. text_law)) (λ p. refl) set_forth

unset_law : IsCodec unset_format
unset_law = variant_law _ _ text_law (λ k. refl) unset_forth

second_code : (t : ℕ) → meets ((0x30, 0x31) ∷ []) t t ≡ true → eqb t 0x30 ≡ false → 0x31 ≡ t
second_code t m ne = grind (arith, nat_tests)

code_is : (t : ℕ) (b : Bool) (x : MapOp) → eqb t 0x30 ≡ b → meets ((0x30, 0x31) ∷ []) t t ≡ true → (cond b set_format unset_format).fits x ≡ true → op_code x ≡ t
code_is t true (Set k v) is m e = sym (eqb-true _ _ is)
code_is t true (Unset k) is m e = absurd cc
code_is t false (Set k v) is m e = absurd cc
code_is t false (Unset k) is m e = second_code t m is

pub op_law : IsCodec op_format
unfolding op_format
op_law = tagged_law _ op_code _ (λ t. chosen_law (eqb t 0x30) _ _ set_law unset_law) (λ t x m e. code_is t _ x refl m e)

-- ---- keys

not_is : (b : Bool) → not b ≡ true → b ≡ false
not_is true e = absurd cc
not_is false e = refl

is_not : (b : Bool) → b ≡ false → not b ≡ true
is_not true e = absurd cc
is_not false e = refl

neither : (a b : Bool) → (a || b) ≡ false → (a ≡ false) × (b ≡ false)
neither true b e = absurd cc
neither false b e = (refl, e)

-- one key more
has_more : (keys : List (List ℕ)) (x q : List ℕ) → has_key (keys ++ x ∷ []) q ≡ (has_key keys q || (same q x || false))
has_more keys x q = list_any-append (same q) keys (x ∷ [])

still_new : (keys : List (List ℕ)) (x q : List ℕ) → has_key keys q ≡ false → same q x ≡ false → has_key (keys ++ x ∷ []) q ≡ false
still_new keys x q absent other = has_more keys x q ∙ rw (absent, other) refl

-- the keys that are not among more are not among less
abbrev IsLess : List (List ℕ) → List (List ℕ) → Type 0
IsLess less more = (q : List ℕ) → has_key more q ≡ false → has_key less q ≡ false

less_more : (keys : List (List ℕ)) (x : List ℕ) → IsLess keys (keys ++ x ∷ [])
less_more keys x q e = (neither _ _ (sym (has_more keys x q) ∙ e)).0

less_both : (less more : List (List ℕ)) (x : List ℕ) → IsLess less more → IsLess (less ++ x ∷ []) (more ++ x ∷ [])
less_both less more x h q e =
    let parts = neither _ _ (sym (has_more more x q) ∙ e) in
    still_new less x q (h q parts.0) (neither _ _ parts.1).0

-- ---- pairs whose keys differ from some, and from one another

abbrev pub AreApart : List (List ℕ) → Pairs → Type 0
AreApart keys pairs = fit_many pair after_pair (length pairs) keys pairs ≡ true

fewer : (pairs : Pairs) (less more : List (List ℕ)) → IsLess less more → AreApart more pairs → AreApart less pairs
unfolding fit_many
fewer [] less more h e = refl
fewer (x ∷ pairs) less more h e =
    let head = and-left _ _ e in
    let key = and-left _ _ head in
    let new : has_key less x.0 ≡ false = h x.0 (not_is _ (and-right _ _ key)) in
    both _ _ (both _ _ (both _ _ (and-left _ _ key) (is_not _ new)) (and-right _ _ head)) (fewer pairs (less ++ x.0 ∷ []) (more ++ x.0 ∷ []) (less_both less more x.0 h) (and-right _ _ e))

set_apart : (pairs : Pairs) (keys : List (List ℕ)) (k v : List ℕ) → text_format.fits k ≡ true → text_format.fits v ≡ true → has_key keys k ≡ false → AreApart keys pairs → AreApart keys (insert_entry same pairs k v)
unfolding fit_many
set_apart [] keys k v f g absent e = both _ _ (both _ _ (both _ _ f (is_not _ absent)) g) refl
set_apart (x ∷ pairs) keys k v f g absent e =
    let head = and-left _ _ e in
    let tail = and-right _ _ e in
    elim (same k x.0) as (λ b. same k x.0 ≡ b → AreApart keys (cond b ((x.0, v) ∷ pairs) (x ∷ insert_entry same pairs k v))) [
      | true ↦ λ is. both _ _ (both _ _ (and-left _ _ head) g) tail
      | false ↦ λ is. both _ _ head (set_apart pairs (keys ++ x.0 ∷ []) k v f g (still_new keys x.0 k absent is) tail)
    ] refl

unset_apart : (pairs : Pairs) (keys : List (List ℕ)) (k : List ℕ) → AreApart keys pairs → AreApart keys (remove_entry (same k) pairs)
unfolding fit_many
unset_apart [] keys k e = refl
unset_apart (x ∷ pairs) keys k e =
    let head = and-left _ _ e in
    let tail = and-right _ _ e in
    elim (same k x.0) as (λ b. AreApart keys (cond b pairs (x ∷ remove_entry (same k) pairs))) [
      | true ↦ fewer pairs keys (keys ++ x.0 ∷ []) (less_more keys x.0) tail
      | false ↦ both _ _ head (unset_apart pairs (keys ++ x.0 ∷ []) k tail)
    ]

-- ---- how many pairs there are

set_len_most : (pairs : Pairs) (k v : List ℕ) → length (insert_entry same pairs k v) ≤ length pairs + 1
set_len_most [] k v = omega arith
set_len_most (x ∷ pairs) k v =
    elim (same k x.0) as (λ b. length (cond b ((x.0, v) ∷ pairs) (x ∷ insert_entry same pairs k v)) ≤ suc (length pairs) + 1) [
      | true ↦ omega arith
      | false ↦ omega (arith, set_len_most pairs k v)
    ]

set_len_had : (pairs : Pairs) (k v : List ℕ) → has_key (keys_of pairs) k ≡ true → length (insert_entry same pairs k v) ≡ length pairs
set_len_had [] k v had = absurd cc
set_len_had (x ∷ pairs) k v had =
    elim (same k x.0) as (λ b. (b || has_key (keys_of pairs) k) ≡ true → length (cond b ((x.0, v) ∷ pairs) (x ∷ insert_entry same pairs k v)) ≡ suc (length pairs)) [
      | true ↦ λ h. refl
      | false ↦ λ h. ap suc (set_len_had pairs k v h)
    ] had

pub set_len : (pairs : Pairs) (k v : List ℕ) → length pairs ≤ most → takes pairs k ≡ true → length (insert_entry same pairs k v) ≤ most
set_len pairs k v le t =
    elim (nat_lt (length pairs) most) as (λ b. nat_lt (length pairs) most ≡ b → (b || has_key (keys_of pairs) k) ≡ true → length (insert_entry same pairs k v) ≤ most) [
      | true ↦ λ lt h. let below : length pairs < most = ltb-true _ _ lt in omega (arith, below, set_len_most pairs k v)
      | false ↦ λ lt h. omega (arith, le, set_len_had pairs k v h)
    ] refl t

pub unset_len : (pairs : Pairs) (k : List ℕ) → length (remove_entry (same k) pairs) ≤ length pairs
unset_len [] k = omega arith
unset_len (x ∷ pairs) k =
    elim (same k x.0) as (λ b. length (cond b pairs (x ∷ remove_entry (same k) pairs)) ≤ suc (length pairs)) [
      | true ↦ omega arith
      | false ↦ omega (arith, unset_len pairs k)
    ]

count_fits : (n : ℕ) → n ≤ most → (u32 any).fits n ≡ true
count_fits n le =
    let whole : nat_le (max 0 n) (min (2 ^ 64 - 1) n) ≡ true = le-leb _ _ (omega (arith, le)) in
    let short : nat_lt n (2 ^ 32) ≡ true = lt-ltb _ _ (omega (arith, le)) in
    rw (whole, short) refl

few_is : (n : ℕ) → n < 2 ^ 32 → n ≤ most
few_is n lt = omega (arith, lt)

few : (pairs : Pairs) → state_format.fits pairs ≡ true → length pairs ≤ most
unfolding state_format
few pairs e = few_is (length pairs) (ltb-true _ _ (and-right _ _ (and-left _ _ e)))

set_fits : (pairs : Pairs) (k v : List ℕ) → text_format.fits k ≡ true → text_format.fits v ≡ true → state_format.fits pairs ≡ true → state_format.fits (set_pair pairs k v) ≡ true
unfolding state_format
set_fits pairs k v f g e =
    elim (takes pairs k) as (λ b. takes pairs k ≡ b → state_format.fits (cond b (insert_entry same pairs k v) pairs) ≡ true) [
      | true ↦ λ t. both _ _ (count_fits _ (set_len pairs k v (few pairs e) t)) (set_apart pairs [] k v f g refl (and-right _ _ e))
      | false ↦ λ t. e
    ] refl

unset_fits : (pairs : Pairs) (k : List ℕ) → state_format.fits pairs ≡ true → state_format.fits (unset_pair pairs k) ≡ true
unfolding state_format
unset_fits pairs k e =
    let le : length (unset_pair pairs k) ≤ most = omega (arith, few pairs e, unset_len pairs k) in
    both _ _ (count_fits _ le) (unset_apart pairs [] k (and-right _ _ e))

-- ---- other keys

other_set : (pairs : Pairs) (k v q : List ℕ) → same k q ≡ false → lookup (same q) (insert_entry same pairs k v) ≡ lookup (same q) pairs
other_set [] k v q ne = let f : same q k ≡ false = nat_list_eq_equiv.symm q k ∙ ne in rw f refl
other_set (x ∷ pairs) k v q ne =
    elim (same k x.0) as (λ b. same k x.0 ≡ b → lookup (same q) (cond b ((x.0, v) ∷ pairs) (x ∷ insert_entry same pairs k v)) ≡ lookup (same q) (x ∷ pairs)) [
      | true ↦ λ is. let f : same q x.0 ≡ false = nat_list_eq_equiv.symm q x.0 ∙ sym (nat_list_eq_equiv.congr k x.0 q is) ∙ ne in rw f refl
      | false ↦ λ is. ap (λ o. cond (same q x.0) (Some x.1) o) (other_set pairs k v q ne)
    ] refl

other_set_pair : (pairs : Pairs) (k v q : List ℕ) → same k q ≡ false → lookup (same q) (set_pair pairs k v) ≡ lookup (same q) pairs
other_set_pair pairs k v q ne =
    elim (takes pairs k) as (λ b. lookup (same q) (cond b (insert_entry same pairs k v) pairs) ≡ lookup (same q) pairs) [
      | true ↦ other_set pairs k v q ne
      | false ↦ refl
    ]

other_unset : (pairs : Pairs) (k q : List ℕ) → same k q ≡ false → lookup (same q) (remove_entry (same k) pairs) ≡ lookup (same q) pairs
other_unset [] k q ne = refl
other_unset (x ∷ pairs) k q ne =
    elim (same k x.0) as (λ b. same k x.0 ≡ b → lookup (same q) (cond b pairs (x ∷ remove_entry (same k) pairs)) ≡ lookup (same q) (x ∷ pairs)) [
      | true ↦ λ is. let f : same q x.0 ≡ false = nat_list_eq_equiv.symm q x.0 ∙ sym (nat_list_eq_equiv.congr k x.0 q is) ∙ ne in rw f refl
      | false ↦ λ is. ap (λ o. cond (same q x.0) (Some x.1) o) (other_unset pairs k q ne)
    ] refl

-- ---- the laws

pub first_is : (o : Oid) (os : List Oid) → is_object o ≡ true → is_header os ≡ true → is_state o (first o os) ≡ true
unfolding fit_many state_format
first_is o os e h = both _ _ e refl

pub applied_is : (o : Oid) (s : Pairs) (op : MapOp) → is_state o s ≡ true → op_format.fits op ≡ true → is_state o (applied s op) ≡ true
unfolding op_format
applied_is o s (Set k v) e f = both _ _ (and-left _ _ e) (set_fits s k v (and-left _ _ f) (and-right _ _ f) (and-right _ _ e))
applied_is o s (Unset k) e f = both _ _ (and-left _ _ e) (unset_fits s k (and-right _ _ e))

not_false : (b : Bool) → b ≡ true → b ≡ false → ⊥
not_false true e f = absurd cc
not_false false e f = absurd cc

pub other_kind : (o : Oid) (s : Pairs) (op : MapOp) → is_state o s ≡ true → is_of o op ≡ false → applied s op ≡ s
other_kind o s op e f = absurd (not_false (is_object o) (and-left _ _ e) f)

pub touched_is : (op : MapOp) → op_format.fits op ≡ true → is_part (touched op) ≡ true
unfolding op_format
touched_is (Set k v) e = text_is_part k (and-left _ _ e)
touched_is (Unset k) e = text_is_part k e

pub apart : (s : Pairs) (op : MapOp) (ask : MapAsk) → overlap (touched op) (looked ask) ≡ false → answered (applied s op) ask ≡ answered s ask
apart s (Set k v) (Get q) ne = ap (λ o. answers.Value o) (other_set_pair s k v q ne)
apart s (Set k v) Size ne = absurd cc
apart s (Set k v) Keys ne = absurd cc
apart s (Unset k) (Get q) ne = ap (λ o. answers.Value o) (other_unset s k q ne)
apart s (Unset k) Size ne = absurd cc
apart s (Unset k) Keys ne = absurd cc

pub loads_saved : (o : Oid) (s : Pairs) → is_state o s ≡ true → loaded o (saved s) ≡ Ok s
loads_saved o s e = words.loads_saved state_format state_exact s (and-right _ _ e)

pub loads_only : (o : Oid) (bytes : List ℕ) (s : Pairs) → is_object o ≡ true → IsBytes bytes → loaded o bytes ≡ Ok s → (is_state o s ≡ true) × (bytes ≡ saved s)
loads_only o bytes s is fits e = let t = words.loads_only state_format state_exact bytes s fits e in (both _ _ is t.0, t.1)

pub reads_spelled : (op : MapOp) (rest : List ℕ) → op_format.fits op ≡ true → op_format.read (op_format.spell op ++ rest) ≡ Ok (op, rest)
reads_spelled op rest e = op_law.exact.again op rest e

pub reads_only : (bytes : List ℕ) (op : MapOp) (rest : List ℕ) → IsBytes bytes → op_format.read bytes ≡ Ok (op, rest) → (op_format.fits op ≡ true) × (bytes ≡ op_format.spell op ++ rest)
reads_only bytes op rest fits e = words.reads_only op_format op_law.exact bytes op rest fits e

pub spelled_some : (op : MapOp) → op_format.fits op ≡ true → 1 ≤ length (op_format.spell op)
unfolding op_format
spelled_some op e = words.tagged_some ((0x30, 0x31) ∷ []) op_code (λ code. cond (eqb code 0x30) set_format unset_format) op

pub no_front_law : (a b : MapOp) (x y : List ℕ) → op_format.fits a ≡ true → op_format.fits b ≡ true → op_format.spell a ++ x ≡ op_format.spell b ++ y → a ≡ b
no_front_law a b x y f g e = no_front op_format op_law.exact a b x y f g e
