-- A checkpoint that fits a page has a spelling, and its size.
use Rattle.std.specs.Prelude.{◌≡◌, ℕ, ◌+◌, ◌<◌, ◌≤◌, ◌-◌, ◌^◌, zero, suc, true, not, ◌&&◌, nat_lt, nat_le, min, List, [], ◌∷◌, length, map, drop, Result, refl}
use Rattle.std.specs.List.{list_all}
use Rattle.std.proofs.Common.{get_or, sym, ap, ◌∙◌, subst, arith, lt-ltb}
use Rattle.tg_base.specs.declared.ids.Oid.{Oid}
use Rattle.tg_base.specs.Units.{is_within}
use Rattle.tg_base.specs.declared.marks.Part.{Part}
use Rattle.tg_base.specs.declared.marks.Part.TheVariants.{All, Text, Num}
use Rattle.tg_entry.specs.declared.entry.Head.{Head}
use Rattle.tg_entry.specs.declared.entry.Entry.{Entry}
use Rattle.tg_entry.specs.declared.entry.Body.TheVariants.{Checkpoint}
use Rattle.tg_entry.specs.Drafts.{IsDraft}
use Rattle.tg_entry.specs.Reads.{is_all}
use Rattle.tg_base.specs.Parts.{is_part}
use Rattle.tg_entry.specs.Records.{is_byte, is_object, is_stream, is_key, IsHead}
use Rattle.tg_entry.specs.Checkpoints.{Keyed}
use Rattle.tg_entry.proofs.Fits.{records_fit}
use Rattle.tg_protocol.specs.Entries.{unlinked, draft, sum_of, key_size, entry_size}
use Rattle.tg_play.specs.Lawful.{AreKeys, is_named, is_shown}
use Rattle.tg_play.proofs.Truths.{both, four, first_true, rest_true}
use Rattle.tg_ckpt.specs.Saving.{Saves, of_bytes, key_of_bytes}
use Rattle.tg_ckpt.specs.declared.fault.SaveFault.{SaveFault}

abbrev pub head_of : ℕ → ℕ → Oid → Head
head_of client number o = record { format = 2; client = client; number = number; streams = unlinked o ∷ [] }

abbrev pub entry_of : Head → Oid → ℕ → ℕ → ℕ → Keyed → List ℕ → Entry
entry_of h o upto version whole keys state = record { head = h; body = Checkpoint o upto version whole keys state }

-- a key with a name of bytes
key_kept : (whole version : ℕ) (k : Part × ℕ) → key_of_bytes k ≡ true → is_shown whole version k ≡ true → is_key whole version k ≡ true
key_kept whole version k b e =
    let three : (is_named k.0 && not (is_all k.0) && nat_lt whole k.1) ≡ true = first_true (is_named k.0 && not (is_all k.0) && nat_lt whole k.1) (nat_le k.1 version) e in
    let two : (is_named k.0 && not (is_all k.0)) ≡ true = first_true (is_named k.0 && not (is_all k.0)) (nat_lt whole k.1) three in
    four (is_part k.0) (not (is_all k.0)) (nat_lt whole k.1) (nat_le k.1 version)
    (by k.0 b (first_true (is_named k.0) (not (is_all k.0)) two)) (rest_true (is_named k.0) (not (is_all k.0)) two)
    (rest_true (is_named k.0 && not (is_all k.0)) (nat_lt whole k.1) three) (rest_true (is_named k.0 && not (is_all k.0) && nat_lt whole k.1) (nat_le k.1 version) e)
  where
    by : (p : Part) → of_bytes p ≡ true → is_named p ≡ true → is_part p ≡ true
    by All b n = refl
    by (Text t) b n = both (is_within 1 4096 (length t)) (list_all is_byte t) n b
    by (Num n) b h = h

keys_are_kept : (whole version : ℕ) (keys : Keyed) → list_all key_of_bytes keys ≡ true → list_all (is_shown whole version) keys ≡ true → list_all (is_key whole version) keys ≡ true
keys_are_kept whole version [] b e = refl
keys_are_kept whole version (k ∷ ks) b e =
    both (is_key whole version k) (list_all (is_key whole version) ks)
    (key_kept whole version k (first_true (key_of_bytes k) (list_all key_of_bytes ks) b) (first_true (is_shown whole version k) (list_all (is_shown whole version) ks) e))
    (keys_are_kept whole version ks (rest_true (key_of_bytes k) (list_all key_of_bytes ks) b) (rest_true (is_shown whole version k) (list_all (is_shown whole version) ks) e))

head_kept : (client number : ℕ) (o : Oid) → is_object o ≡ true → client < 2 ^ 16 → 1 ≤ number → number < 2 ^ 32 → IsHead (head_of client number o)
head_kept client number o is lt low high = record {
  format = refl;
  client = lt;
  number = low;
  within = high;
  some = omega arith;
  few = omega arith;
  streams = both (is_stream (unlinked o)) true (both (is_object o) true is refl) refl;
  rising = refl;
}

-- ---- sizes

pub all_bytes : (t : List ℕ) → ((i : ℕ) → get_or t i 0 < 256) → list_all is_byte t ≡ true
all_bytes [] h = refl
all_bytes (b ∷ bs) h = both (is_byte b) (list_all is_byte bs) (lt-ltb b 256 (h 0)) (all_bytes bs (λ i. h (suc i)))

-- no key is left
pub none_left : (keys : Keyed) (n : ℕ) → length keys ≤ n → sum_of (map key_size (drop n keys)) ≡ 0
none_left [] zero h = refl
none_left [] (suc n) h = refl
none_left (k ∷ ks) zero h = absurd (omega (arith, h))
none_left (k ∷ ks) (suc n) h = none_left ks n (omega (arith, h))

pub size_told : (size rest all : ℕ) → size < 2 ^ 64 → rest ≡ 0 → min (size + rest) (2 ^ 64 - 1) ≡ all → size ≡ all
size_told size rest all fits none is = omega (arith, fits, none, is)

pub more_than : (n m : ℕ) → n ≡ min m (2 ^ 64 - 1) → 4096 < n → 4096 < m
more_than n m is lt = omega (arith, is, lt)

pub at_most : (n m : ℕ) → n ≡ min m (2 ^ 64 - 1) → n ≤ 4096 → m ≤ 4096
at_most n m is le = omega (arith, is, le)

-- the size of a checkpoint
pub size_of : (client number : ℕ) (o : Oid) (upto version whole : ℕ) (keys : Keyed) (state : List ℕ)
    → 79 + length state + sum_of (map key_size keys) ≡ entry_size (draft client number (o ∷ []) (Checkpoint o upto version whole keys state))
unfolding entry_size
size_of client number o upto version whole keys state = omega arith

-- what is measured is the size of the checkpoint
pub measured : (client number : ℕ) (o : Oid) (upto version whole : ℕ) (keys ks : Keyed) (state s : List ℕ) (n : ℕ) → ks ≡ keys → s ≡ state → n ≡ min (79 + length s + sum_of (map key_size ks)) (2 ^ 64 - 1)
    → n ≡ min (entry_size (draft client number (o ∷ []) (Checkpoint o upto version whole keys state))) (2 ^ 64 - 1)
measured client number o upto version whole keys ks state s n k t is =
    is
    ∙ (λ i. min (79 + length (t i) + sum_of (map key_size (k i))) (2 ^ 64 - 1))
    ∙ ap (λ (x : ℕ). min x (2 ^ 64 - 1)) (size_of client number o upto version whole keys state)

fewer : (keys : Keyed) → length keys ≤ sum_of (map key_size keys)
fewer [] = omega arith
fewer (k ∷ ks) = let rest : length ks ≤ sum_of (map key_size ks) = fewer ks in omega (arith, rest)

spelled : (client number : ℕ) (o : Oid) (upto version whole : ℕ) (keys : Keyed) (state : List ℕ) → is_object o ≡ true → client < 2 ^ 16 → 1 ≤ number → number < 2 ^ 32 → upto < 2 ^ 64 → version < 2 ^ 64
    → AreKeys version whole keys → list_all key_of_bytes keys ≡ true → 79 + length state + sum_of (map key_size keys) ≤ 4096 → IsDraft (entry_of (head_of client number o) o upto version whole keys state)
spelled client number o upto version whole keys state is lt low high u v h b fits =
    let count : length keys ≤ sum_of (map key_size keys) = fewer keys in
    let few_keys : length keys < 2 ^ 16 = omega (arith, count, fits) in
    let few_bytes : length state < 2 ^ 16 = omega (arith, fits) in
    record {
      spelled = records_fit.checkpoints (head_of client number o) o upto version whole keys state (record {
        head = head_kept client number o is lt low high;
        stream = refl;
        upto_fits = u;
        version_fits = v;
        below = h.below;
        each_key = keys_are_kept whole version keys b h.each;
        few_keys = few_keys;
        rising = h.rising;
        few_bytes = few_bytes;
      });
      unlinked = refl;
    }

-- with a head that was made
pub draft_kept : (h : Head) (o : Oid) (upto version whole : ℕ) (keys : Keyed) (state : List ℕ) → h ≡ head_of h.client h.number o → is_object o ≡ true → h.client < 2 ^ 16 → 1 ≤ h.number → h.number < 2 ^ 32 → upto < 2 ^ 64 → version < 2 ^ 64
    → AreKeys version whole keys → list_all key_of_bytes keys ≡ true → entry_size (draft h.client h.number (o ∷ []) (Checkpoint o upto version whole keys state)) ≤ 4096 → IsDraft (entry_of h o upto version whole keys state)
draft_kept h o upto version whole keys state made is lt low high u v k b fits =
    let small : 79 + length state + sum_of (map key_size keys) ≤ 4096 = subst (λ (n : ℕ). n ≤ 4096) (sym (size_of h.client h.number o upto version whole keys state)) fits in
    subst (λ (x : Head). IsDraft (entry_of x o upto version whole keys state)) (sym made) (spelled h.client h.number o upto version whole keys state is lt low high u v k b small)

pub drafted : (d : Entry) (h : Head) (o : Oid) (upto version whole : ℕ) (keys : Keyed) (state : List ℕ) → h ≡ head_of h.client h.number o → d ≡ entry_of h o upto version whole keys state
    → d ≡ draft h.client h.number (o ∷ []) (Checkpoint o upto version whole keys state)
drafted d h o upto version whole keys state made is = is ∙ ap (λ (x : Head). entry_of x o upto version whole keys state) made

-- the same checkpoint from what was told of it
pub saves_as : (r : Result Entry SaveFault) (h : Head) (client number : ℕ) (o : Oid) (upto v x w y : ℕ) (ks ls : Keyed) (s t : List ℕ) → h ≡ head_of client number o → v ≡ x → w ≡ y → ks ≡ ls → s ≡ t
    → Saves r (draft h.client h.number (o ∷ []) (Checkpoint o upto v w ks s)) → Saves r (draft client number (o ∷ []) (Checkpoint o upto x y ls t))
saves_as r h client number o upto v x w y ks ls s t head version whole keys state k =
    subst (λ (e : Entry). Saves r e) (λ i. draft (head i).client (head i).number (o ∷ []) (Checkpoint o upto (version i) (whole i) (keys i) (state i))) k
