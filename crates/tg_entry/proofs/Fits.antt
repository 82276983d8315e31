-- Entries that keep the rules of records have a spelling.
use Rattle.std.proofs.Common.{◌≡◌, ℕ, zero, suc, ◌+◌, ◌-◌, ◌^◌, ◌<◌, ◌≤◌, Bool, true, false, cond, eqb, ltb, ◌&&◌, List, [], ◌∷◌, length, Option, Some, None, refl, sym, ap, ◌∙◌, subst, inl, inr, arith}
use Rattle.std.specs.Prelude.{not}
use Rattle.std.specs.List.{list_all}
use Rattle.std.specs.Ordering.{is_lt}
use Rattle.std.proofs.lemmas.Bool.{eqb-true, ltb-true, leb-true, eq-eqb, lt-ltb, cases_Bool, or_cases, or_left, or_right, both_ways}
use Rattle.tg_base.specs.declared.ids.Oid.{Oid}
use Rattle.tg_base.specs.declared.marks.Part.{Part}
use Rattle.tg_base.specs.declared.marks.Part.TheVariants.{All, Text, Num}
use Rattle.tg_base.specs.declared.marks.ReadMark.{ReadMark}
use Rattle.tg_base.specs.declared.marks.StreamLink.{StreamLink}
use Rattle.tg_base.specs.Parts.{part_cmp, is_part}
use Rattle.tg_base.specs.Units.{has, is_distinct, is_rising, is_within}
use Rattle.tg_codec.specs.Codec.{u8, u64, fit_many, text}
use Rattle.tg_codec.specs.Owing.{Debt, points, named, owing, paid}
use Rattle.tg_codec.specs.Streams.{any, oid, before, position, then_before, backs, link, after_link}
use Rattle.tg_codec.proofs.Laws.{and-left, and-right, both}
use Rattle.tg_entry.specs.declared.entry.WriteOp.{WriteOp}
use Rattle.tg_entry.specs.declared.entry.Head.{Head}
use Rattle.tg_entry.specs.declared.entry.Body.{Body}
use Rattle.tg_entry.specs.declared.entry.Body.TheVariants.{Commit, Decision, Checkpoint}
use Rattle.tg_entry.specs.declared.reads.LastRead.{LastRead}
use Rattle.tg_entry.specs.declared.checkpoints.KeyBound.{KeyBound}
use Rattle.tg_entry.specs.Parts.{over, part_above}
use Rattle.tg_entry.specs.Reads.{mark, after_mark, is_all, no_read, marks, reads}
use Rattle.tg_entry.specs.Writes.{write, after_write, stream_numbers, writes}
use Rattle.tg_entry.specs.Checkpoints.{Keyed, key, after_key, first_key, keys, new_fields}
use Rattle.tg_entry.specs.Format.{tag_of, stream_counts, body, entry}
use Rattle.tg_entry.specs.Records.{is_object, is_number, is_falling, are_backs, is_stream, IsHead, is_read, reads_rise, is_write, written, IsCommit, is_key, keys_rise, IsCheckpoint, RecordsFit}
use Rattle.tg_entry.proofs.Named.{Covers, meets_points, stays, distinct-stays, few_names, rising_distinct}
use Rattle.tg_entry.proofs.Above.{u8_fits, u16_fits, u32_fits, u64_fits, u64_any, oid_fits, oid_small, is_after, part_fits}

-- ---- streams

-- the first position is in a range
abbrev StartsIn : ℕ × ℕ → List ℕ → Type 0
StartsIn r [] = Unit {0}
StartsIn r (p ∷ ps) = (r.0 ≤ p) × (p ≤ r.1)

falls_on : (p : ℕ) (ps : List ℕ) → is_falling (p ∷ ps) ≡ true → StartsIn (before p) ps
falls_on p [] e = tt
falls_on zero (q ∷ qs) e = let lt : q < 0 = ltb-true _ _ (and-left _ _ e) in absurd (omega (arith, lt))
falls_on (suc n) (q ∷ qs) e = let lt : q < suc n = ltb-true _ _ (and-left _ _ e) in (omega arith, omega (arith, lt))

falls_rest : (p : ℕ) (ps : List ℕ) → is_falling (p ∷ ps) ≡ true → is_falling ps ≡ true
falls_rest p [] e = refl
falls_rest p (q ∷ qs) e = and-right _ _ e

positions_fit : (r : ℕ × ℕ) (ps : List ℕ) → list_all is_number ps ≡ true → is_falling ps ≡ true → StartsIn r ps → fit_many position then_before (length ps) r ps ≡ true
unfolding fit_many
positions_fit r [] e f s = refl
positions_fit r (p ∷ ps) e f s =
    both _ _ (u64_fits r.0 r.1 p s.0 s.1 (ltb-true _ _ (and-left _ _ e))) (positions_fit (before p) ps (and-right _ _ e) (falls_rest p ps f) (falls_on p ps f))

starts : (ps : List ℕ) → list_all is_number ps ≡ true → StartsIn (0, 2 ^ 64 - 1) ps
starts [] e = tt
starts (p ∷ ps) e = let lt : p < 2 ^ 64 = ltb-true _ _ (and-left _ _ e) in (omega arith, omega (arith, lt))

pub backs_fit : (ps : List ℕ) → are_backs ps ≡ true → backs.fits ps ≡ true
backs_fit ps e =
    let few : length ps ≤ 4 = leb-true _ _ (and-left _ _ (and-left _ _ e)) in
    let numbers = and-right _ _ (and-left _ _ e) in
    both _ _ (u8_fits 0 4 (length ps) (omega arith) few (omega (arith, few)))
    (both _ _ (positions_fit (0, 2 ^ 64 - 1) ps numbers (and-right _ _ e) (starts ps numbers)) refl)

-- the first object is low at least
abbrev IsFrom : ℕ → List StreamLink → Type 0
IsFrom low [] = Unit {0}
IsFrom low (l ∷ ls) = low ≤ l.oid.0

links_on : (l : StreamLink) (ls : List StreamLink) → is_rising (stream_numbers (l ∷ ls)) ≡ true → IsFrom (l.oid.0 + 1) ls
links_on l [] e = tt
links_on l (m ∷ ms) e = let lt : l.oid.0 < m.oid.0 = ltb-true _ _ (and-left _ _ e) in omega (arith, lt)

rising_rest : (x : ℕ) (xs : List ℕ) → is_rising (x ∷ xs) ≡ true → is_rising xs ≡ true
rising_rest x [] e = refl
rising_rest x (y ∷ ys) e = and-right _ _ e

pub links_fit : (low : ℕ) (ls : List StreamLink) → list_all is_stream ls ≡ true → is_rising (stream_numbers ls) ≡ true → IsFrom low ls → fit_many link after_link (length ls) low ls ≡ true
unfolding fit_many
links_fit low [] e r f = refl
links_fit low (l ∷ ls) e r f =
    let this = and-left _ _ e in
    both _ _ (both _ _ (oid_fits low l.oid (and-left _ _ this) f) (backs_fit l.backs (and-right _ _ this)))
    (links_fit (l.oid.0 + 1) ls (and-right _ _ e) (rising_rest l.oid.0 (stream_numbers ls) r) (links_on l ls r))

from_zero : (ls : List StreamLink) → IsFrom 0 ls
from_zero [] = tt
from_zero (l ∷ ls) = omega arith

-- ---- reads

-- a read stands after the one before
abbrev Follows : LastRead → List ReadMark → Type 0
Follows last [] = Unit {0}
Follows last (m ∷ ms) = (last.oid ≤ m.oid.0) × (eqb last.oid m.oid.0 ≡ true → is_after last.part m.part ≡ true)

bound_fits : (b : Bool) (bound : Option Part) (p : Part) → is_part p ≡ true → (b ≡ true → is_after bound p ≡ true) → (part_above (cond b bound None)).fits p ≡ true
bound_fits true bound p e h = part_fits bound p e (h refl)
bound_fits false bound p e h = part_fits None p e refl

follows_on : (m : ReadMark) (ms : List ReadMark) → reads_rise (m ∷ ms) ≡ true → Follows (after_mark no_read m) ms
follows_on m [] e = tt
follows_on m (n ∷ ns) e = elim (or_cases (ltb m.oid.0 n.oid.0) (eqb m.oid.0 n.oid.0 && is_lt (part_cmp m.part n.part)) (and-left _ _ e)) [
  | inl less ↦
      let lt : m.oid.0 < n.oid.0 = ltb-true _ _ less in
      (omega (arith, lt), λ same. absurd (omega (arith, lt, eqb-true m.oid.0 n.oid.0 same)))
  | inr more ↦
      let same : m.oid.0 ≡ n.oid.0 = eqb-true _ _ (and-left _ _ more) in
      (omega (arith, same), λ _. and-right _ _ more)
]

rises_rest : (m : ReadMark) (ms : List ReadMark) → reads_rise (m ∷ ms) ≡ true → reads_rise ms ≡ true
rises_rest m [] e = refl
rises_rest m (n ∷ ns) e = and-right _ _ e

marks_fit : (last : LastRead) (ms : List ReadMark) → list_all is_read ms ≡ true → reads_rise ms ≡ true → Follows last ms → fit_many mark after_mark (length ms) last ms ≡ true
unfolding fit_many
marks_fit last [] e r f = refl
marks_fit last (m ∷ ms) e r f =
    let this = and-left _ _ e in
    let object = and-left _ _ (and-left _ _ this) in
    let part = and-right _ _ (and-left _ _ this) in
    both _ _ (both _ _ (oid_fits last.oid m.oid object f.0) (both _ _ (bound_fits (eqb last.oid m.oid.0) last.part m.part part f.1) (u64_any m.version (and-right _ _ this))))
    (marks_fit (after_mark last m) ms (and-right _ _ e) (rises_rest m ms r) (follows_on m ms r))

first_follows : (ms : List ReadMark) → Follows no_read ms
first_follows [] = tt
first_follows (m ∷ ms) = (omega arith, λ _. refl)

reads_fit : (ms : List ReadMark) → list_all is_read ms ≡ true → reads_rise ms ≡ true → length ms ≤ 64 → (reads 2).fits ms ≡ true
unfolding reads marks
reads_fit ms e r few = both _ _ (u8_fits 0 64 (length ms) (omega arith) few (omega (arith, few))) (marks_fit no_read ms e r (first_follows ms))

-- ---- writes

-- What is owed can be paid: the names without a write are named by those that are left, and each names one.
record IsPayable (o : Debt) (ws : List WriteOp) : Type 0 where
  left : o.left ≡ length ws
  distinct : is_distinct o.missing ≡ true
  covered : Covers (written ws) o.missing
  known : Covers o.names (written ws)

same-length : (ws : List WriteOp) → length (written ws) ≡ length ws
same-length [] = refl
same-length (w ∷ ws) = ap suc (same-length ws)

name_fits : (o : Debt) (w : WriteOp) (ws : List WriteOp) → IsPayable o (w ∷ ws) → is_object w.oid ≡ true → (oid (named o)).fits w.oid ≡ true
name_fits o w ws p e =
    elim (eqb (length o.missing) o.left) as (λ b. eqb (length o.missing) o.left ≡ b → (oid (cond b (points o.missing) (points o.names))).fits w.oid ≡ true) [
      | true ↦ λ is. both _ _ (meets_points o.missing w.oid.0 (among (eqb-true _ _ is))) small
      | false ↦ λ _. both _ _ (meets_points o.names w.oid.0 (p.known w.oid.0 (or_left (eqb w.oid.0 w.oid.0) (has (written ws) w.oid.0) (eq-eqb w.oid.0 w.oid.0 refl)))) small
    ] refl
  where
    small : ltb w.oid.0 (2 ^ 32) ≡ true
    small = oid_small w.oid e

    among : length o.missing ≡ o.left → has o.missing w.oid.0 ≡ true
    among all = elim (cases_Bool (has o.missing w.oid.0)) [
      | inl here ↦ here
      | inr gone ↦
          let others : Covers (written ws) o.missing = λ n h. elim (or_cases (eqb w.oid.0 n) (has (written ws) n) (p.covered n h)) [
            | inl same ↦ absurd (both_ways _ gone (subst (λ k. has o.missing k ≡ true) (sym (eqb-true _ _ same)) h))
            | inr rest ↦ rest
          ] in
          let few = few_names (written ws) o.missing p.distinct others in
          let len = same-length ws in
          absurd (omega (arith, few, len, all, p.left))
    ]

next_payable : (o : Debt) (w : WriteOp) (ws : List WriteOp) → IsPayable o (w ∷ ws) → IsPayable (paid o w.oid.0) ws
next_payable o w ws p = record {
  left = omega (arith, p.left);
  distinct = distinct-stays o.missing w.oid.0 p.distinct;
  covered = λ n h.
      let stay = stays o.missing w.oid.0 n h in
      elim (or_cases (eqb w.oid.0 n) (has (written ws) n) (p.covered n stay.0)) [
        | inl same ↦ absurd (both_ways _ stay.1 same)
        | inr rest ↦ rest
      ];
  known = λ n h. p.known n (or_right _ _ h);
}

op_fits : (w : WriteOp) → is_within 1 4096 (length w.op) ≡ true → (text ((1, 4096) ∷ [])).fits w.op ≡ true
op_fits w e =
    let low : 1 ≤ length w.op = leb-true _ _ (and-left _ _ e) in
    let high : length w.op ≤ 4096 = leb-true _ _ (and-right _ _ e) in
    both _ _ (u16_fits 1 4096 (length w.op) low high (omega (arith, high))) (eq-eqb _ _ refl)

some_fit : (o : Debt) (ws : List WriteOp) → list_all is_write ws ≡ true → IsPayable o ws → fit_many write after_write (length ws) o ws ≡ true
unfolding fit_many
some_fit o [] e p = refl
some_fit o (w ∷ ws) e p =
    let this = and-left _ _ e in
    both _ _ (both _ _ (name_fits o w ws p (and-left _ _ this)) (op_fits w (and-right _ _ this))) (some_fit (paid o w.oid.0) ws (and-right _ _ e) (next_payable o w ws p))

pub links-length : (ls : List StreamLink) → length (stream_numbers ls) ≡ length ls
links-length [] = refl
links-length (l ∷ ls) = ap suc (links-length ls)

writes_fit : (ls : List StreamLink) (ws : List WriteOp) → is_rising (stream_numbers ls) ≡ true → list_all is_write ws ≡ true → length ws ≤ 64 → ((n : ℕ) → has (stream_numbers ls) n ≡ has (written ws) n) → (writes ls).fits ws ≡ true
unfolding writes
writes_fit ls ws r e few same =
    let names = stream_numbers ls in
    let distinct = rising_distinct names r in
    let all : Covers (written ws) names = λ n h. sym (same n) ∙ h in
    let least = few_names (written ws) names distinct all in
    let len = same-length ws in
    let streams = links-length ls in
    let count = u8_fits (length ls) 64 (length ws) (omega (arith, least, len, streams)) few (omega (arith, few)) in
    both _ _ count (some_fit (owing (length ws) names) ws e (record { left = refl; distinct = distinct; covered = all; known = λ n h. same n ∙ h }))

-- ---- checkpoints

abbrev KeyFollows : KeyBound → Keyed → Type 0
KeyFollows s [] = Unit {0}
KeyFollows s (k ∷ ks) = is_after s.part k.0 ≡ true

keys_on : (s : KeyBound) (k : Part × ℕ) (ks : Keyed) → keys_rise (k ∷ ks) ≡ true → KeyFollows (after_key s k) ks
keys_on s k [] e = tt
keys_on s k (l ∷ ls) e = and-left _ _ e

keys_rest : (k : Part × ℕ) (ks : Keyed) → keys_rise (k ∷ ks) ≡ true → keys_rise ks ≡ true
keys_rest k [] e = refl
keys_rest k (l ∷ ls) e = and-right _ _ e

version_fits : (whole version v : ℕ) → whole < v → v ≤ version → version < 2 ^ 64 → (u64 (over whole version ∷ [])).fits v ≡ true
version_fits whole version v lt le most =
    let room : ltb whole version ≡ true = lt-ltb _ _ (omega (arith, lt, le)) in
    rw room (u64_fits (whole + 1) version v (omega (arith, lt)) le (omega (arith, le, most)))

each_fits : (s : KeyBound) (ks : Keyed) → s.version < 2 ^ 64 → list_all (is_key s.whole s.version) ks ≡ true → keys_rise ks ≡ true → KeyFollows s ks → fit_many key after_key (length ks) s ks ≡ true
unfolding fit_many
each_fits s [] most e r f = refl
each_fits s (k ∷ ks) most e r f =
    let this = and-left _ _ e in
    let part = and-left _ _ (and-left _ _ (and-left _ _ this)) in
    let above : s.whole < k.1 = ltb-true _ _ (and-right _ _ (and-left _ _ this)) in
    let upto : k.1 ≤ s.version = leb-true _ _ (and-right _ _ this) in
    both _ _ (both _ _ (part_fits s.part k.0 part f) (version_fits s.whole s.version k.1 above upto most))
    (each_fits (after_key s k) ks most (and-right _ _ e) (keys_rest k ks r) (keys_on s k ks r))

after_all : (p : Part) → not (is_all p) ≡ true → is_after (Some All) p ≡ true
after_all All e = absurd cc
after_all (Text t) e = refl
after_all (Num n) e = refl

first_key_follows : (whole version : ℕ) (ks : Keyed) → list_all (is_key whole version) ks ≡ true → KeyFollows (first_key whole version) ks
first_key_follows whole version [] e = tt
first_key_follows whole version (k ∷ ks) e = after_all k.0 (and-right _ _ (and-left _ _ (and-left _ _ (and-left _ _ e))))

keys_fit : (whole version : ℕ) (ks : Keyed) → version < 2 ^ 64 → list_all (is_key whole version) ks ≡ true → keys_rise ks ≡ true → length ks < 2 ^ 16 → (keys whole version).fits ks ≡ true
unfolding keys
keys_fit whole version ks most e r few =
    both _ _ (u16_fits 0 (2 ^ 64 - 1) (length ks) (omega arith) (omega (arith, few)) few) (each_fits (first_key whole version) ks most e r (first_key_follows whole version ks e))

state_fits : (state : List ℕ) → length state < 2 ^ 16 → (text any).fits state ≡ true
state_fits state few = both _ _ (u16_fits 0 (2 ^ 64 - 1) (length state) (omega arith) (omega (arith, few)) few) (eq-eqb _ _ refl)

point_fits : (o : Oid) → is_object o ≡ true → (oid (points (o.0 ∷ []))).fits o ≡ true
point_fits o e =
    let here : has (o.0 ∷ []) o.0 ≡ true = or_left (eqb o.0 o.0) false (eq-eqb o.0 o.0 refl) in
    both _ _ (meets_points (o.0 ∷ []) o.0 here) (oid_small o e)

fields_fit : (h : Head) (o : Oid) (upto version whole : ℕ) (ks : Keyed) (state : List ℕ) → IsCheckpoint h o upto version whole ks state → is_object o ≡ true → (new_fields (points (o.0 ∷ []))).fits (o, (upto, (version, (whole, (ks, state))))) ≡ true
unfolding new_fields
fields_fit h o upto version whole ks state c e =
    both _ _ (point_fits o e)
    (both _ _ (u64_any upto (lt-ltb _ _ c.upto_fits))
    (both _ _ (u64_any version (lt-ltb _ _ c.version_fits))
    (both _ _ (u64_fits 0 version whole (omega arith) c.below (omega (arith, c.below, c.version_fits)))
    (both _ _ (keys_fit whole version ks c.version_fits c.each_key c.rising c.few_keys) (state_fits state c.few_bytes)))))

-- the one stream's object is an object
one_object : (ls : List StreamLink) (o : Oid) → stream_numbers ls ≡ o.0 ∷ [] → list_all is_stream ls ≡ true → is_object o ≡ true
one_object [] o same e = absurd cc
one_object (l ∷ ls) o same e = let is : l.oid.0 ≡ o.0 = cc in let this = and-left _ _ (and-left _ _ e) in object-same l.oid o is this
  where
    object-same : (p o : Oid) → p.0 ≡ o.0 → is_object p ≡ true → is_object o ≡ true
    object-same p o is e = subst (λ k. is_object (record { 0 = k }) ≡ true) is e

-- ---- entries

-- the head before a body of this tag, and the body
with_head : (h : Head) (b : Body) → IsHead h → (u8 (stream_counts (tag_of b))).fits (length h.streams) ≡ true → 1 ≤ tag_of b → tag_of b ≤ 3 → (body 2 h.streams (tag_of b)).fits b ≡ true → entry.fits (record { head = h; body = b }) ≡ true
unfolding entry
with_head h b k count low high fits =
    let format : (u8 ((1, 2) ∷ [])).fits h.format ≡ true = rw k.format refl in
    let tag = u8_fits 1 3 (tag_of b) low high (omega (arith, high)) in
    let client = u16_fits 0 (2 ^ 64 - 1) h.client (omega arith) (omega (arith, k.client)) k.client in
    let number = u32_fits 1 (2 ^ 64 - 1) h.number k.number (omega (arith, k.within)) k.within in
    let streams = both _ _ count (links_fit 0 h.streams k.streams k.rising (from_zero h.streams)) in
    let this : (body h.format h.streams (tag_of b)).fits b ≡ true = rw k.format fits in
    both _ _ refl (both _ _ format (both _ _ tag (both _ _ client (both _ _ number (both _ _ streams this)))))

commit_fits : (h : Head) (rs : List ReadMark) (ws : List WriteOp) → IsCommit h rs ws → (body 2 h.streams 1).fits (Commit rs ws) ≡ true
unfolding body
commit_fits h rs ws c = both _ _ (reads_fit rs c.reads c.rising c.few_reads) (writes_fit h.streams ws c.head.rising c.writes c.few_writes c.streams)

bit_fits : (b : Bool) → (u8 ((0, 1) ∷ [])).fits (cond b 1 0) ≡ true
bit_fits true = refl
bit_fits false = refl

decision_fits : (h : Head) (at : ℕ) (fate : Bool) → at < 2 ^ 64 → (body 2 h.streams 2).fits (Decision at fate) ≡ true
unfolding body
decision_fits h at fate lt = both _ _ (u64_any at (lt-ltb _ _ lt)) (bit_fits fate)

checkpoint_fits : (h : Head) (o : Oid) (upto version whole : ℕ) (ks : Keyed) (state : List ℕ) → IsCheckpoint h o upto version whole ks state → (body 2 h.streams 3).fits (Checkpoint o upto version whole ks state) ≡ true
unfolding body
checkpoint_fits h o upto version whole ks state c =
    let fit = fields_fit h o upto version whole ks state c (one_object h.streams o c.stream c.head.streams) in
    subst (λ ns. (new_fields (points ns)).fits (o, (upto, (version, (whole, (ks, state))))) ≡ true) (sym c.stream) fit

count_fits : (h : Head) → IsHead h → (u8 ((1, 16) ∷ [])).fits (length h.streams) ≡ true
count_fits h k = u8_fits 1 16 (length h.streams) k.some k.few (omega (arith, k.few))

one_fits : (h : Head) (o : Oid) → stream_numbers h.streams ≡ o.0 ∷ [] → (u8 ((1, 1) ∷ [])).fits (length h.streams) ≡ true
one_fits h o e =
    let one : length h.streams ≡ 1 = sym (links-length h.streams) ∙ ap length e in
    rw one refl

pub records_fit : RecordsFit
records_fit = record {
  commits = λ h rs ws c. with_head h (Commit rs ws) c.head (count_fits h c.head) (omega arith) (omega arith) (commit_fits h rs ws c);
  decisions = λ h at fate k lt. with_head h (Decision at fate) k (count_fits h k) (omega arith) (omega arith) (decision_fits h at fate lt);
  checkpoints = λ h o upto version whole ks state c.
      with_head h (Checkpoint o upto version whole ks state) c.head (one_fits h o c.stream) (omega arith) (omega arith) (checkpoint_fits h o upto version whole ks state c);
}
