-- What a client drafts has a spelling.
use Rattle.std.proofs.Common.{◌≡◌, ℕ, suc, ◌+◌, ◌<◌, ◌≤◌, ◌^◌, Bool, true, false, cond, List, [], ◌∷◌, ◌++◌, length, map, Option, None, refl, sym, ap, ◌∙◌, subst, arith}
use Rattle.std.specs.Prelude.{◌&&◌, nat_le, nat_lt}
use Rattle.std.specs.List.{list_all}
use Rattle.tg_base.specs.Units.{is_rising, is_within}
use Rattle.tg_base.specs.declared.ids.Oid.{Oid}
use Rattle.tg_base.specs.declared.marks.Part.{Part}
use Rattle.tg_base.specs.declared.marks.ReadMark.{ReadMark}
use Rattle.tg_base.specs.declared.marks.StreamLink.{StreamLink}
use Rattle.tg_entry.specs.declared.entry.Body.{Body}
use Rattle.tg_entry.specs.declared.entry.Body.TheVariants.{Commit, Decision, Checkpoint}
use Rattle.tg_entry.specs.declared.entry.Entry.{Entry}
use Rattle.tg_entry.specs.declared.entry.WriteOp.{WriteOp}
use Rattle.tg_entry.specs.Format.{tag_of, entry}
use Rattle.tg_entry.specs.Records.{is_object, is_stream, is_read, is_write, IsHead}
use Rattle.tg_entry.specs.Writes.{stream_numbers}
use Rattle.tg_entry.proofs.Fits.{records_fit}
use Rattle.tg_protocol.specs.Words.{directory, first_some, where_true}
use Rattle.tg_protocol.specs.Entries.{draft, unlinked, oid_of_link, streams_of}
use Rattle.tg_protocol.specs.Transactions.{Tx, open_tx, TooMany, has_read, with_read, tx_streams, record_size, too_large, read_fault, write_fault, tx_read, tx_put, commit_record}
use Rattle.tg_tx.specs.Pendings.{IsPending}
use Rattle.tg_tx.proofs.Orders.{with_read_is, has_read_is}
use Rattle.tg_tx.proofs.Drafting.{draft_kept, read_kept, write_kept}
use Rattle.tg_law_walks.proofs.Drafts.Heads.{HasTwin}
use Rattle.tg_law_walks.proofs.Drafts.Ranges.{RiseFrom, AreStreams}

-- Of a draft: it has a spelling, or, where it saves an object, its head has.
pub data Fitting (d : Entry) : Type 0 where
  Whole : (fits : entry.fits d ≡ true) → Fitting d
  Saving : (saves : tag_of d.body ≡ 3) → (twin : HasTwin d) → Fitting d

-- Transactions.

-- what an open transaction keeps, apart from its number
abbrev pub TxOk : Tx → Type 0
TxOk t = IsPending 1 t.reads t.writes

pub open_ok : (n : ℕ) → TxOk (open_tx n)
open_ok n = record { number = omega arith; within = omega arith; reads = refl; few_reads = omega arith; rise = tt; writes = refl; few_writes = omega arith; few_streams = omega arith }

first_none : {X : Type 0} (b : Bool) (x : X) (xs : List (Option X)) → first_some (where_true b x ∷ xs) ≡ None → (b ≡ false) × (first_some xs ≡ None)
first_none true x xs e = absurd cc
first_none false x xs e = (refl, e)

read_fits : (t : Tx) (o : Oid) (k : Part) → read_fault t o k ≡ None → has_read t.reads o k ≡ false → length t.reads < 64
unfolding read_fault
read_fits t o k e none = let f = first_none (nat_le 64 (length t.reads)) _ _ (subst (λ (b : Bool). cond b None (first_some (where_true (nat_le 64 (length t.reads)) (TooMany Rattle.tg_base.specs.declared.fault.Many.TheVariants.Reads)
    ∷ too_large (record_size (with_read (record { oid = o; part = k; version = 0 }) t.reads) t.writes) ∷ [])) ≡ None) none e) in let g = f.0 in grind (arith, g)

pub read_ok : (t : Tx) (r : ReadMark) (at : ℕ) → read_fault t r.oid r.part ≡ None → is_read r ≡ true → TxOk t → TxOk (tx_read t r at)
read_ok t r at e is h = subst (λ (rs : List ReadMark). IsPending 1 rs t.writes) (sym (with_read_is r t.reads)) (read_kept 1 t.reads t.writes r h is (λ none. read_fits t r.oid r.part e (has_read_is r t.reads ∙ none)))

pub put_ok : (t : Tx) (w : WriteOp) → write_fault t w ≡ None → is_write w ≡ true → TxOk t → TxOk (tx_put t w)
unfolding write_fault
put_ok t w e is h =
    let a = first_none (nat_lt 16 (length (tx_streams (t.writes ++ w ∷ [])))) _ _ e in
    let b = first_none (nat_le 64 (length t.writes)) _ _ a.1 in
    let c = a.0 in
    let d = b.0 in
    write_kept 1 t.reads t.writes w h is (grind (arith, d)) (grind (arith, c))

numbered : (n : ℕ) (rs : List ReadMark) (ws : List WriteOp) → 1 ≤ n → n < 2 ^ 32 → IsPending 1 rs ws → IsPending n rs ws
numbered n rs ws low high h = record { number = low; within = high; reads = h.reads; few_reads = h.few_reads; rise = h.rise; writes = h.writes; few_writes = h.few_writes; few_streams = h.few_streams }

pub record_fits : (t : Tx) (client : ℕ) → TxOk t → 1 ≤ t.number → t.number < 2 ^ 32 → client < 2 ^ 16 → 1 ≤ length t.writes → entry.fits (commit_record t client) ≡ true
unfolding commit_record
record_fits t client h low high lt some = (draft_kept client t.number (map unlinked (tx_streams t.writes)) t.reads t.reads t.writes t.writes refl refl refl (numbered t.number t.reads t.writes low high h) lt some).spelled

-- Heads.

both : (a b : Bool) → a ≡ true → b ≡ true → (a && b) ≡ true
both a b e f = grind arith

are_bare : (os : List Oid) → list_all is_object os ≡ true → list_all is_stream (map unlinked os) ≡ true
are_bare [] e = refl
are_bare (o ∷ os) e = let f = halves (is_object o) (list_all is_object os) e in both (is_object o && true) (list_all is_stream (map unlinked os)) (both (is_object o) true f.0 refl) (are_bare os f.1)
  where
    halves : (a b : Bool) → (a && b) ≡ true → (a ≡ true) × (b ≡ true)
    halves a b e = grind arith

long_map : {X Y : Type 0} (f : X → Y) (xs : List X) → length (map f xs) ≡ length xs
long_map f [] = refl
long_map f (x ∷ xs) = ap suc (long_map f xs)

head_ok : (client number : ℕ) (os : List Oid) → client < 2 ^ 16 → 1 ≤ number → number < 2 ^ 32 → 1 ≤ length os → length os ≤ 16 → list_all is_object os ≡ true → is_rising (stream_numbers (map unlinked os)) ≡ true
    → IsHead (record { format = 2; client = client; number = number; streams = map unlinked os })
head_ok client number os lt low high some few objects rising = record {
  format = refl;
  client = lt;
  number = low;
  within = high;
  some = subst (λ n. 1 ≤ n) (sym (long_map unlinked os)) some;
  few = subst (λ n. n ≤ 16) (sym (long_map unlinked os)) few;
  streams = are_bare os objects;
  rising = rising;
}

are_objects : (low : ℕ) (ls : List StreamLink) → RiseFrom low ls → list_all is_object (map oid_of_link ls) ≡ true
are_objects low [] h = refl
are_objects low (l ∷ ls) h = both (is_object l.oid) _ h.1 (are_objects (l.oid.0 + 1) ls h.2)

they_rise : (low : ℕ) (ls : List StreamLink) → RiseFrom low ls → is_rising (stream_numbers (map unlinked (map oid_of_link ls))) ≡ true
they_rise low [] h = refl
they_rise low (l ∷ []) h = refl
they_rise low (l ∷ k ∷ ls) h = both (nat_lt l.oid.0 k.oid.0) _ (let a = h.2.0 in grind (arith, a)) (they_rise (l.oid.0 + 1) (k ∷ ls) h.2)

-- Decision records.

pub decision_fits : (client number : ℕ) (e : Entry) (at : ℕ) (so : Bool) → AreStreams e.head.streams → client < 2 ^ 16 → 1 ≤ number → number < 2 ^ 32 → at < 2 ^ 64 → entry.fits (draft client number (streams_of e) (Decision at so)) ≡ true
decision_fits client number e at so s lt low high near =
    let some = s.some in
    let few = s.few in
    let long = long_map oid_of_link e.head.streams in
    records_fit.decisions (record { format = 2; client = client; number = number; streams = map unlinked (streams_of e) }) at so
    (head_ok client number (streams_of e) lt low high (omega (arith, some, long)) (omega (arith, few, long)) (are_objects 0 e.head.streams s.rise) (they_rise 0 e.head.streams s.rise)) near

-- Marks.

pub mark_fits : (client number : ℕ) (op : List ℕ) → client < 2 ^ 16 → 1 ≤ number → number < 2 ^ 32 → is_within 1 4096 (length op) ≡ true
    → entry.fits (draft client number (directory ∷ []) (Commit [] (record { oid = directory; op = op } ∷ []))) ≡ true
mark_fits client number op lt low high fits = (draft_kept client number (map unlinked (directory ∷ [])) [] [] (record { oid = directory; op = op } ∷ []) (record { oid = directory; op = op } ∷ []) refl refl refl (record {
  number = low;
  within = high;
  reads = refl;
  few_reads = omega arith;
  rise = tt;
  writes = both (is_within 1 4096 (length op)) true fits refl;
  few_writes = omega arith;
  few_streams = omega arith;
}) lt (omega arith)).spelled

-- Checkpoints.

pub saving : (client number : ℕ) (o : Oid) (b : Body) → tag_of b ≡ 3 → is_object o ≡ true → client < 2 ^ 16 → 1 ≤ number → number < 2 ^ 32 → Fitting (draft client number (o ∷ []) b)
saving client number o b tag is lt low high = Saving tag (record {
  body = Checkpoint o 0 0 0 [] [];
  tag = sym tag;
  fits = records_fit.checkpoints (record { format = 2; client = client; number = number; streams = map unlinked (o ∷ []) }) o 0 0 0 [] [] (record {
    head = head_ok client number (o ∷ []) lt low high (omega arith) (omega arith) (both (is_object o) true is refl) refl;
    stream = refl;
    upto_fits = omega arith;
    version_fits = omega arith;
    below = omega arith;
    each_key = refl;
    few_keys = omega arith;
    rising = refl;
    few_bytes = omega arith;
  });
})
