-- The record of an open transaction has a spelling, and what changes a transaction keeps its limits.
use Rattle.std.specs.Prelude.{◌≡◌, ℕ, ◌<◌, ◌≤◌, ◌^◌, Bool, true, false, ◌||◌, ◌&&◌, ◌==◌, nat_lt, suc, cond, List, [], ◌∷◌, ◌++◌, length, map, refl}
use Rattle.std.specs.BTreeSet.{insert_key}
use Rattle.std.specs.List.{list_all, list_any}
use Rattle.std.specs.Ordering.{is_lt}
use Rattle.std.proofs.Common.{sym, ap, ◌∙◌, subst, arith}
use Rattle.std.proofs.lemmas.Bool.{true≢false}
use Rattle.std.proofs.lemmas.List.{length-map, length-append}
use Rattle.tg_base.specs.Orders.{oid_cmp}
use Rattle.tg_base.specs.Parts.{part_cmp}
use Rattle.tg_base.specs.Units.{has, is_rising}
use Rattle.tg_base.specs.declared.ids.Oid.{Oid}
use Rattle.tg_base.specs.declared.marks.ReadMark.{ReadMark}
use Rattle.tg_base.specs.declared.marks.StreamLink.{StreamLink}
use Rattle.tg_entry.specs.declared.entry.WriteOp.{WriteOp}
use Rattle.tg_entry.specs.declared.entry.Head.{Head}
use Rattle.tg_entry.specs.declared.entry.Entry.{Entry}
use Rattle.tg_entry.specs.declared.entry.Body.TheVariants.{Commit}
use Rattle.tg_entry.specs.Drafts.{IsDraft}
use Rattle.tg_entry.specs.Records.{is_object, is_stream, is_read, is_write, read_lt, reads_rise, written, IsHead, IsCommit}
use Rattle.tg_entry.specs.Writes.{stream_numbers}
use Rattle.tg_entry.proofs.Fits.{records_fit}
use Rattle.tg_protocol.specs.Entries.{unlinked}
use Rattle.tg_protocol.specs.Transactions.{tx_streams}
use Rattle.tg_tx.specs.Pendings.{read_cmp, Rising, has_key, IsPending}
use Rattle.tg_tx.proofs.Sets.{rising_put, put_same, length_put, all_put}
use Rattle.tg_tx.proofs.Orders.{oid_total, read_total, below_alone, below_then, with_oid_is, streams_rise, any_stream, some_streams}

first_true : (a b : Bool) → (a && b) ≡ true → a ≡ true
first_true true b e = refl
first_true false b e = absurd (true≢false (sym e))

rest_true : (a b : Bool) → (a && b) ≡ true → b ≡ true
rest_true true b e = e
rest_true false b e = absurd (true≢false (sym e))

both : (a b : Bool) → a ≡ true → b ≡ true → (a && b) ≡ true
both true b d e = e
both false b d e = absurd (true≢false (sym d))

-- ---- the streams

streams_objects : (ws : List WriteOp) → list_all is_write ws ≡ true → list_all is_object (tx_streams ws) ≡ true
streams_objects [] e = refl
streams_objects (w ∷ ws) e =
    ap (list_all is_object) (with_oid_is w.oid (tx_streams ws))
    ∙ all_put oid_total is_object w.oid (tx_streams ws) (first_true _ _ (first_true _ _ e)) (streams_objects ws (rest_true (is_write w) _ e))

are_streams : (os : List Oid) → list_all is_object os ≡ true → list_all is_stream (map unlinked os) ≡ true
are_streams [] e = refl
are_streams (o ∷ os) e = both _ _ (both _ _ (first_true _ _ e) refl) (are_streams os (rest_true (is_object o) _ e))

are_unlinked : (os : List Oid) → list_all (λ (l : StreamLink). length l.backs == 0) (map unlinked os) ≡ true
are_unlinked [] = refl
are_unlinked (o ∷ os) = are_unlinked os

numbers_rise : (os : List Oid) → Rising oid_cmp os → is_rising (stream_numbers (map unlinked os)) ≡ true
numbers_rise [] h = refl
numbers_rise (o ∷ []) h = refl
numbers_rise (o ∷ p ∷ os) h = both _ _ (below_alone (nat_lt o.0 p.0) (o.0 == p.0) ∙ ap is_lt h.0.0) (numbers_rise (p ∷ os) h.1)

any_number : (os : List Oid) (n : ℕ) → has (stream_numbers (map unlinked os)) n ≡ list_any (λ (o : Oid). o.0 == n) os
any_number [] n = refl
any_number (o ∷ os) n = ap (λ (b : Bool). (o.0 == n) || b) (any_number os n)

any_written : (ws : List WriteOp) (n : ℕ) → has (written ws) n ≡ list_any (λ (w : WriteOp). w.oid.0 == n) ws
any_written [] n = refl
any_written (w ∷ ws) n = ap (λ (b : Bool). (w.oid.0 == n) || b) (any_written ws n)

-- ---- the reads

read_lt_is : (a b : ReadMark) → read_lt a b ≡ is_lt (read_cmp a b)
read_lt_is a b = below_then (nat_lt a.oid.0 b.oid.0) (a.oid.0 == b.oid.0) (is_lt (part_cmp a.part b.part)) (part_cmp a.part b.part) refl

reads_in_order : (rs : List ReadMark) → Rising read_cmp rs → reads_rise rs ≡ true
reads_in_order [] h = refl
reads_in_order (r ∷ []) h = refl
reads_in_order (r ∷ s ∷ rs) h = both _ _ (read_lt_is r s ∙ ap is_lt h.0.0) (reads_in_order (s ∷ rs) h.1)

-- ---- the record

abbrev pub head_of : ℕ → ℕ → List StreamLink → Head
head_of client number ls = record { format = 2; client = client; number = number; streams = ls }

abbrev pub entry_of : ℕ → ℕ → List StreamLink → List ReadMark → List WriteOp → Entry
entry_of client number ls rs ws = record { head = head_of client number ls; body = Commit rs ws }

head_kept : (client number : ℕ) (rs : List ReadMark) (ws : List WriteOp) → IsPending number rs ws → client < 2 ^ 16 → 1 ≤ length ws → IsHead (head_of client number (map unlinked (tx_streams ws)))
head_kept client number rs ws h lt some = record {
  format = refl;
  client = lt;
  number = h.number;
  within = h.within;
  some = subst (λ (n : ℕ). 1 ≤ n) (sym (length-map (tx_streams ws) unlinked)) (some_streams ws some);
  few = subst (λ (n : ℕ). n ≤ 16) (sym (length-map (tx_streams ws) unlinked)) h.few_streams;
  streams = are_streams (tx_streams ws) (streams_objects ws h.writes);
  rising = numbers_rise (tx_streams ws) (streams_rise ws);
}

commit_kept : (client number : ℕ) (rs : List ReadMark) (ws : List WriteOp) → IsPending number rs ws → client < 2 ^ 16 → 1 ≤ length ws → IsCommit (head_of client number (map unlinked (tx_streams ws))) rs ws
commit_kept client number rs ws h lt some = record {
  head = head_kept client number rs ws h lt some;
  reads = h.reads;
  few_reads = h.few_reads;
  rising = reads_in_order rs h.rise;
  writes = h.writes;
  few_writes = h.few_writes;
  streams = λ n. any_number (tx_streams ws) n ∙ any_stream (λ (m : ℕ). m == n) ws ∙ sym (any_written ws n);
}

drafted : (client number : ℕ) (rs : List ReadMark) (ws : List WriteOp) → IsPending number rs ws → client < 2 ^ 16 → 1 ≤ length ws → IsDraft (entry_of client number (map unlinked (tx_streams ws)) rs ws)
drafted client number rs ws h lt some = record {
  spelled = records_fit.commits (head_of client number (map unlinked (tx_streams ws))) rs ws (commit_kept client number rs ws h lt some);
  unlinked = are_unlinked (tx_streams ws);
}

-- the record of copies
pub draft_kept : (client number : ℕ) (ls : List StreamLink) (qs rs : List ReadMark) (vs ws : List WriteOp) → ls ≡ map unlinked (tx_streams ws) → qs ≡ rs → vs ≡ ws
    → IsPending number rs ws → client < 2 ^ 16 → 1 ≤ length ws → IsDraft (entry_of client number ls qs vs)
draft_kept client number ls qs rs vs ws d e f h lt some = subst (λ (x : Entry). IsDraft x) (λ i. entry_of client number (sym d i) (sym e i) (sym f i)) (drafted client number rs ws h lt some)

-- ---- a read or a write more

pub read_kept : (number : ℕ) (rs : List ReadMark) (ws : List WriteOp) (r : ReadMark) → IsPending number rs ws → is_read r ≡ true → (has_key read_cmp r rs ≡ false → length rs < 64) → IsPending number (insert_key read_cmp rs r) ws
read_kept number rs ws r h is few = record {
  number = h.number;
  within = h.within;
  reads = all_put read_total is_read r rs is h.reads;
  few_reads = by (has_key read_cmp r rs) refl;
  rise = rising_put read_total r rs h.rise;
  writes = h.writes;
  few_writes = h.few_writes;
  few_streams = h.few_streams;
}
  where
    by : (b : Bool) → has_key read_cmp r rs ≡ b → length (insert_key read_cmp rs r) ≤ 64
    by true e = subst (λ (xs : List ReadMark). length xs ≤ 64) (sym (put_same read_total r rs h.rise e)) h.few_reads
    by false e = let lt = few e in let long : length (insert_key read_cmp rs r) ≡ suc (length rs) = length_put read_total r rs h.rise ∙ ap (λ (c : Bool). cond c (length rs) (suc (length rs))) e in omega (arith, lt, long)

all_last : (p : WriteOp → Bool) (ws : List WriteOp) (w : WriteOp) → list_all p ws ≡ true → p w ≡ true → list_all p (ws ++ w ∷ []) ≡ true
all_last p [] w d e = both _ _ e refl
all_last p (v ∷ ws) w d e = both _ _ (first_true _ _ d) (all_last p ws w (rest_true (p v) _ d) e)

pub write_kept : (number : ℕ) (rs : List ReadMark) (ws : List WriteOp) (w : WriteOp) → IsPending number rs ws → is_write w ≡ true → length ws < 64 → length (tx_streams (ws ++ w ∷ [])) ≤ 16 → IsPending number rs (ws ++ w ∷ [])
write_kept number rs ws w h is few narrow = record {
  number = h.number;
  within = h.within;
  reads = h.reads;
  few_reads = h.few_reads;
  rise = h.rise;
  writes = all_last is_write ws w h.writes is;
  few_writes = omega (arith, few, length-append ws (w ∷ []));
  few_streams = narrow;
}
