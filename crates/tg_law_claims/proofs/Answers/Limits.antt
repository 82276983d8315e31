-- What an open transaction keeps: few reads and writes, and a record for which a page has room.
use Rattle.std.proofs.Common.{◌≡◌, ℕ, suc, ◌+◌, ◌<◌, ◌≤◌, Bool, true, false, cond, List, [], ◌∷◌, ◌++◌, length, map, Option, Some, None, refl, sym, ap, ◌∙◌, subst, arith}
use Rattle.std.specs.Prelude.{nat_lt, nat_le, ◌||◌}
use Rattle.std.specs.Cmp.{unsigned_ties}
use Rattle.std.specs.Ordering.{is_eq}
use Rattle.std.proofs.lemmas.Bool.Decides.{nat_tests}
use Rattle.std.proofs.lemmas.List.{length-append}
use Rattle.tg_base.specs.Orders.{oid_cmp, with_oid}
use Rattle.tg_base.specs.declared.fault.Many.TheVariants as many
use Rattle.tg_base.specs.declared.ids.Oid.{Oid}
use Rattle.tg_base.specs.declared.marks.Part.{Part}
use Rattle.tg_base.specs.declared.marks.ReadMark.{ReadMark}
use Rattle.tg_entry.specs.declared.entry.WriteOp.{WriteOp}
use Rattle.tg_protocol.specs.Words.{first_some, where_true, has_oid}
use Rattle.tg_protocol.specs.Entries.{sum_of, read_size}
use Rattle.tg_protocol.specs.Transactions.{Tx, TooMany, TooLarge, open_tx, has_read, with_read, tx_streams, record_size, too_large, read_fault, write_fault, tx_read, tx_put}
use Rattle.tg_tx.specs.Pendings.{read_cmp, Rising, has_key}
use Rattle.tg_tx.proofs.Sets.{rising_put, put_same, length_put, sum_put}
use Rattle.tg_tx.proofs.Orders.{oid_total, read_total, with_read_is, has_read_is, with_oid_is}

pub first_none : {X : Type 0} (x : Option X) (xs : List (Option X)) → first_some (x ∷ xs) ≡ None → (x ≡ None) × (first_some xs ≡ None)
first_none None xs e = (refl, e)
first_none (Some x) xs e = absurd cc

pub untrue : {X : Type 0} (b : Bool) (x : X) → where_true b x ≡ None → b ≡ false
untrue true x e = absurd cc
untrue false x e = refl

-- reads and writes within the limits
pub record IsWithin (rs : List ReadMark) (ws : List WriteOp) : Type 0 where
  pub few_reads : length rs ≤ 64
  pub few_writes : length ws ≤ 64
  pub few_streams : length (tx_streams ws) ≤ 16
  pub small : record_size rs ws ≤ 4096

pub record IsLean (t : Tx) : Type 0 where
  pub rise : Rising read_cmp t.reads
  pub within : IsWithin t.reads t.writes

pub none_within : IsWithin [] []
none_within = record { few_reads = omega arith; few_writes = omega arith; few_streams = omega arith; small = omega arith }

pub open_lean : (n : ℕ) → IsLean (open_tx n)
open_lean n = record { rise = tt; within = none_within }

has_room : (n : ℕ) → too_large n ≡ None → n ≤ 4096
has_room n e = let f = untrue (nat_lt 4096 n) (TooLarge n) e in grind (arith, nat_tests, f)

-- A read more.

abbrev unread : Oid → Part → ReadMark
unread o k = record { oid = o; part = k; version = 0 }

record ReadFits (t : Tx) (o : Oid) (k : Part) : Type 0 where
  few : length t.reads < 64
  small : record_size (with_read (unread o k) t.reads) t.writes ≤ 4096

read_fits : (t : Tx) (o : Oid) (k : Part) → read_fault t o k ≡ None → has_read t.reads o k ≡ false → ReadFits t o k
unfolding read_fault
read_fits t o k e none =
    let rest : first_some (where_true (nat_le 64 (length t.reads)) (TooMany many.Reads) ∷ too_large (record_size (with_read (unread o k) t.reads) t.writes) ∷ []) ≡ None =
    subst (λ (b : Bool). cond b None (first_some (where_true (nat_le 64 (length t.reads)) (TooMany many.Reads) ∷ too_large (record_size (with_read (unread o k) t.reads) t.writes) ∷ [])) ≡ None) none e in
    let a = first_none (where_true (nat_le 64 (length t.reads)) (TooMany many.Reads)) _ rest in
    let b = first_none (too_large (record_size (with_read (unread o k) t.reads) t.writes)) [] a.1 in
    let f = untrue (nat_le 64 (length t.reads)) (TooMany many.Reads) a.0 in
    record { few = grind (arith, nat_tests, f); small = has_room (record_size (with_read (unread o k) t.reads) t.writes) b.0 }

-- the bytes of a read don't depend on its version
sizes : (r : ReadMark) (rs : List ReadMark) → has_key read_cmp r rs ≡ false → sum_of (map read_size (with_read r rs)) ≡ read_size r + sum_of (map read_size rs)
sizes r rs none = ap (λ (xs : List ReadMark). sum_of (map read_size xs)) (with_read_is r rs) ∙ sum_put read_total read_size r rs none

same_sizes : (r : ReadMark) (rs : List ReadMark) → has_read rs r.oid r.part ≡ false → sum_of (map read_size (with_read r rs)) ≡ sum_of (map read_size (with_read (unread r.oid r.part) rs))
same_sizes r rs none = sizes r rs (sym (has_read_is r rs) ∙ none) ∙ sym (sizes (unread r.oid r.part) rs (sym (has_read_is (unread r.oid r.part) rs) ∙ none))

pub read_lean : (t : Tx) (r : ReadMark) (at : ℕ) → read_fault t r.oid r.part ≡ None → IsLean t → IsLean (tx_read t r at)
read_lean t r at e h = by (has_read t.reads r.oid r.part) refl
  where
    lean_so : (rs : List ReadMark) → Rising read_cmp rs → length rs ≤ 64 → record_size rs t.writes ≤ 4096 → IsLean (record t { reads = rs; snapshot = Some at })
    lean_so rs rise few small = record { rise = rise; within = record { few_reads = few; few_writes = h.within.few_writes; few_streams = h.within.few_streams; small = small } }

    rises : Rising read_cmp (with_read r t.reads)
    rises = subst (λ (rs : List ReadMark). Rising read_cmp rs) (sym (with_read_is r t.reads)) (rising_put read_total r t.reads h.rise)

    same : has_read t.reads r.oid r.part ≡ true → with_read r t.reads ≡ t.reads
    same there = with_read_is r t.reads ∙ put_same read_total r t.reads h.rise (sym (has_read_is r t.reads) ∙ there)

    by : (b : Bool) → has_read t.reads r.oid r.part ≡ b → IsLean (tx_read t r at)
    by true there = subst (λ (rs : List ReadMark). IsLean (record t { reads = rs; snapshot = Some at })) (sym (same there)) (lean_so t.reads h.rise h.within.few_reads h.within.small)
    by false none =
        let f = read_fits t r.oid r.part e none in
        let lt = f.few in
        let key = sym (has_read_is r t.reads) ∙ none in
        let long : length (with_read r t.reads) ≡ suc (length t.reads) = ap (λ (rs : List ReadMark). length rs) (with_read_is r t.reads) ∙ (length_put read_total r t.reads h.rise ∙ ap (λ (c : Bool). cond c (length t.reads) (suc (length t.reads))) key) in
        let bytes = same_sizes r t.reads none in
        let small = f.small in
        lean_so (with_read r t.reads) rises (omega (arith, lt, long)) (omega (arith, bytes, small))

-- A write more.

pub put_lean : (t : Tx) (w : WriteOp) → write_fault t w ≡ None → IsLean t → IsLean (tx_put t w)
unfolding write_fault
put_lean t w e h =
    let a = first_none (where_true (nat_lt 16 (length (tx_streams (t.writes ++ w ∷ [])))) (TooMany many.Streams)) _ e in
    let b = first_none (where_true (nat_le 64 (length t.writes)) (TooMany many.Writes)) _ a.1 in
    let c = first_none (too_large (record_size t.reads (t.writes ++ w ∷ []))) [] b.1 in
    let f = untrue (nat_lt 16 (length (tx_streams (t.writes ++ w ∷ [])))) (TooMany many.Streams) a.0 in
    let g = untrue (nat_le 64 (length t.writes)) (TooMany many.Writes) b.0 in
    let long = length-append t.writes (w ∷ []) in
    let lt : length t.writes < 64 = grind (arith, nat_tests, g) in
    record {
      rise = h.rise;
      within = record { few_reads = h.within.few_reads; few_writes = omega (arith, long, lt); few_streams = grind (arith, nat_tests, f); small = has_room (record_size t.reads (t.writes ++ w ∷ [])) c.0 };
    }

-- Hosted objects.

pub record AreFew (os : List Oid) : Type 0 where
  pub rise : Rising oid_cmp os
  pub few : length os ≤ 128

-- one that is hosted already changes nothing, and any other is one more
pub host_few : (os : List Oid) (o : Oid) → AreFew os → (has_oid o os ≡ false → length os < 128) → AreFew (with_oid o os)
host_few os o h less = by (has_oid o os) refl
  where
    is_key : (ps : List Oid) → has_oid o ps ≡ has_key oid_cmp o ps
    is_key [] = refl
    is_key (p ∷ ps) = ap (λ (b : Bool). b || has_oid o ps) (unsigned_ties o.0 p.0) ∙ ap (λ (b : Bool). is_eq (oid_cmp o p) || b) (is_key ps)

    rises : Rising oid_cmp (with_oid o os)
    rises = subst (λ (ps : List Oid). Rising oid_cmp ps) (sym (with_oid_is o os)) (rising_put oid_total o os h.rise)

    by : (b : Bool) → has_oid o os ≡ b → AreFew (with_oid o os)
    by true e = subst AreFew (sym (with_oid_is o os ∙ put_same oid_total o os h.rise (sym (is_key os) ∙ e))) h
    by false e =
        let lt = less e in
        let long : length (with_oid o os) ≡ suc (length os) = ap (λ (ps : List Oid). length ps) (with_oid_is o os) ∙ (length_put oid_total o os h.rise ∙ ap (λ (c : Bool). cond c (length os) (suc (length os))) (sym (is_key os) ∙ e)) in
        record { rise = rises; few = omega (arith, lt, long) }
