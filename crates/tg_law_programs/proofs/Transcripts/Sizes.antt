-- How large the record of a transaction would be with one more read or write.
use Rattle.std.proofs.Common.{◌≡◌, ℕ, ◌+◌, ◌*◌, ◌<◌, ◌≤◌, ◌^◌, List, [], ◌∷◌, ◌++◌, length, map, Bool, true, false, refl, arith, Some, None, Option}
use Rattle.std.specs.Prelude.{◌&&◌, ◌||◌, if◌then◌else◌}
use Rattle.std.specs.List.{list_all}
use Rattle.std.proofs.lemmas.Bool.Decides.{nat_tests}
use Rattle.std.proofs.lemmas.List.{length-append}
use Rattle.tg_base.specs.Orders.{oid_lt, oid_eq, with_oid, rising_oids}
use Rattle.tg_base.specs.Parts.{is_part}
use Rattle.tg_base.specs.Units.{is_within}
use Rattle.tg_base.specs.declared.ids.Oid.{Oid}
use Rattle.tg_base.specs.declared.marks.Part.{Part}
use Rattle.tg_base.specs.declared.marks.Part.TheVariants.{All, Text, Num}
use Rattle.tg_base.specs.declared.marks.ReadMark.{ReadMark}
use Rattle.tg_codec.specs.Codec.{u16}
use Rattle.tg_codec.proofs.Laws.{and-left, and-right}
use Rattle.tg_entry.specs.declared.entry.WriteOp.{WriteOp}
use Rattle.tg_entry.specs.Needs.{write_oid}
use Rattle.tg_entry.specs.Records.{is_object, is_read, is_write}
use Rattle.tg_kind.specs.Texts.{text_format}
use Rattle.tg_tree.specs.Paths.{path_format}
use Rattle.tg_model.specs.declared.command.Command.TheVariants as cmd
use Rattle.tg_model.specs.Kinds.{CommandOf}
use Rattle.tg_protocol.specs.Causes.{tx_reads, tx_writes, reads_with, writes_with}
use Rattle.tg_protocol.specs.Clients.{write_of}
use Rattle.tg_protocol.specs.Entries.{sum_of, part_size, read_size, write_size}
use Rattle.tg_protocol.specs.Transactions.{Tx, read_before, same_part, with_read, tx_streams, record_size}
use Rattle.tg_any.specs.declared.any.AnyAsk.{AnyAsk}
use Rattle.tg_any.specs.AllKinds.{all_kinds}
use Rattle.tg_trace.specs.Fields.{part_fits}
use Rattle.tg_law_walks.proofs.Drafts.Sound.{MaybeTx}
use Rattle.tg_law_programs.proofs.Transcripts.Fitting.{part_of}
use Rattle.tg_law_programs.proofs.Transcripts.Given.{CommandOk}
use Rattle.tg_law_programs.proofs.Transcripts.Lengths.{few_letters, op_short}
use Rattle.tg_law_programs.proofs.Transcripts.Passed.{Named, OpOk, AskOk}

-- Parts.

within_few : (n : ℕ) (b : Bool) → (is_within 1 4096 n && b) ≡ true → n ≤ 4096
within_few n b e = grind (arith, nat_tests)

-- a part of the format
pub part_small : (k : Part) → is_part k ≡ true → part_size k ≤ 5000
part_small All e = omega arith
part_small (Text t) e = let few = within_few (length t) _ e in omega (arith, few)
part_small (Num n) e = omega arith

-- and one that is told
told_small : (k : Part) → part_fits k ≡ true → part_size k ≤ 5000
told_small All e = omega arith
told_small (Text t) e = let few = by (text_format.fits t) refl e in omega (arith, few)
  where
    by : (b : Bool) → text_format.fits t ≡ b → (b || path_format.fits t) ≡ true → length t ≤ 4096
    by true is f = few_letters (length t) (and-left ((u16 ((1, 4096) ∷ [])).fits (length t)) _ is)
    by false is f = few_letters (length t) (and-left ((u16 ((1, 4096) ∷ [])).fits (length t)) _ f)
told_small (Num n) e = omega arith

-- Reads and writes.

reads_sum : (rs : List ReadMark) → list_all is_read rs ≡ true → sum_of (map read_size rs) ≤ 6000 * length rs
reads_sum [] e = omega arith
reads_sum (r ∷ rs) e =
    let a = part_small r.part (and-right (is_object r.oid) _ (and-left (is_object r.oid && is_part r.part) _ (and-left (is_read r) _ e))) in
    let b = reads_sum rs (and-right (is_read r) _ e) in
    omega (arith, a, b)

writes_sum : (ws : List WriteOp) → list_all is_write ws ≡ true → sum_of (map write_size ws) ≤ 6000 * length ws
writes_sum [] e = omega arith
writes_sum (w ∷ ws) e =
    let a = at_most (length w.op) (and-right (is_object w.oid) _ (and-left (is_write w) _ e)) in
    let b = writes_sum ws (and-right (is_write w) _ e) in
    omega (arith, a, b)
  where
    at_most : (n : ℕ) → is_within 1 4096 n ≡ true → n ≤ 4096
    at_most n f = grind (arith, nat_tests)

with_sum : (r : ReadMark) (rs : List ReadMark) → sum_of (map read_size (with_read r rs)) ≤ read_size r + sum_of (map read_size rs)
with_sum r [] = omega arith
with_sum r (x ∷ xs) = by (read_before r x) (same_part x.oid x.part r) (with_sum r xs)
  where
    by : (a b : Bool) → sum_of (map read_size (with_read r xs)) ≤ read_size r + sum_of (map read_size xs)
        → sum_of (map read_size (if a then r ∷ x ∷ xs else (if b then x ∷ xs else x ∷ with_read r xs))) ≤ read_size r + sum_of (map read_size (x ∷ xs))
    by true b rest = omega arith
    by false true rest = omega arith
    by false false rest = omega (arith, rest)

sum_more : (ws : List WriteOp) (w : WriteOp) → sum_of (map write_size (ws ++ w ∷ [])) ≡ sum_of (map write_size ws) + write_size w
sum_more [] w = omega arith
sum_more (x ∷ xs) w = let a = sum_more xs w in omega (arith, a)

oid_long : (x : Oid) (os : List Oid) → length (with_oid x os) ≤ length os + 1
oid_long x [] = omega arith
oid_long x (y ∷ ys) = by (oid_lt x y) (oid_eq x y) (oid_long x ys)
  where
    by : (a b : Bool) → length (with_oid x ys) ≤ length ys + 1 → length (if a then x ∷ y ∷ ys else (if b then y ∷ ys else y ∷ with_oid x ys)) ≤ length (y ∷ ys) + 1
    by true b rest = omega arith
    by false true rest = omega arith
    by false false rest = omega (arith, rest)

streams_long : (ws : List WriteOp) → length (tx_streams ws) ≤ length ws
streams_long [] = omega arith
streams_long (w ∷ ws) = let a = streams_long ws in let b = oid_long (write_oid w) (rising_oids (map write_oid ws)) in omega (arith, a, b)

-- a record of so many reads and writes
record_small : (rs : List ReadMark) (ws : List WriteOp) → sum_of (map read_size rs) ≤ 1000000 → sum_of (map write_size ws) ≤ 1000000 → length ws ≤ 65 → record_size rs ws < 2 ^ 64
record_small rs ws a b few = let c = streams_long ws in omega (arith, a, b, c, few)

-- An open transaction, and a command.

maybe_reads : (begun : ℕ) (t : Option Tx) → MaybeTx all_kinds begun t → sum_of (map read_size (tx_reads t)) ≤ 384000
maybe_reads begun None h = omega arith
maybe_reads begun (Some t) h = let p = h.2 in let a = reads_sum t.reads p.reads in let few = p.few_reads in omega (arith, a, few)

maybe_writes : (begun : ℕ) (t : Option Tx) → MaybeTx all_kinds begun t → (sum_of (map write_size (tx_writes t)) ≤ 384000) × (length (tx_writes t) ≤ 64)
maybe_writes begun None h = (omega arith, omega arith)
maybe_writes begun (Some t) h = let p = h.2 in let a = writes_sum t.writes p.writes in let few = p.few_writes in (omega (arith, a, few), few)

-- what a transaction would read and write with a command that keeps the words of its fields
pub would_be_small : (begun : ℕ) (t : Option Tx) (x : CommandOf all_kinds) → MaybeTx all_kinds begun t → CommandOk all_kinds Named OpOk AskOk x → record_size (reads_with all_kinds t x) (writes_with all_kinds t x) < 2 ^ 64
would_be_small begun t (cmd.Put o op) h k =
    let a = maybe_reads begun t h in
    let b = maybe_writes begun t h in
    let c = sum_more (tx_writes t) (write_of all_kinds o op) in
    let d = op_short op k.1 in
    let f = length-append (tx_writes t) (write_of all_kinds o op ∷ []) in
    let w : write_size (write_of all_kinds o op) ≤ 9006 = omega (arith, d) in
    let b0 = b.0 in
    let b1 = b.1 in
    record_small (tx_reads t) (tx_writes t ++ write_of all_kinds o op ∷ []) (omega (arith, a)) (omega (arith, b0, c, w)) (omega (arith, b1, f))
would_be_small begun t (cmd.Ask o q) h k = asked o q (told_small (all_kinds.look q) (part_of q k.1))
  where
    asked : (o : Oid) (q : AnyAsk) → part_size (all_kinds.look q) ≤ 5000 → record_size (reads_with all_kinds t (cmd.Ask o q)) (writes_with all_kinds t (cmd.Ask o q)) < 2 ^ 64
    asked o q few =
        let a = maybe_reads begun t h in
        let b = maybe_writes begun t h in
        let c = with_sum (record { oid = o; part = all_kinds.look q; version = 0 }) (tx_reads t) in
        let b0 = b.0 in
        let b1 = b.1 in
        record_small (with_read (record { oid = o; part = all_kinds.look q; version = 0 }) (tx_reads t)) (tx_writes t) (omega (arith, a, c, few)) (omega (arith, b0)) (omega (arith, b1))
would_be_small begun t x h k = plain (maybe_reads begun t h) (maybe_writes begun t h)
  where
    plain : sum_of (map read_size (tx_reads t)) ≤ 384000 → (sum_of (map write_size (tx_writes t)) ≤ 384000) × (length (tx_writes t) ≤ 64) → record_size (tx_reads t) (tx_writes t) < 2 ^ 64
    plain a b = let b0 = b.0 in let b1 = b.1 in record_small (tx_reads t) (tx_writes t) (omega (arith, a)) (omega (arith, b0)) (omega (arith, b1))
