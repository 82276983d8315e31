-- A transaction that is open: what it has read and what it will write.
use Rattle.std.specs.Prelude.{ℕ, Bool, ◌&&◌, ◌||◌, nat_lt, nat_le, List, [], ◌∷◌, ◌++◌, map, length, Option, Some, None, if◌then◌else◌}
use Rattle.std.specs.List.{list_any}
use Rattle.tg_base.specs.declared.fault.Many.{Many}
use Rattle.tg_base.specs.declared.fault.Many.TheVariants as many
use Rattle.tg_base.specs.declared.ids.Oid.{Oid}
use Rattle.tg_base.specs.declared.marks.Part.{Part}
use Rattle.tg_base.specs.declared.marks.ReadMark.{ReadMark}
use Rattle.tg_entry.specs.declared.entry.WriteOp.{WriteOp}
use Rattle.tg_entry.specs.declared.entry.Body.TheVariants.{Commit}
use Rattle.tg_entry.specs.declared.entry.Entry.{Entry}
use Rattle.tg_protocol.specs.Words.{part_lt, first_some, where_true}
use Rattle.tg_kind.specs.Parts.{part_eq}
use Rattle.tg_base.specs.Orders.{oid_eq, oid_lt, rising_oids}
use Rattle.tg_entry.specs.Needs.{write_oid}
use Rattle.tg_protocol.specs.Entries.{draft, commit_size}

pub record Tx : Type 0 where
  pub number : ℕ
  pub reads : List ReadMark  -- rising by object and then part
  pub writes : List WriteOp  -- in order
  pub snapshot : Option ℕ  -- the tail at which its asks are answered

abbrev pub open_tx : ℕ → Tx
open_tx number = record { number = number; reads = []; writes = []; snapshot = None }

pub data TxFault : Type 0 where
  TooMany : (what : Many) → TxFault
  TooLarge : (bytes : ℕ) → TxFault

-- reads

abbrev pub same_part : Oid → Part → ReadMark → Bool
same_part o k r = oid_eq r.oid o && part_eq r.part k

abbrev pub has_read : List ReadMark → Oid → Part → Bool
has_read rs o k = list_any (same_part o k) rs

abbrev pub read_before : ReadMark → ReadMark → Bool
read_before a b = oid_lt a.oid b.oid || (oid_eq a.oid b.oid && part_lt a.part b.part)

-- each part once
abbrev pub with_read : ReadMark → List ReadMark → List ReadMark
with_read r [] = r ∷ []
with_read r (x ∷ xs) = if read_before r x then r ∷ x ∷ xs else (if same_part x.oid x.part r then x ∷ xs else x ∷ with_read r xs)

-- the streams of its record: the objects that it writes, rising
abbrev pub tx_streams : List WriteOp → List Oid
tx_streams ws = rising_oids (map write_oid ws)

abbrev pub record_size : List ReadMark → List WriteOp → ℕ
record_size rs ws = commit_size (length (tx_streams ws)) rs ws

-- a page holds 4,096 bytes
abbrev pub too_large : ℕ → Option TxFault
too_large n = where_true (nat_lt 4096 n) (TooLarge n)

unfoldable pub read_fault : Tx → Oid → Part → Option TxFault
read_fault t o k = if has_read t.reads o k then None else first_some (
    where_true (nat_le 64 (length t.reads)) (TooMany many.Reads)
    ∷ too_large (record_size (with_read (record { oid = o; part = k; version = 0 }) t.reads) t.writes) ∷ [])

unfoldable pub write_fault : Tx → WriteOp → Option TxFault
write_fault t w = first_some (
    where_true (nat_lt 16 (length (tx_streams (t.writes ++ w ∷ [])))) (TooMany many.Streams)
    ∷ where_true (nat_le 64 (length t.writes)) (TooMany many.Writes)
    ∷ too_large (record_size t.reads (t.writes ++ w ∷ [])) ∷ [])

abbrev pub tx_read : Tx → ReadMark → ℕ → Tx
tx_read t r at = record t { reads = with_read r t.reads; snapshot = Some at }

abbrev pub tx_put : Tx → WriteOp → Tx
tx_put t w = record t { writes = t.writes ++ w ∷ [] }

unfoldable pub commit_record : Tx → ℕ → Entry
commit_record t client = draft client t.number (tx_streams t.writes) (Commit t.reads t.writes)
