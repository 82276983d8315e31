-- What a commit record reads and writes, and which records need a decision record.
use Rattle.std.specs.Prelude.{Bool, false, not, ◌&&◌, ◌||◌, ◌==◌, nat_le, List, [], ◌∷◌, ◌++◌, length, map}
use Rattle.std.specs.List.{list_any}
use Rattle.tg_base.specs.Orders.{oid_eq, rising_oids}
use Rattle.tg_base.specs.declared.ids.Oid.{Oid}
use Rattle.tg_base.specs.declared.marks.ReadMark.{ReadMark}
use Rattle.tg_entry.specs.declared.entry.WriteOp.{WriteOp}
use Rattle.tg_entry.specs.declared.entry.Entry.{Entry}
use Rattle.tg_entry.specs.declared.entry.Body.{Body}
use Rattle.tg_entry.specs.declared.entry.Body.TheVariants.{Commit}

abbrev pub reads_in : Body → List ReadMark
reads_in (Commit rs ws) = rs
reads_in _ = []

abbrev pub writes_in : Body → List WriteOp
writes_in (Commit rs ws) = ws
writes_in _ = []

abbrev pub reads_of : Entry → List ReadMark
reads_of e = reads_in e.body

abbrev pub writes_of : Entry → List WriteOp
writes_of e = writes_in e.body

abbrev pub read_oid : ReadMark → Oid
read_oid r = r.oid

abbrev pub write_oid : WriteOp → Oid
write_oid w = w.oid

-- the objects that it reads or writes, each once
abbrev pub objects_of : Entry → List Oid
objects_of e = rising_oids (map read_oid (reads_of e) ++ map write_oid (writes_of e))

-- A client that hosts one of its objects may be unable to decide it: it reads something, and reads and writes two
-- objects at least.
unfoldable pub needs_decision : Entry → Bool
needs_decision e = not (length (reads_of e) == 0) && nat_le 2 (length (objects_of e))

-- another object than that of the first read is read or written
abbrev pub names_another : List ReadMark → List WriteOp → Bool
names_another [] ws = false
names_another (r ∷ rs) ws = list_any (λ (m : ReadMark). not (oid_eq m.oid r.oid)) rs || list_any (λ (w : WriteOp). not (oid_eq w.oid r.oid)) ws
