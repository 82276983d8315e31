-- The entries of a log as a machine: the states and the versions of objects below a position, and which records commit.
use Rattle.std.specs.Prelude.{◌≡◌, ℕ, ◌+◌, ◌<◌, ◌≤◌, ◌&&◌, Bool, true, List, [], Some, Contains}
use Rattle.tg_base.specs.declared.ids.Oid.{Oid}
use Rattle.tg_base.specs.declared.marks.Part.{Part}
use Rattle.tg_entry.specs.declared.entry.WriteOp.{WriteOp}
use Rattle.tg_entry.specs.declared.entry.Entry.{Entry}
use Rattle.tg_kind.specs.Meaning.{Meaning}
use Rattle.tg_model.specs.Stores.{state_at}
use Rattle.tg_kind.specs.Parts.{overlap}
use Rattle.tg_base.specs.Orders.{oid_eq}
use Rattle.tg_entry.specs.Needs.{writes_of}
use Rattle.tg_protocol.specs.Entries.{is_commit, lists}
use Rattle.tg_protocol.specs.Views.{Entries, touched}
use Rattle.tg_protocol.specs.Logs.{version_after, commits_after, changes_below, history_after}

-- each record stands in the streams of the objects that it writes
abbrev pub AreListed : Entries → Type 0
AreListed es = (p : ℕ) (e : Entry) (w : WriteOp) → Contains es (p, e) → Contains (writes_of e) w → lists e w.oid ≡ true

module _ (m : Meaning) where
  -- a write of this part of the object
  abbrev pub writes_to : Oid → Part → WriteOp → Bool
  writes_to o k w = oid_eq w.oid o && overlap (touched m (m.read w.oid w.op)) k

  -- the bytes of each write spell an op of its object's kind
  abbrev pub AreOps : List WriteOp → Type 0
  AreOps ws = (w : WriteOp) → Contains ws w → (op : m.op) × (m.read w.oid w.op ≡ Some op)

  abbrev pub AreSpelled : Entries → Type 0
  AreSpelled es = (p : ℕ) (e : Entry) → Contains es (p, e) → AreOps (writes_of e)

  module _ (objects : List Oid) (es : Entries) where
    -- an object's state below a position: the plain machine's over the committed transactions
    abbrev pub state_below : ℕ → Oid → m.state
    state_below n o = state_at m objects (history_after m [] es) n o

    abbrev pub version_below : ℕ → Oid → Part → ℕ
    version_below n o k = version_after m (changes_below m [] es n) o k

    -- the outcome of a record at a position
    abbrev pub commits : ℕ → Entry → Bool
    commits p e = commits_after m (changes_below m [] es p) e

    -- a committed change of a part, from one position on and below another
    pub record HasChange (o : Oid) (k : Part) (low high version : ℕ) : Type 0 where
      pub at : ℕ
      pub entry : Entry
      pub write : WriteOp
      pub here : Contains es (at, entry)
      pub after : low ≤ at
      pub before : at < high
      pub commit : commits at entry ≡ true
      pub writes : Contains (writes_of entry) write
      pub to : writes_to o k write ≡ true
      pub makes : version ≡ at + 1

    -- a commit record stands at a position, and this is its outcome
    pub record HasOutcome (p : ℕ) (b : Bool) : Type 0 where
      pub entry : Entry
      pub here : Contains es (p, entry)
      pub commit : is_commit entry ≡ true
      pub outcome : commits p entry ≡ b
