-- What the walks of some streams find of a log.
use Rattle.std.specs.Prelude.{◌≡◌, ℕ, ◌<◌, ◌≤◌, true, Bool, List, Option, Some, None, Contains}
use Rattle.tg_base.specs.declared.ids.Oid.{Oid}
use Rattle.tg_base.specs.declared.marks.ReadMark.{ReadMark}
use Rattle.tg_entry.specs.declared.entry.Body.TheVariants.{Decision}
use Rattle.tg_entry.specs.declared.entry.WriteOp.{WriteOp}
use Rattle.tg_entry.specs.declared.entry.Entry.{Entry}
use Rattle.tg_kind.specs.Meaning.{Meaning}
use Rattle.tg_entry.specs.Needs.{reads_of, writes_of, needs_decision}
use Rattle.tg_protocol.specs.Entries.{is_commit, lists}
use Rattle.tg_protocol.specs.Views.{Entries, decision_in, Base, View, base_of, fate_of, unknown_in}
use Rattle.tg_protocol.specs.Checkpoints.{TrimPoints, trim_of, load_from}
use Rattle.tg_law_replies.specs.Plays.Sound.{IsRising}

abbrev pub or_first : Option ℕ → ℕ
or_first None = 0
or_first (Some b) = b

-- where the walk of a stream met a trim, or the log's beginning
abbrev pub low_of : TrimPoints → Oid → ℕ
low_of gone o = or_first (trim_of gone o)

-- Entries of the log, and among them all of these streams below a tail, from where their walks met a trim; where no checkpoint reaches that trim, nothing of the stream stands below it.
pub record AreExact (m : Meaning) (es own : Entries) (gone : TrimPoints) (oids : List Oid) (tail : ℕ) : Type 0 where
  pub rising : IsRising own
  pub only : (p : ℕ) (e : Entry) → Contains own (p, e) → Contains es (p, e)
  pub all : (o : Oid) (p : ℕ) (e : Entry) → Contains oids o → Contains es (p, e) → lists e o ≡ true → low_of gone o ≤ p → p < tail → Contains own (p, e)
  pub none_below : (o : Oid) (b p : ℕ) (e : Entry) → Contains oids o → trim_of gone o ≡ Some b → load_from m own o b ≡ None → Contains es (p, e) → lists e o ≡ true → b ≤ p

-- a decision record of a position stands in the log
pub record DecisionStands (es : Entries) (p : ℕ) : Type 0 where
  pub at : ℕ
  pub entry : Entry
  pub is_yes : Bool
  pub here : Contains es (at, entry)
  pub is : entry.body ≡ Decision p is_yes

-- where the record at a position needs one
abbrev pub IsRecorded : Entries → ℕ → Type 0
IsRecorded es p = (e : Entry) → Contains es (p, e) → needs_decision e ≡ true → DecisionStands es p

-- a view hosts an object that a record reads, from the record's position or before
pub record ReadsHosted (m : Meaning) (v : View m) (p : ℕ) (e : Entry) : Type 0 where
  pub read : ReadMark
  pub reads : Contains (reads_of e) read
  pub base : Base m
  pub hosted : base_of m v read.oid ≡ Some base
  pub after : base.upto ≤ p

-- and none that it writes
abbrev pub WritesUnhosted : (m : Meaning) → View m → ℕ → Entry → Type 0
WritesUnhosted m v p e = (w : WriteOp) (b : Base m) → Contains (writes_of e) w → base_of m v w.oid ≡ Some b → p < b.upto

-- Such a record, that a view went past and that needs a decision record, has a fate, unless a decision record is among the entries, or a read is unknown.
-- (A record that writes an object which the view hosts from there or before has a fate in any case.)
abbrev pub LeavesNone : (m : Meaning) → View m → Entries → Type 0
LeavesNone m v own = (p : ℕ) (e : Entry) → Contains own (p, e) → is_commit e ≡ true → needs_decision e ≡ true → p < v.upto → WritesUnhosted m v p e → ReadsHosted m v p e →
    fate_of m v p ≡ None → decision_in own p ≡ None → unknown_in m v (reads_of e) p ≡ None → ⊥

-- each commit record writes
abbrev pub AreWriting : Entries → Type 0
AreWriting own = (p : ℕ) (e : Entry) → Contains own (p, e) → is_commit e ≡ true → (w : WriteOp) × Contains (writes_of e) w
