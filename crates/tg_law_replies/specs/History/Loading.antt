-- States of objects that load again from what is saved of them.
use Rattle.std.specs.Prelude.{◌≡◌, ℕ, true, Bool, List, Some, Contains}
use Rattle.tg_base.specs.declared.ids.Oid.{Oid}
use Rattle.tg_entry.specs.declared.entry.WriteOp.{WriteOp}
use Rattle.tg_entry.specs.declared.entry.Entry.{Entry}
use Rattle.tg_kind.specs.Meaning.{Meaning}
use Rattle.tg_entry.specs.Needs.{writes_of}
use Rattle.tg_protocol.specs.Views.{Entries}
use Rattle.tg_law_replies.specs.Plays.Sound.{IsRising}
use Rattle.tg_law_replies.specs.History.Logs.{state_below}

-- states of objects, which ops keep, and which load again from what is saved of them
pub record AreStates (m : Meaning) (is_state : Oid → m.state → Bool) (is_op : m.op → Bool) : Type 0 where
  pub applies : (o : Oid) (s : m.state) (op : m.op) → is_state o s ≡ true → is_op op ≡ true → is_state o (m.apply s op) ≡ true
  pub loads : (o : Oid) (s : m.state) → is_state o s ≡ true → m.load o (m.save s) ≡ Some s

-- what is read of the writes of a log is an op
abbrev pub AreOpsOf : (m : Meaning) → (m.op → Bool) → Entries → Type 0
AreOpsOf m is_op es = (p : ℕ) (e : Entry) (w : WriteOp) (op : m.op) → Contains es (p, e) → Contains (writes_of e) w → m.read w.oid w.op ≡ Some op → is_op op ≡ true

-- the state of an object that begins with one loads again from what is saved of it
abbrev pub StatesLoad : Meaning → Type 0
StatesLoad m = (is_state : Oid → m.state → Bool) (is_op : m.op → Bool) (objects : List Oid) (es : Entries) (o : Oid) (n : ℕ) → AreStates m is_state is_op → IsRising es → AreOpsOf m is_op es →
    is_state o (m.fresh o objects) ≡ true → m.load o (m.save (state_below m objects es n o)) ≡ Some (state_below m objects es n o)
