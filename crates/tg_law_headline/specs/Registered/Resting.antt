-- Trims are spare where clients find what they need of the log, and its marks rest on checkpoints.
use Rattle.std.specs.Prelude.{◌≡◌, ℕ, Bool, true, List, Some, Contains}
use Rattle.tg_base.specs.Clusters.{Header}
use Rattle.tg_base.specs.declared.ids.Oid.{Oid}
use Rattle.tg_entry.specs.Needs.{writes_of}
use Rattle.tg_entry.specs.declared.entry.Entry.{Entry}
use Rattle.tg_entry.specs.declared.entry.WriteOp.{WriteOp}
use Rattle.tg_kind.specs.Meaning.{Meaning}
use Rattle.tg_model.specs.Kinds.{EventOf}
use Rattle.tg_protocol.specs.Words.{directory}
use Rattle.tg_protocol.specs.Worlds.{World}
use Rattle.tg_protocol.specs.Alike.{HasEntry}
use Rattle.tg_protocol.specs.Runs.{Moves, Reaches}
use Rattle.tg_law_replies.specs.History.Logs.{commits}
use Rattle.tg_law_replies.specs.History.Worlds.{entries_in}
use Rattle.tg_law_replies.specs.History.Loading.{AreOpsOf}
use Rattle.tg_law_replies.specs.History.Floors.{IsDirectory}
use Rattle.tg_law_replies.specs.Replies.Ended.{AppendsEnd}
use Rattle.tg_law_replies.specs.Replies.Runs.{InEachStep}
use Rattle.tg_law_headline.specs.Trims.Floors.{RestsOn, FindSoFar}
use Rattle.tg_law_headline.specs.Trims.Spare.{WereSpare, TrimsAre}

module _ (m : Meaning) where
  -- each committed mark of the log rests on a checkpoint, as its floors are to rest (`FloorsRest` of tg_law_headline)
  abbrev pub MarksRestOn : (Oid → Bool) → List Oid → World m → Type 0
  MarksRestOn is_object objects w = (pos : ℕ) (e : Entry) (x : WriteOp) (o : Oid) (mark : ℕ) → is_object o ≡ true → HasEntry m w pos e → commits m objects (entries_in m w) pos e ≡ true →
      Contains (writes_of e) x → x.oid ≡ directory → m.read directory x.op ≡ Some (m.mark_op o mark) → RestsOn m w o mark pos

  -- What is to be known of a step: what is read of the log's writes is an op, clients find what they need of the log at hand, in
  -- this step and in each earlier one, appends that ended stand there, and its marks rest on checkpoints.
  pub record StepFinds (is_object : Oid → Bool) (is_op : m.op → Bool) (h : Header) (before : Moves m) (w : World m) (e : EventOf m) : Type 0 where
    pub ops : AreOpsOf m is_op (entries_in m w)
    pub finds : FindSoFar m h before e w
    pub ends : AppendsEnd m h before w
    pub marks : MarksRestOn is_object h.objects w

  -- So trims are spare in each run over kinds with a directory in each step of which, where trims were spare before, that is known.
  abbrev pub TrimsAreSpareByMarks : Type 0
  TrimsAreSpareByMarks = (is_object : Oid → Bool) (is_op : m.op → Bool) → IsDirectory m is_object is_op → (h : Header) (ms : Moves m) (w : World m) → Reaches m h ms w →
      InEachStep m h ms (λ before u e. WereSpare m h before → StepFinds is_object is_op h before u e) → TrimsAre m h ms w
