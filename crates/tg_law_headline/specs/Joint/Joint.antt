-- What is left of each step of a run of the store follows from the ends of walks from which the log's checkpoints and marks come.
use Rattle.std.specs.Prelude.{◌≡◌, ℕ, Bool, true, Some, Contains, List}
use Rattle.tg_base.specs.Clusters.{Header}
use Rattle.tg_base.specs.declared.ids.Oid.{Oid}
use Rattle.tg_base.specs.declared.marks.Part.{Part}
use Rattle.tg_entry.specs.Needs.{writes_of}
use Rattle.tg_entry.specs.declared.entry.Body.TheVariants.{Checkpoint}
use Rattle.tg_entry.specs.declared.entry.Entry.{Entry}
use Rattle.tg_entry.specs.declared.entry.WriteOp.{WriteOp}
use Rattle.tg_kind.specs.Meaning.{Meaning}
use Rattle.tg_protocol.specs.Alike.{HasEntry}
use Rattle.tg_protocol.specs.Holding.{EntriesOwn}
use Rattle.tg_protocol.specs.Words.{directory}
use Rattle.tg_protocol.specs.Worlds.{World}
use Rattle.tg_protocol.specs.Runs.{Moves, Reaches}
use Rattle.tg_dir.specs.Spellings.{is_number}
use Rattle.tg_any.specs.AllKinds.{all_kinds}
use Rattle.tg_law_replies.specs.History.Floors.{IsDirectory}
use Rattle.tg_law_replies.specs.Replies.Runs.{InEachStep}
use Rattle.tg_law_walks.specs.Lists.Spared.{TrimsWereSpare, ByRunsOfSpareTrims}
use Rattle.tg_law_headline.specs.Trims.Spare.{WereSpare}
use Rattle.tg_law_headline.specs.Trims.Floors.{RestsOn, StepRests}
use Rattle.tg_law_headline.specs.Trimming.Decided.{MetSettled}
use Rattle.tg_law_headline.specs.Store.Steps.{StepsHold}
use Rattle.tg_law_headline.specs.Origins.Origins.{CheckpointFrom, MarkFrom}

-- What is to be known of every run in which trims were spare: each checkpoint, and each mark, of the log came from an end of walks.
pub record JointRests (m : Meaning) (is_object : Oid → Bool) : Type 0 where
  pub checkpoints : ByRunsOfSpareTrims m (λ h ms w. (pos : ℕ) (e : Entry) (o : Oid) (upto version whole : ℕ) (keys : List (Part × ℕ)) (state : List ℕ) →
      HasEntry m w pos e → e.body ≡ Checkpoint o upto version whole keys state → CheckpointFrom m h ms w pos e o upto)
  pub marks : ByRunsOfSpareTrims m (λ h ms w. (pos : ℕ) (e : Entry) (x : WriteOp) (o : Oid) (mark : ℕ) → is_object o ≡ true → HasEntry m w pos e → Contains (writes_of e) x → x.oid ≡ directory →
      m.read directory x.op ≡ Some (m.mark_op o mark) → MarkFrom m h ms w pos e o mark)

module _ (m : Meaning) where
  -- each entry of each log is what its client began
  abbrev pub EachOwns : Type 0
  EachOwns = (h : Header) (ms : Moves m) (w : World m) → Reaches m h ms w → EntriesOwn m h ms w

  -- Then each mark of the log rests on a checkpoint, as floors are to rest.
  abbrev pub MarksRestWhere : Type 0
  MarksRestWhere = (is_object : Oid → Bool) → JointRests m is_object → EachOwns → ByRunsOfSpareTrims m (λ h ms w. (pos : ℕ) (e : Entry) (x : WriteOp) (o : Oid) (mark : ℕ) → is_object o ≡ true → HasEntry m w pos e →
      Contains (writes_of e) x → x.oid ≡ directory → m.read directory x.op ≡ Some (m.mark_op o mark) → RestsOn m w o mark pos)

  -- And what a walk met a trim above was decided and settled before, where all steps of the run rest.
  abbrev pub MetSettledWhere : Type 0
  MetSettledWhere = (is_object : Oid → Bool) (is_op : m.op → Bool) → IsDirectory m is_object is_op → JointRests m is_object → EachOwns → (h : Header) (ms : Moves m) (w : World m) → Reaches m h ms w → TrimsWereSpare m h ms →
      InEachStep m h ms (λ before u e. WereSpare m h before → StepRests m is_object is_op h.objects u e) → MetSettled m h ms w

-- So, of each step of a run of the store before which trims were spare, the log's floors rest on checkpoints, and what kept views
-- have gone past has a fate, or is decided.
abbrev pub StepsHoldWhere : Type 0
StepsHoldWhere = JointRests all_kinds is_number → (h : Header) (ms : Moves all_kinds) (w : World all_kinds) → Reaches all_kinds h ms w → StepsHold h ms

-- They do, of every run of the store.
abbrev pub EachStepHolds : Type 0
EachStepHolds = (h : Header) (ms : Moves all_kinds) (w : World all_kinds) → Reaches all_kinds h ms w → StepsHold h ms
