-- From which ends of walks the log's checkpoints, marks and decisions come.
use Rattle.std.specs.Prelude.{◌≡◌, ℕ, ◌≤◌, Bool, true, List, Some, None, Contains}
use Rattle.tg_base.specs.Clusters.{Header}
use Rattle.tg_base.specs.Layouts.{Layout}
use Rattle.tg_base.specs.declared.cell.Cell.{Cell}
use Rattle.tg_base.specs.declared.ids.Oid.{Oid}
use Rattle.tg_base.specs.declared.marks.Part.{Part}
use Rattle.tg_entry.specs.Needs.{writes_of}
use Rattle.tg_entry.specs.Records as records
use Rattle.tg_entry.specs.declared.entry.Body.TheVariants.{Decision, Checkpoint}
use Rattle.tg_entry.specs.declared.entry.Entry.{Entry}
use Rattle.tg_entry.specs.declared.entry.WriteOp.{WriteOp}
use Rattle.tg_kind.specs.Meaning.{Meaning}
use Rattle.tg_model.specs.declared.command.Command.TheVariants as cmd
use Rattle.tg_model.specs.Kinds.{CommandOf}
use Rattle.tg_protocol.specs.Words.{directory}
use Rattle.tg_protocol.specs.Checkpoints.{may_forget}
use Rattle.tg_protocol.specs.Clients.{all_entries}
use Rattle.tg_protocol.specs.Walked.{Walked}
use Rattle.tg_protocol.specs.Worlds.{World}
use Rattle.tg_protocol.specs.Runs.{Moves, Reaches}
use Rattle.tg_protocol.specs.Chosen.{IsDecided}
use Rattle.tg_protocol.specs.Alike.{HasEntry}
use Rattle.tg_law_cells.specs.Cells.Settled.{IsSettled}
use Rattle.tg_law_cells.specs.Entries.Archive.{TrimsWereSafe}
use Rattle.tg_law_walks.specs.Drafts.Parts.{TouchParts}
use Rattle.tg_law_walks.specs.Lists.Spared.{TrimsWereSpare}
use Rattle.tg_law_headline.specs.AllKinds.Directories.{DirectoryLaws}
use Rattle.tg_law_headline.specs.Leaves.Passed.{Ended}

module _ (m : Meaning) where
  -- A step of the run came to the end of the walks of a client's command.
  pub record WalkedFor (h : Header) (ms : Moves m) (k : ℕ) (x : CommandOf m) : Type 0 where
    pub end : Walked m
    pub came : Ended m h ms k end
    pub command : end.work.command ≡ x

  -- A position lies at or past the start of the layout that is decided for an epoch.
  pub record StartsBelow (w : World m) (epoch pos : ℕ) : Type 0 where
    pub layout : Layout
    pub decided : IsDecided m w epoch layout
    pub low : layout.start ≤ pos

  -- What stands at a position isn't of an earlier epoch than this one: the position lies at or past the start of this epoch's
  -- layout, and its cell is settled in no layout of an earlier one.
  pub record StandsSince (w : World m) (epoch pos : ℕ) : Type 0 where
    pub start : StartsBelow w epoch pos
    pub settled : (c : Cell) (s : IsSettled m w pos c) → epoch ≤ s.layout.epoch

  -- A checkpoint comes from the end of the walks of a command that saves the object, as far as that command's tail.
  pub record CheckpointFrom (h : Header) (ms : Moves m) (w : World m) (pos : ℕ) (e : Entry) (o : Oid) (upto : ℕ) : Type 0 where
    pub walk : WalkedFor h ms e.head.client (cmd.Checkpoint o)
    pub tail : walk.end.work.tail ≡ upto
    pub below : upto ≤ pos
    pub walked : Contains walk.end.work.oids o
    pub hosted : Contains walk.end.client.hosted o
    pub follows : StandsSince w walk.end.client.stand.epoch pos

  -- A mark comes from the end of the walks of a command that forgets, where the entries at hand allowed that, and stands at or past
  -- that command's tail.
  pub record MarkFrom (h : Header) (ms : Moves m) (w : World m) (pos : ℕ) (e : Entry) (o : Oid) (mark : ℕ) : Type 0 where
    pub walk : WalkedFor h ms e.head.client (cmd.Forget o mark)
    pub allowed : may_forget m (all_entries m walk.end.client walk.end.work walk.end.client.hosted) o mark ≡ None
    pub below : walk.end.work.tail ≤ pos
    pub walked : Contains walk.end.work.oids o
    pub hosted : Contains walk.end.client.hosted o
    pub follows : StandsSince w walk.end.client.stand.epoch pos

  -- what a command decides: what stands at the position that it names, or its own record, which stands at this one
  abbrev pub DecidesAt : CommandOf m → ℕ → ℕ → Type 0
  DecidesAt (cmd.Decide p) own pos = p ≡ pos
  DecidesAt (cmd.Rescue p) own pos = p ≡ pos
  DecidesAt cmd.End own pos = own ≡ pos
  DecidesAt x own pos = ⊥

  -- A decision comes from the end of the walks of a command that decides what stands there.
  pub record DecisionFrom (h : Header) (ms : Moves m) (w : World m) (pos : ℕ) (e : Entry) (p : ℕ) : Type 0 where
    pub command : CommandOf m
    pub walk : WalkedFor h ms e.head.client command
    pub decides : DecidesAt command walk.end.work.at p
    pub follows : StandsSince w walk.end.client.stand.epoch pos

  -- So they do in each run in which trims were safe.

  abbrev pub ByRuns : (Header → Moves m → World m → Type 0) → Type 0
  ByRuns P = (h : Header) (ms : Moves m) (w : World m) → Reaches m h ms w → TrimsWereSafe m h ms → P h ms w

  -- in which they were spare too
  abbrev pub BySpareRuns : (Header → Moves m → World m → Type 0) → Type 0
  BySpareRuns P = (h : Header) (ms : Moves m) (w : World m) → Reaches m h ms w → TrimsWereSpare m h ms → P h ms w

  -- checkpoints over kinds whose ops touch parts of the format, where trims were spare too
  abbrev pub CheckpointsFollowWalks : Type 0
  CheckpointsFollowWalks = TouchParts m → (h : Header) (ms : Moves m) (w : World m) → Reaches m h ms w → TrimsWereSpare m h ms → (pos : ℕ) (e : Entry) (o : Oid) (upto version whole : ℕ) (keys : List (Part × ℕ)) (state : List ℕ) →
      HasEntry m w pos e → e.body ≡ Checkpoint o upto version whole keys state → CheckpointFrom h ms w pos e o upto

  -- marks over kinds with a directory that only marks mark, and whose objects have the format's numbers, where trims were spare too
  abbrev pub MarksFollowWalks : Type 0
  MarksFollowWalks = (is_object : Oid → Bool) (is_op : m.op → Bool) → DirectoryLaws m is_object is_op → ((o : Oid) → records.is_object o ≡ true → is_object o ≡ true) →
      BySpareRuns (λ h ms w. (pos : ℕ) (e : Entry) (x : WriteOp) (o : Oid) (mark : ℕ) → is_object o ≡ true → HasEntry m w pos e → Contains (writes_of e) x → x.oid ≡ directory →
      m.read directory x.op ≡ Some (m.mark_op o mark) → MarkFrom h ms w pos e o mark)

  abbrev pub DecisionsFollowWalks : Type 0
  DecisionsFollowWalks = ByRuns (λ h ms w. (pos : ℕ) (e : Entry) (p : ℕ) (is_yes : Bool) → HasEntry m w pos e → e.body ≡ Decision p is_yes → DecisionFrom h ms w pos e p)
