-- What reading has found of a text: the lines so far, and how it ended.
use Rattle.std.specs.Prelude.{◌≡◌, ℕ, ◌+◌, ◌++◌, List, [], length, take, Option, Some, None}
use Rattle.tg_base.specs.declared.fault.Which.{Which}
use Rattle.tg_io.specs.declared.status.Status.{Status}
use Rattle.tg_io.specs.declared.status.Status.TheVariants.{Done, Script as AtLine, Limit}
use Rattle.tg_world.specs.Kept.{IsWorld, KeepsWorld}
use Rattle.tg_any.specs.AllKinds.{all_kinds}
use Rattle.tg_replay.specs.declared.stages.End.{End}
use Rattle.tg_replay.specs.declared.stages.End.TheVariants.{Whole, Outside, Limited}
use Rattle.tg_replay.specs.declared.stages.Run.{Run}
use Rattle.tg_replay.specs.declared.stages.Finish.{Finish}
use Rattle.tg_replay.specs.declared.stages.Fed.{Fed}
use Rattle.tg_replay.specs.declared.stages.Fed.TheVariants.{Goes, Stops}
use Rattle.tg_lines.specs.Feeds.{TakesFeeds}
use Rattle.tg_lines.specs.Lines.{lines}
use Rattle.tg_replay.specs.Runs.{Script, IsScript, IsWithin, IsCounted, Tells, FirstOutside, PassesLimit, Outcome, Runs, Worlds, text_lines, world_of, transcript, front}

-- A run that was read: its script, which no other has in these lines.
pub record IsRunOf (read : List (List ℕ)) (r : Run) (s : Script) : Type 0 where
  pub lawful : IsScript s
  pub within : IsWithin s
  pub counted : IsCounted s
  pub lines : read ≡ text_lines s
  pub cluster : r.cluster ≡ s.header
  pub world : KeepsWorld all_kinds r.world (world_of s)
  pub events : r.world.event ≡ length s.events
  pub only : (t : Script) → IsScript t → take (length read) (text_lines t) ≡ read → front (length s.events) t ≡ s

-- The lines of the text that were read are those of a run's script; the rest is still to come.
pub record Reads (text : List ℕ) (r : Run) (rest : List ℕ) : Type 0 where
  pub read : List (List ℕ)
  pub script : Script
  pub run : IsRunOf read r script
  pub cut : lines text ≡ read ++ lines rest
  pub feeds : TakesFeeds (length read) (Some text) (Some rest)

-- the status of a run that ends so
abbrev pub status_of : End → Status
status_of Whole = Done
status_of (Outside line) = AtLine line
status_of (Limited which) = Limit which

-- which script was run of a text that has ended so: all of it, the lines before the first outside, or those up to the one that a limit stops
abbrev pub EndsAt : List ℕ → Status → Script → Type 0
EndsAt text Done s = IsScript s × IsWithin s × Tells text s
EndsAt text (AtLine n) s = FirstOutside text n s
EndsAt text (Limit which) s = PassesLimit text which s
EndsAt text _ s = ⊥

-- how a text has ended: nothing is printed of no run, else the transcript of its world, whatever world of the rules it keeps
abbrev pub Ends : List ℕ → Status → Option Run → Type 0
Ends text status None = Outcome text status []
Ends text status (Some r) = (s : Script) × KeepsWorld all_kinds r.world (world_of s) × (r.cluster ≡ s.header) × Outcome text status (transcript s.header (world_of s))
    × (r.world.event ≡ length s.events) × EndsAt text status s

abbrev pub Finished : List ℕ → Finish → Type 0
Finished text f = Ends text (status_of f.end) f.run

-- What comes of the lines that were read: reading goes on, or it has ended.
abbrev pub Took : List ℕ → List (List ℕ) → Fed → Type 0
Took text read (Goes r) = (s : Script) × IsRunOf read r s
Took text read (Stops finish) = Finished text finish

-- the next event line is outside, after this run
abbrev pub IsOutside : Run → Fed → Type 0
IsOutside r (Stops f) = (f.end ≡ Outside (4 + r.world.event)) × (f.run ≡ Some r)
IsOutside r (Goes q) = ⊥

-- a run after one line more
pub record IsAfter (r : Run) (w : Worlds) (q : Run) : Type 0 where
  pub cluster : q.cluster ≡ r.cluster
  pub world : KeepsWorld all_kinds q.world w
  pub events : q.world.event ≡ r.world.event + 1

-- a limit has stopped a run in the midst of a line
pub record IsStopped (r : Run) (x : Runs) (f : Finish) : Type 0 where
  pub which : Which
  pub over : x.stopped ≡ Some which
  pub end : f.end ≡ Limited which
  pub run : Run
  pub is : f.run ≡ Some run
  pub after : IsAfter r x.world run

-- what a line makes of a run: it goes on, or a limit has stopped it
abbrev pub IsMade : Run → Runs → Fed → Type 0
IsMade r x (Goes q) = (x.stopped ≡ None) × IsAfter r x.world q
IsMade r x (Stops f) = IsStopped r x f

-- the world of a run that goes on is kept of a world of the definitions
abbrev pub GoesOnKept : Fed → Type 0
GoesOnKept (Goes q) = IsWorld all_kinds q.world
GoesOnKept (Stops f) = Unit {0}

-- a run that goes on has one event more
abbrev pub CountsOn : ℕ → Fed → Type 0
CountsOn n (Goes q) = q.world.event ≡ n + 1
CountsOn n (Stops f) = Unit {0}

-- One run was read up to a rest of a text, and goes on to another up to a later rest, as far as the source tells its text.
abbrev pub StillReads : Option (List ℕ) → Option (List ℕ) → Run → Run → Type 0
StillReads (Some before) (Some rest) r q = (text : List ℕ) → Reads text r before → Reads text q rest
StillReads (Some before) None r q = ⊥
StillReads None rest r q = Unit {0}
