-- A recording of a run: the moves that were made, and the step that each of them was.
use Rattle.std.specs.Prelude.{◌≡◌, ℕ, suc, ◌+◌, List, [], ◌∷◌, length, option_map, IfSome}
use Rattle.tg_model.specs.Kinds.{EventOf}
use Rattle.tg_model.specs.declared.command.Event.TheVariants.{Command as Commands, Deliver, Lose, Tick, Stop}
use Rattle.tg_picture.specs.declared.steps.Happening.{Happening}
use Rattle.tg_picture.specs.declared.steps.Happening.TheVariants.{Given, Came, Lost, Ticked, Stopped}
use Rattle.tg_picture.specs.declared.steps.Step.{Step}
use Rattle.tg_protocol.specs.Runs as runs
use Rattle.tg_protocol.specs.Runs.{Next, Takes, run as along}
use Rattle.tg_protocol.specs.Worlds.{start, happens, next_event, trace}
use Rattle.tg_world.specs.Kept.{KeepsWorld}
use Rattle.tg_any.specs.AllKinds.{all_kinds}
use Rattle.tg_replay.specs.Runs.{Worlds, Runs}
use Rattle.tg_replay.specs.declared.stages.Finish.{Finish}
use Rattle.tg_replay.specs.declared.stages.Fed.{Fed as RunFed}
use Rattle.tg_replay.specs.declared.stages.Fed.TheVariants as fed
use Rattle.space_time.specs.declared.recording.Recording.{Recording}
use Rattle.space_time.specs.declared.recording.Recorded.{Recorded}
use Rattle.space_time.specs.declared.reading.Fed.{Fed}
use Rattle.space_time.specs.declared.reading.Fed.TheVariants.{Goes, Stops}
use Rattle.space_time.specs.declared.going.Went.{Went}

-- a step of the world is an event; between steps the event lines are counted
abbrev pub Moves : Type 0
Moves = runs.Moves all_kinds

-- what happens in an event
abbrev pub happening_of : EventOf all_kinds → Happening
happening_of (Commands client command) = Given client
happening_of (Deliver packet) = Came packet
happening_of (Lose packet) = Lost packet
happening_of (Tick node) = Ticked node
happening_of (Stop node) = Stopped node

-- a step of an event line, by its event and the world that it makes: how many packets were sent, and how many replies told
abbrev pub step_of : ℕ → EventOf all_kinds → Worlds → Step
step_of line e w = record { line = line; happening = happening_of e; sent = length w.packets; told = length (trace all_kinds w) }

-- the steps that moves make of a world, one for each event, after so many event lines
unfoldable pub steps_from : ℕ → Moves → Worlds → List Step
steps_from line [] w = []
steps_from line (Next ∷ ms) w = steps_from (suc line) ms (next_event all_kinds w)
steps_from line (Takes e ∷ ms) w = step_of line e (happens all_kinds w e) ∷ steps_from line ms (happens all_kinds w e)

-- how many event lines these moves are of
unfoldable pub lines_of : Moves → ℕ
lines_of [] = 0
lines_of (Next ∷ ms) = suc (lines_of ms)
lines_of (Takes e ∷ ms) = lines_of ms

-- A recording of these moves from the start of a cluster's run: its world is the one that they come to, and its steps are those
-- that they make, in their order.
pub record IsRecorded (r : Recording) : Type 0 where
  pub moves : Moves
  pub world : KeepsWorld all_kinds r.run.world (along all_kinds moves (start all_kinds r.run.cluster))
  pub steps : r.steps ≡ steps_from 0 moves (start all_kinds r.run.cluster)
  pub events : r.run.world.event ≡ lines_of moves

-- the next event line of a recording begins
pub record Begins (r q : Recording) : Type 0 where
  pub recorded : IsRecorded q
  pub world : (w : Worlds) → KeepsWorld all_kinds r.run.world w → KeepsWorld all_kinds q.run.world (next_event all_kinds w)
  pub cluster : q.run.cluster ≡ r.run.cluster
  pub events : q.run.world.event ≡ r.run.world.event + 1

-- a recording goes on by one step
pub record StepsTo (r : Recording) (e : EventOf all_kinds) (q : Recording) : Type 0 where
  pub recorded : IsRecorded q
  pub world : (w : Worlds) → KeepsWorld all_kinds r.run.world w → KeepsWorld all_kinds q.run.world (happens all_kinds w e)
  pub cluster : q.run.cluster ≡ r.run.cluster
  pub events : q.run.world.event ≡ r.run.world.event

-- a recording goes on by the steps that f makes of its world, as far as the limits allow
pub record Makes (r : Recording) (f : Worlds → Runs) (q : Went) : Type 0 where
  pub recorded : IsRecorded q.recording
  pub world : (w : Worlds) → KeepsWorld all_kinds r.run.world w → KeepsWorld all_kinds q.recording.run.world (f w).world
  pub stopped : (w : Worlds) → KeepsWorld all_kinds r.run.world w → q.stopped ≡ (f w).stopped
  pub cluster : q.recording.run.cluster ≡ r.run.cluster
  pub events : q.recording.run.world.event ≡ r.run.world.event

-- What reading has come to, as a replay has it.

abbrev pub finish_in : Recorded → Finish
finish_in r = record { end = r.end; run = option_map (λ (q : Recording). q.run) r.recording }

abbrev pub run_in : Fed → RunFed
run_in (Goes r) = fed.Goes r.run
run_in (Stops r) = fed.Stops (finish_in r)

-- what was recorded, if anything was, is a recording
abbrev pub HasRecord : Recorded → Type 0
HasRecord r = IfSome r.recording IsRecorded

-- a recording that goes on has one event more
abbrev pub CountsOn : ℕ → Fed → Type 0
CountsOn n (Goes r) = r.run.world.event ≡ n + 1
CountsOn n (Stops r) = Unit {0}

abbrev pub GoesOnRecorded : Fed → Type 0
GoesOnRecorded (Goes r) = IsRecorded r
GoesOnRecorded (Stops r) = HasRecord r
