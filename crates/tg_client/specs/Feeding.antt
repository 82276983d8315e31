-- A machine in hand.
use Rattle.std.specs.Prelude.{◌≡◌, true, Option, Some, None}
use Rattle.tg_base.specs.Layouts.{Layout}
use Rattle.tg_kind.specs.Meaning.{Meaning}
use Rattle.tg_protocol.specs.Clients as told
use Rattle.tg_protocol.specs.ClientSteps.{task_awaited}
use Rattle.tg_protocol.specs.Cells.{CellJob}
use Rattle.tg_protocol.specs.Replies.{Reply, IsLatest}
use Rattle.tg_stream.specs.Walks.{Course, walk_of}
use Rattle.tg_client_cells.specs.Known.{Knowledge}
use Rattle.tg_client_state.specs.States.{StateOf, Rest, WalksOn, all_below, IsTaskFit, IsLeftFit}
use Rattle.tg_client_state.specs.Tasks.{PausedOf, GoesOn}

-- the layout that an answer tells
abbrev pub latest_in : Reply → Option Layout
latest_in (IsLatest q) = Some q
latest_in _ = None

module _ (m : Meaning) where
  -- the command that waits has this machine in hand
  pub record InHand (r : Rest m) (w : told.Work m) (t : told.Task m) : Type 0 where
    pub work : r.work ≡ Some w
    pub hand : w.hand ≡ told.Doing t

  -- its numbers were drawn, and it keeps what its state is to keep
  pub record IsTaskKept (s : StateOf m) (t : told.Task m) : Type 0 where
    pub drawn : all_below m s.rids.next (task_awaited m s.stand t) ≡ true
    pub fit : IsTaskFit m s.known s.stand t

  -- a walk that waits for a newer layout, with some cell to be read
  pub record IsCourseFit (k : Knowledge) (s : Course) : Type 0 where
    pub job : Option CellJob
    pub walks : WalksOn m k (walk_of s job)

  -- likewise of what is left of a machine
  pub record IsLeftKept (s : StateOf m) (p : PausedOf m) : Type 0 where
    pub task : told.Task m
    pub goes : GoesOn m p task
    pub drawn : all_below m s.rids.next (task_awaited m s.stand task) ≡ true
    pub fit : IsLeftFit m s.known task
