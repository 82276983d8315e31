-- A client in a step, while its command waits.
use Rattle.std.specs.Prelude.{◌≡◌, ℕ, ◌≤◌, true, List, ◌++◌, Option}
use Rattle.tg_base.specs.declared.packet.Out.{Out}
use Rattle.tg_kind.specs.Meaning.{Meaning}
use Rattle.tg_protocol.specs.Requests.{drawn_from}
use Rattle.tg_protocol.specs.Clients as told
use Rattle.tg_protocol.specs.ClientSteps.{task_asks, task_awaited}
use Rattle.tg_client_state.specs.Tasks.{JobOf, WorkOf, PausedOf, GoesOn, KeepsJob}
use Rattle.tg_client_state.specs.States.{StateOf, Rest, KeepsViewIf, KeepsClient, all_below, IsTaskFit, IsLeftFit}

module _ (m : Meaning) where
  -- what is kept is kept of a client of the rules
  pub record IsKept (s : StateOf m) (w : Option (WorkOf m)) : Type 0 where
    pub client : told.Client m
    pub keeps : KeepsClient m s w client

  -- a client and its command, by the rules, in a step whose first request number is this one
  pub record Holds (s : StateOf m) (j : JobOf m) (r : Rest m) (w : told.Work m) (old : ℕ) : Type 0 where
    pub since : old ≤ s.rids.next
    pub view : KeepsViewIf m s.view r.view
    pub job : KeepsJob m j w

  -- the machine that goes on: what is sent for it, its numbers, and what it keeps
  pub record Carries (s : StateOf m) (t : told.Task m) (old : ℕ) (besides sends : List Out) : Type 0 where
    pub sent : sends ≡ besides ++ drawn_from old (task_asks m s.stand t)
    pub drawn : all_below m s.rids.next (task_awaited m s.stand t) ≡ true
    pub fit : IsTaskFit m s.known s.stand t

  -- what is left of a machine while a newer layout is learnt
  pub record Leaves (s : StateOf m) (p : PausedOf m) (t : told.Task m) : Type 0 where
    pub goes : GoesOn m p t
    pub drawn : all_below m s.rids.next (task_awaited m s.stand t) ≡ true
    pub fit : IsLeftFit m s.known t
