-- A walk's turn.
use Rattle.std.specs.Prelude.{◌≡◌, ⊤, ℕ, []}
use Rattle.tg_protocol.specs.Walking.{Walk, WalkTurn, walk_asks}
use Rattle.tg_stream.specs.declared.members.Members.{Members as Found}
use Rattle.tg_chain.specs.declared.step.Step.{Step}
use Rattle.tg_chain.specs.declared.step.Next.{Next as Given}
use Rattle.tg_chain.specs.declared.step.Next.TheVariants as given
use Rattle.tg_stream.specs.Turns.{shown, by_walk}
use Rattle.tg_stream.specs.Walks.{Course}
use Rattle.tg_client_cells.specs.Known.{Knowledge, IsSettled}
use Rattle.tg_client_cells.specs.Walks.{InOrder, ThenSettled, ThenInOrder}
use Rattle.tg_client_state.specs.Steps.{Fits}

-- a walk that has ended gives settled cells back, and members that rise
abbrev pub IsStepFit : Knowledge → Given Walk Course Found → Type 0
IsStepFit k (given.Goes w) = ⊤
IsStepFit k (given.Learns s) = ⊤
IsStepFit k (given.Ends e) = IsSettled k.own k.settled e.cells × InOrder e.list

-- a call that shows this turn, from one number to the next, in a step that began with `old`
pub record WalkShown (old : ℕ) (k : Knowledge) (next now : ℕ) (s : Step Walk Course Found) (t : WalkTurn) : Type 0 where
  pub turn : shown s now ≡ by_walk next t
  pub fits : Fits walk_asks old next t
  pub none : t.besides ≡ []
  pub settled : ThenSettled k.own k.settled t.to
  pub order : ThenInOrder t.to
