-- What is kept of a client, in the words of the rules.
use Rattle.std.specs.Prelude.{◌≡◌, ℕ, Bool, true, ◌&&◌, nat_lt, List, ◌++◌, Option, Some, None}
use Rattle.std.specs.List.{list_all}
use Rattle.tg_base.specs.Layouts.{Layout}
use Rattle.tg_base.specs.declared.packet.Out.{Out}
use Rattle.tg_kind.specs.Meaning.{Meaning}
use Rattle.tg_protocol.specs.Requests.{drawn_from}
use Rattle.tg_protocol.specs.Views.{View, state_of}
use Rattle.tg_protocol.specs.Words.{directory}
use Rattle.tg_protocol.specs.Clients as told
use Rattle.tg_protocol.specs.ClientSteps.{asks_latest, client_asks, task_asks, task_awaited}
use Rattle.tg_protocol.specs.Answers.{Moved as ToldMoved}
use Rattle.tg_protocol.specs.Walking.{Walk}
use Rattle.tg_play.specs.Kept.{Kept}
use Rattle.tg_play.specs.Relations.{KeepsView}
use Rattle.tg_client_cells.specs.Known.{Knowledge}
use Rattle.tg_client_cells.specs.Walks.{OverSettled, FindsDown}
use Rattle.tg_client_state.specs.Numbers.{all_from}
use Rattle.tg_client_state.specs.Tasks.{TaskOf, WorkOf, told_task, KeepsMaybe, IsFit, IsPausedFit}
use Rattle.tg_client_state.specs.declared.state.StateParts.{StateParts as State}
use Rattle.tg_client_state.specs.declared.moved.Moved.{Moved}
use Rattle.tg_client_state.specs.declared.begin.Begun.{Begun}

module _ (m : Meaning) where
  abbrev pub StateOf : Type 0
  StateOf = State m.state m.op m.ask m.answer

  abbrev pub MovedOf : Type 0
  MovedOf = Moved m.state m.op m.ask m.answer

  -- what the rules have of a client beside what is kept: its view, the command in hand, and how far the directory was played
  pub record Rest : Type 0 where
    pub view : Option (View m)
    pub played : ℕ
    pub work : Option (told.Work m)

  -- a client of the rules
  abbrev pub client_of : StateOf → Rest → told.Client m
  client_of s r = record {
    num = s.num;
    layouts = s.layouts;
    objects = s.objects;
    calls = s.calls;
    next = s.rids.next;
    stand = s.stand;
    cells = s.known.cells;
    hosted = s.hosted;
    view = r.view;
    own = s.known.own;
    dir = s.dir;
    played = r.played;
    tx = s.tx;
    begun = s.begun;
    decisions = s.decisions;
    checkpoints = s.checkpoints;
    work = r.work;
  }

  abbrev pub rest_of : told.Client m → Rest
  rest_of c = record { view = c.view; played = c.played; work = c.work }

  abbrev pub KeepsViewIf : Option (Kept m.state) → Option (View m) → Type 0
  KeepsViewIf None None = Unit {0}
  KeepsViewIf (Some k) (Some v) = KeepsView m k v
  KeepsViewIf _ _ = ⊥

  -- the directory as a view has it
  abbrev pub directory_in : Option (View m) → Option m.state
  directory_in None = None
  directory_in (Some v) = state_of m v directory

  -- Numbers of requests.

  abbrev pub all_below : ℕ → List Out → Bool
  all_below next outs = list_all (λ o. nat_lt o.rid next) outs

  -- each number of a hand's requests was drawn
  abbrev pub are_drawn : ℕ → Layout → told.Hand m → Bool
  are_drawn next p (told.Doing t) = all_below next (task_awaited m p t)
  are_drawn next p (told.Learning ws t) = all_below next (asks_latest m ws) && all_below next (task_awaited m p t)

  abbrev pub AreDrawn : ℕ → Layout → Option (told.Work m) → Type 0
  AreDrawn next p None = Unit {0}
  AreDrawn next p (Some w) = are_drawn next p w.hand ≡ true

  -- What a machine in hand keeps.

  -- a walk goes over settled cells, and finds members only below those that it has found
  pub record WalksOn (k : Knowledge) (w : Walk) : Type 0 where
    pub settled : OverSettled k.own k.settled w
    pub finds : FindsDown w

  -- and a reconfiguration goes on where the client stands
  abbrev pub IsTaskFit : Knowledge → Layout → told.Task m → Type 0
  IsTaskFit k p (told.Walking w os) = WalksOn k w
  IsTaskFit k p (told.Reconfiguring r) = r.stand ≡ p
  IsTaskFit k p t = IsFit m p t

  abbrev pub IsLeftFit : Knowledge → told.Task m → Type 0
  IsLeftFit k (told.Walking w os) = WalksOn k w
  IsLeftFit k t = IsPausedFit m t

  abbrev pub IsClientFit : Knowledge → Layout → told.Hand m → Type 0
  IsClientFit k p (told.Doing t) = IsTaskFit k p t
  IsClientFit k p (told.Learning ws t) = IsLeftFit k t

  abbrev pub IsFitIf : Knowledge → Layout → Option (told.Work m) → Type 0
  IsFitIf k p None = Unit {0}
  IsFitIf k p (Some w) = IsClientFit k p w.hand

  -- a task that has begun in this layout, where this was the next request number: all that it awaits was drawn in its beginning
  pub record IsBegun (k : Knowledge) (p : Layout) (old : ℕ) (b : Begun (TaskOf m)) : Type 0 where
    pub sends : b.sends ≡ drawn_from old (task_asks m p (told_task m b.machine))
    pub fresh : all_from old (task_asks m p (told_task m b.machine)) ≡ true
    pub drawn : all_below b.rids.next (task_awaited m p (told_task m b.machine)) ≡ true
    pub fit : IsTaskFit k p (told_task m b.machine)

  -- a client of the rules is kept so, with this command in hand
  pub record KeepsClient (s : StateOf) (w : Option (WorkOf m)) (c : told.Client m) : Type 0 where
    pub is : c ≡ client_of s (rest_of c)
    pub view : KeepsViewIf s.view c.view
    pub work : KeepsMaybe m w c.work
    pub drawn : AreDrawn c.next c.stand c.work
    pub fit : IsFitIf s.known c.stand c.work

  -- what a step made of a client whose next request number was this one
  pub record KeepsMoved (old : ℕ) (r : MovedOf) (x : ToldMoved m) : Type 0 where
    pub now : KeepsClient r.state r.work x.now
    pub sends : r.sends ≡ x.besides ++ drawn_from old (client_asks m x.now)
    pub notes : r.notes ≡ x.notes
