use Rattle.std.proofs.Common.{sym, subst}
use Rattle.std.specs.Prelude.{IfOk}
use Rattle.tg_model.specs.Kinds.{CommandOf}
use Rattle.tg_protocol.specs.ClientSteps.{accepts}
use Rattle.tg_client_state.specs.States.{KeepsMoved}
use Rattle.tg_play.proofs.Means.{means}
use Rattle.tg_client_tasks.specs.Idle.{idle}
use Rattle.tg_client_tasks.specs.Tests.{taken, IsFine}
use Rattle.tg_client_tasks.proofs.accepting.accepts.Goals as goal

pub changes-requires-clause-allowed : goal.changes-requires-clause-allowed
changes-requires-clause-allowed g c = subst (λ (x : CommandOf (means g.K.Kind g.K.Registry)). IsFine (means g.K.Kind g.K.Registry) c.args.state.stand x) c.in-Reconf.is c.requires.fine

pub returns-in-Host : goal.returns-in-Host
unfolding accepts
returns-in-Host g c = λ v n h.
    subst (λ (x : CommandOf (means g.K.Kind g.K.Registry)). IfOk c.hosts.result (λ y. KeepsMoved (means g.K.Kind g.K.Registry) c.args.state.rids.next y (taken (means g.K.Kind g.K.Registry) (idle (means g.K.Kind g.K.Registry) c.args.state v n) x))) (sym c.in-Host.is)
    (c.hosts.ensures v n h)

pub returns-in-Begin : goal.returns-in-Begin
unfolding accepts
returns-in-Begin g c = λ v n h.
    subst (λ (x : CommandOf (means g.K.Kind g.K.Registry)). IfOk c.begins.result (λ y. KeepsMoved (means g.K.Kind g.K.Registry) c.args.state.rids.next y (taken (means g.K.Kind g.K.Registry) (idle (means g.K.Kind g.K.Registry) c.args.state v n) x))) (sym c.in-Begin.is)
    (c.begins.ensures v n h)

pub returns-in-Put : goal.returns-in-Put
unfolding accepts
returns-in-Put g c = λ v n h.
    subst (λ (x : CommandOf (means g.K.Kind g.K.Registry)). IfOk c.puts.result (λ y. KeepsMoved (means g.K.Kind g.K.Registry) c.args.state.rids.next y (taken (means g.K.Kind g.K.Registry) (idle (means g.K.Kind g.K.Registry) c.args.state v n) x))) (sym c.in-Put.is)
    (c.puts.ensures v n h)

pub returns-in-Ask : goal.returns-in-Ask
unfolding accepts
returns-in-Ask g c = λ v n h.
    subst (λ (x : CommandOf (means g.K.Kind g.K.Registry)). IfOk c.asks.result (λ y. KeepsMoved (means g.K.Kind g.K.Registry) c.args.state.rids.next y (taken (means g.K.Kind g.K.Registry) (idle (means g.K.Kind g.K.Registry) c.args.state v n) x))) (sym c.in-Ask.is)
    (c.asks.ensures v n h)

pub returns-in-End : goal.returns-in-End
unfolding accepts
returns-in-End g c = λ v n h.
    subst (λ (x : CommandOf (means g.K.Kind g.K.Registry)). IfOk c.ends.result (λ y. KeepsMoved (means g.K.Kind g.K.Registry) c.args.state.rids.next y (taken (means g.K.Kind g.K.Registry) (idle (means g.K.Kind g.K.Registry) c.args.state v n) x))) (sym c.in-End.is)
    (c.ends.ensures v n h)

pub returns-in-Drop : goal.returns-in-Drop
unfolding accepts
returns-in-Drop g c = λ v n h.
    subst (λ (x : CommandOf (means g.K.Kind g.K.Registry)). IfOk c.drops.result (λ y. KeepsMoved (means g.K.Kind g.K.Registry) c.args.state.rids.next y (taken (means g.K.Kind g.K.Registry) (idle (means g.K.Kind g.K.Registry) c.args.state v n) x))) (sym c.in-Drop.is)
    (c.drops.ensures v n h)

pub returns-in-Fate : goal.returns-in-Fate
unfolding accepts
returns-in-Fate g c = λ v n h.
    subst (λ (x : CommandOf (means g.K.Kind g.K.Registry)). IfOk c.works_on.result (λ y. KeepsMoved (means g.K.Kind g.K.Registry) c.args.state.rids.next y (taken (means g.K.Kind g.K.Registry) (idle (means g.K.Kind g.K.Registry) c.args.state v n) x))) (sym c.in-Fate.is)
    (c.works_on.ensures v n h)

pub returns-in-Decide : goal.returns-in-Decide
unfolding accepts
returns-in-Decide g c = λ v n h.
    subst (λ (x : CommandOf (means g.K.Kind g.K.Registry)). IfOk c.works_on-in-Decide.result (λ y. KeepsMoved (means g.K.Kind g.K.Registry) c.args.state.rids.next y (taken (means g.K.Kind g.K.Registry) (idle (means g.K.Kind g.K.Registry) c.args.state v n) x))) (sym c.in-Decide.is)
    (c.works_on-in-Decide.ensures v n h)

pub returns-in-Checkpoint : goal.returns-in-Checkpoint
unfolding accepts
returns-in-Checkpoint g c = λ v n h.
    subst (λ (x : CommandOf (means g.K.Kind g.K.Registry)). IfOk c.works_on-in-Checkpoint.result (λ y. KeepsMoved (means g.K.Kind g.K.Registry) c.args.state.rids.next y (taken (means g.K.Kind g.K.Registry) (idle (means g.K.Kind g.K.Registry) c.args.state v n) x))) (sym c.in-Checkpoint.is)
    (c.works_on-in-Checkpoint.ensures v n h)

pub returns-in-Forget : goal.returns-in-Forget
unfolding accepts
returns-in-Forget g c = λ v n h.
    subst (λ (x : CommandOf (means g.K.Kind g.K.Registry)). IfOk c.works_on-in-Forget.result (λ y. KeepsMoved (means g.K.Kind g.K.Registry) c.args.state.rids.next y (taken (means g.K.Kind g.K.Registry) (idle (means g.K.Kind g.K.Registry) c.args.state v n) x))) (sym c.in-Forget.is)
    (c.works_on-in-Forget.ensures v n h)

pub returns-in-Trim : goal.returns-in-Trim
unfolding accepts
returns-in-Trim g c = λ v n h.
    subst (λ (x : CommandOf (means g.K.Kind g.K.Registry)). IfOk c.works_on-in-Trim.result (λ y. KeepsMoved (means g.K.Kind g.K.Registry) c.args.state.rids.next y (taken (means g.K.Kind g.K.Registry) (idle (means g.K.Kind g.K.Registry) c.args.state v n) x))) (sym c.in-Trim.is)
    (c.works_on-in-Trim.ensures v n h)

pub returns-in-Reconf : goal.returns-in-Reconf
unfolding accepts
returns-in-Reconf g c = λ v n h.
    subst (λ (x : CommandOf (means g.K.Kind g.K.Registry)). IfOk c.changes.result (λ y. KeepsMoved (means g.K.Kind g.K.Registry) c.args.state.rids.next y (taken (means g.K.Kind g.K.Registry) (idle (means g.K.Kind g.K.Registry) c.args.state v n) x))) (sym c.in-Reconf.is)
    (c.changes.ensures v n h)

pub returns-in-Copy : goal.returns-in-Copy
unfolding accepts
returns-in-Copy g c = λ v n h.
    subst (λ (x : CommandOf (means g.K.Kind g.K.Registry)). IfOk c.brings.result (λ y. KeepsMoved (means g.K.Kind g.K.Registry) c.args.state.rids.next y (taken (means g.K.Kind g.K.Registry) (idle (means g.K.Kind g.K.Registry) c.args.state v n) x))) (sym c.in-Copy.is)
    (c.brings.ensures v n h)

pub returns-in-AskAt : goal.returns-in-AskAt
unfolding accepts
returns-in-AskAt g c = λ v n h.
    subst (λ (x : CommandOf (means g.K.Kind g.K.Registry)). IfOk c.works_on-in-AskAt.result (λ y. KeepsMoved (means g.K.Kind g.K.Registry) c.args.state.rids.next y (taken (means g.K.Kind g.K.Registry) (idle (means g.K.Kind g.K.Registry) c.args.state v n) x))) (sym c.in-AskAt.is)
    (c.works_on-in-AskAt.ensures v n h)

pub returns-in-Rescue : goal.returns-in-Rescue
unfolding accepts
returns-in-Rescue g c = λ v n h.
    subst (λ (x : CommandOf (means g.K.Kind g.K.Registry)). IfOk c.works_on-in-Rescue.result (λ y. KeepsMoved (means g.K.Kind g.K.Registry) c.args.state.rids.next y (taken (means g.K.Kind g.K.Registry) (idle (means g.K.Kind g.K.Registry) c.args.state v n) x))) (sym c.in-Rescue.is)
    (c.works_on-in-Rescue.ensures v n h)
