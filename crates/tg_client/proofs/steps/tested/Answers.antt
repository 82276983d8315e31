use Rattle.std.proofs.Common.{None, sym, ◌∙◌}
use Rattle.tg_model.specs.declared.trace.What.TheVariants as what
use Rattle.tg_play.proofs.Means.{means}
use Rattle.tg_client_state.specs.States.{client_of}
use Rattle.tg_client_tasks.specs.Idle.{idle}
use Rattle.tg_client.proofs.Testing.{fine, refused_told, taken_told}
use Rattle.tg_client_tasks.proofs.Stepping.{moved_as}
use Rattle.tg_client.proofs.steps.tested.Goals as goal

pub accepts-requires-clause-fine : goal.accepts-requires-clause-fine
accepts-requires-clause-fine g c = fine (means g.K.Kind g.K.Registry) (idle (means g.K.Kind g.K.Registry) c.args.state None 0) c.args.command (sym (c.in_ok-why.ensures (record { view = None; played = 0; work = None })) ∙ c.in-None.is)

pub accepts-requires-clause-numbers : goal.accepts-requires-clause-numbers
accepts-requires-clause-numbers g c = c.requires.next

pub accepts-requires-clause-count : goal.accepts-requires-clause-count
accepts-requires-clause-count g c = c.requires.begun

pub returns-in-Some : goal.returns-in-Some
returns-in-Some g c = λ v n h.
    moved_as (means g.K.Kind g.K.Registry) c.refuses.result c.args.state.rids.next _ _ (refused_told (means g.K.Kind g.K.Registry) (idle (means g.K.Kind g.K.Registry) c.args.state v n) c.args.command c.in-Some.why (sym (c.in_ok-why.ensures (record { view = v; played = n; work = None })) ∙ c.in-Some.is)) (c.refuses.ensures v n h)

pub returns-in-None : goal.returns-in-None
returns-in-None g c = λ v n h.
    moved_as (means g.K.Kind g.K.Registry) c.accepts.result c.args.state.rids.next _ _ (taken_told (means g.K.Kind g.K.Registry) (idle (means g.K.Kind g.K.Registry) c.args.state v n) c.args.command (sym (c.in_ok-why.ensures (record { view = v; played = n; work = None })) ∙ c.in-None.is)) (c.accepts.ensures v n h)
