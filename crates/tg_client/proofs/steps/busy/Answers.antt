use Rattle.std.proofs.Common.{Some, [], ◌∷◌, ap, ◌∙◌}
use Rattle.tg_model.specs.declared.command.Word.{Word}
use Rattle.tg_model.specs.declared.refusal.Refusal.TheVariants as cause
use Rattle.tg_model.specs.declared.trace.What.TheVariants as what
use Rattle.tg_model.specs.Words.{word_of}
use Rattle.tg_protocol.specs.Answers.{moved, note}
use Rattle.tg_protocol.specs.ClientSteps.{given, client_command}
use Rattle.tg_play.proofs.Means.{means}
use Rattle.tg_client_tasks.proofs.Said.{as_was, next_is}
use Rattle.tg_client_tasks.proofs.Stepping.{step_as, busy_told}
use Rattle.tg_client_state.specs.Tasks.{JobOf}
use Rattle.tg_client.proofs.steps.busy.Goals as goal

pub returns : goal.returns
returns g c = λ d x h.
    let told = note (means g.K.Kind g.K.Registry) 0 (what.Refused (cause.Busy (word_of c.args.work.job.command))) ∷ [] in
    step_as (means g.K.Kind g.K.Registry) c.given.result (given (means g.K.Kind g.K.Registry) d (moved (means g.K.Kind g.K.Registry) d told)) (client_command (means g.K.Kind g.K.Registry) d x) (busy_told (means g.K.Kind g.K.Registry) c.args.work d x h.work)
    (c.given.ensures d (moved (means g.K.Kind g.K.Registry) d told) c.args.state.rids.next (next_is (means g.K.Kind g.K.Registry) c.args.state (Some c.args.work) d h)
    (as_was (means g.K.Kind g.K.Registry) c.args.state (Some c.args.work) d c.in_ok-notes.notes told c.new.result c.new.ensures
    (c.in_ok-notes.ensures ∙ ap (λ (k : Word). note (means g.K.Kind g.K.Registry) 0 (what.Refused (cause.Busy k)) ∷ []) (c.word.ensures ∙ ap (λ (j : JobOf (means g.K.Kind g.K.Registry)). word_of j.command) (c.deref.ensures ∙ c.job.view_is))) h))
