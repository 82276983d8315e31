use Rattle.std.proofs.Common.{subst, ap, ◌∙◌}
use Rattle.std.specs.Prelude.{IfOk}
use Rattle.tg_protocol.specs.Clients.{member_entries}
use Rattle.tg_protocol.specs.Past.{PastTurn}
use Rattle.tg_play.proofs.Means.{means}
use Rattle.tg_past.specs.Answers.{KeepsTurn}
use Rattle.tg_client_state.specs.States.{StateOf, client_of}
use Rattle.tg_client_answers.proofs.TellingPast.{past_told}
use Rattle.tg_client_state.specs.Tasks.{JobOf}
use Rattle.tg_client_answers.proofs.past.turn.Goals as goal

pub returns : goal.returns
returns g c = λ r w hj.
    let m = means g.K.Kind g.K.Registry in
    subst (λ (t : PastTurn m). IfOk c.past_at.result (λ u. KeepsTurn m u t))
    (past_told m c.args.job.now w c.in_ok-entries.entries (member_entries m (client_of m c.args.state.now r) w w.oids) c.as_slice.result.now c.as_slice-2.result.now c.as_slice-3.result.now c.args.state.now.objects c.args.oid c.args.at
    hj (c.in_ok-entries.ensures.entries r w hj)
    (c.as_slice.ensures ∙ ap (λ (j : JobOf m). j.trims) (c.deref.ensures ∙ c.job.view_is))
    (c.as_slice-2.ensures ∙ ap (λ (j : JobOf m). j.oids) (c.deref-2.ensures ∙ c.job.view_is))
    (c.as_slice-3.ensures.objects ∙ ap (λ (s : StateOf m). s.objects) (c.deref-3.ensures ∙ c.state.view_is)))
    c.past_at.ensures
