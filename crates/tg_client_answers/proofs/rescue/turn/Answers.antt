use Rattle.std.proofs.Common.{subst, ap, ◌∙◌}
use Rattle.std.specs.Prelude.{◌≡◌, IfOk}
use Rattle.tg_protocol.specs.Clients.{all_entries}
use Rattle.tg_protocol.specs.Past.{RescueTurn}
use Rattle.tg_play.proofs.Means.{means}
use Rattle.tg_rescue.specs.Answers.{told_turn}
use Rattle.tg_client_state.specs.States.{StateOf, client_of}
use Rattle.tg_client_answers.proofs.TellingPast.{rescue_told}
use Rattle.tg_client_state.specs.Tasks.{JobOf}
use Rattle.tg_client_answers.proofs.rescue.turn.Goals as goal

pub returns : goal.returns
returns g c = λ r w hj.
    let m = means g.K.Kind g.K.Registry in
    subst (λ (t : RescueTurn m). IfOk c.rescue_turn.result (λ u. told_turn m u ≡ t))
    (rescue_told m c.args.job.now w c.in_ok-entries.entries (all_entries m (client_of m c.args.state.now r) w w.oids) c.as_slice.result.now c.as_slice-2.result.now c.as_slice-3.result.now c.args.state.now.objects c.args.at
    hj (c.in_ok-entries.ensures.entries r w hj)
    (c.as_slice.ensures ∙ ap (λ (j : JobOf m). j.trims) (c.deref-2.ensures ∙ c.job.view_is))
    (c.as_slice-2.ensures ∙ ap (λ (j : JobOf m). j.oids) (c.deref-3.ensures ∙ c.job.view_is))
    (c.as_slice-3.ensures.objects ∙ ap (λ (s : StateOf m). s.objects) (c.deref-4.ensures ∙ c.state.view_is)))
    c.rescue_turn.ensures
