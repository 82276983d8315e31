use Rattle.std.proofs.Common.{◌≡◌, ◌∙◌, sym, ap, subst}
use Rattle.std.specs.Prelude.{◌<◌}
use Rattle.tg_model.specs.declared.refusal.Refusal.TheVariants.{Ahead}
use Rattle.tg_play.proofs.Means.{means}
use Rattle.tg_protocol.specs.Answers.{refuses}
use Rattle.tg_protocol.specs.Clients.{member_entries}
use Rattle.tg_protocol.specs.Past.{past_at}
use Rattle.tg_client_state.specs.Tasks.{JobOf}
use Rattle.tg_client_state.specs.States.{client_of}
use Rattle.tg_client_state.proofs.Boxed.{job_read}
use Rattle.tg_client_answers.proofs.TellingPast.{moves_same, is_ahead, is_past}
use Rattle.tg_client_answers.proofs.past.on_ask_at.Goals as goal

pub returns-then-deref-at : goal.returns-then-deref-at
returns-then-deref-at g c = λ r w old hv hj.
    let m = means g.K.Kind g.K.Registry in
    let read : c.deref.result.now ≡ c.args.job = c.deref.ensures ∙ c.job.view_is in
    let again : c.deref-then-deref-at.result.now ≡ c.args.job = c.deref-then-deref-at.ensures ∙ c.job.view_is in
    moves_same m c.refuses.result old _ _
    (is_ahead m (client_of m c.args.state r) c.args.job w c.args.at c.args.oid c.args.ask hj (subst (λ (j : JobOf m). j.tail < c.args.at) read c.if-deref-at.true)
    ∙ ap (λ (j : JobOf m). refuses m (client_of m c.args.state r) 0 (Ahead j.tail)) (sym again))
    (c.refuses.ensures r old hv)

pub returns : goal.returns
returns g c = λ r w old hv hj.
    let m = means g.K.Kind g.K.Registry in
    let read : c.deref.result.now ≡ c.args.job = c.deref.ensures ∙ c.job.view_is in
    moves_same m c.replied.result old _ _ (is_past m (client_of m c.args.state r) c.deref.result.now w c.args.at c.args.oid c.args.ask (job_read m c.deref.result.now c.args.job w read hj) c.if-deref-at.false)
    (c.replied.ensures r (past_at m (member_entries m (client_of m c.args.state r) w w.oids) w.trims w.oids c.args.state.objects c.args.oid c.args.at) old hv (c.in_ok-turn.ensures r w hj))
