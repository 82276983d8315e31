use Rattle.std.proofs.Common.{◌∙◌}
use Rattle.tg_play.proofs.Means.{means}
use Rattle.tg_play.specs.Relations.{told_verdict}
use Rattle.tg_client_state.specs.States.{client_of}
use Rattle.tg_client_answers.specs.Fates.{decision_told}
use Rattle.tg_client_answers.proofs.TellingTx.{moves_same, kept_view, decide_judged}
use Rattle.tg_client_state.proofs.Boxed.{view_read}
use Rattle.tg_client_answers.proofs.decide.judged.Goals as goal

pub returns : goal.returns
returns g c = λ r w v old hv hn hk hj.
    moves_same (means g.K.Kind g.K.Registry) c.tells.result old _ _
    (decide_judged (means g.K.Kind g.K.Registry) (client_of (means g.K.Kind g.K.Registry) c.args.state r) w c.args.entries.now c.args.at c.args.entry.now (told_verdict c.outcome.result) _ (decision_told (means g.K.Kind g.K.Registry) (client_of (means g.K.Kind g.K.Registry) c.args.state r) w c.args.entries.now c.args.at c.args.entry.now c.decision-answer.result)
    (c.decision-answer.ensures (client_of (means g.K.Kind g.K.Registry) c.args.state r) w c.args.entries.now c.args.entry.now) (c.outcome.ensures v (kept_view (means g.K.Kind g.K.Registry) c.deref.result.now.view c.in-Some.view r.view v c.in-Some.is hv (view_read (means g.K.Kind g.K.Registry) c.deref.result.now c.args.state r.view (c.deref.ensures ∙ c.state.view_is) hk))))
    (c.tells.ensures r w v old hv hn hk hj)
