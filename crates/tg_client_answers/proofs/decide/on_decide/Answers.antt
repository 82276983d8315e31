use Rattle.std.proofs.Common.{ℕ, List, Some, None, ap, ◌∙◌}
use Rattle.tg_base.specs.declared.ids.Oid.{Oid}
use Rattle.tg_play.proofs.Means.{means}
use Rattle.tg_protocol.specs.Answers.{trim_above}
use Rattle.tg_client_state.specs.States.{client_of}
use Rattle.tg_client_answers.proofs.TellingTx.{moves_same, decide_trimmed}
use Rattle.tg_client_state.proofs.Boxed.{job_read}
use Rattle.tg_client_answers.proofs.decide.on_decide.Goals as goal

pub returns-in-None : goal.returns-in-None
returns-in-None g c = λ r w v old hv hn hk hj.
    moves_same (means g.K.Kind g.K.Registry) c.played.result old _ _ (decide_trimmed (means g.K.Kind g.K.Registry) (client_of (means g.K.Kind g.K.Registry) c.args.state r) w c.args.entries.now v c.args.at c.args.came c.deref.result.now None (job_read (means g.K.Kind g.K.Registry) c.deref.result.now c.args.job w (c.deref.ensures ∙ c.job.view_is) hj) (c.in-None.ensures ∙ ap (λ (ts : List (Oid × ℕ)). trim_above (means g.K.Kind g.K.Registry) ts c.args.at) c.as_slice.ensures)) (c.played.ensures r w v old hv hn hk hj)

pub returns-in-Some : goal.returns-in-Some
returns-in-Some g c = λ r w v old hv hn hk hj.
    moves_same (means g.K.Kind g.K.Registry) c.refuses.result old _ _ (decide_trimmed (means g.K.Kind g.K.Registry) (client_of (means g.K.Kind g.K.Registry) c.args.state r) w c.args.entries.now v c.args.at c.args.came c.deref.result.now (Some c.in-Some.below) (job_read (means g.K.Kind g.K.Registry) c.deref.result.now c.args.job w (c.deref.ensures ∙ c.job.view_is) hj) (c.in-Some.ensures ∙ ap (λ (ts : List (Oid × ℕ)). trim_above (means g.K.Kind g.K.Registry) ts c.args.at) c.as_slice.ensures)) (c.refuses.ensures r old hk)
