use Rattle.std.proofs.Common.{◌∙◌}
use Rattle.tg_play.proofs.Means.{means}
use Rattle.tg_client_state.specs.States.{client_of}
use Rattle.tg_client_answers.proofs.TellingTx.{moves_same, kept_view, same_trims}
use Rattle.tg_client_state.proofs.Boxed.{job_read, view_read}
use Rattle.tg_client_answers.proofs.fate.known.Goals as goal

pub returns : goal.returns
returns g c = λ r w v old hv hn hk hj.
    moves_same (means g.K.Kind g.K.Registry) c.tells.result old _ _ (c.fate-fate.ensures (client_of (means g.K.Kind g.K.Registry) c.args.state r) w v (kept_view (means g.K.Kind g.K.Registry) c.deref.result.now.view c.in-Some.view r.view v c.in-Some.is hv (view_read (means g.K.Kind g.K.Registry) c.deref.result.now c.args.state r.view (c.deref.ensures ∙ c.state.view_is) hk)) (c.as_slice.ensures ∙ same_trims (means g.K.Kind g.K.Registry) c.deref-in-Some.result.now w (job_read (means g.K.Kind g.K.Registry) c.deref-in-Some.result.now c.args.job w (c.deref-in-Some.ensures ∙ c.job.view_is) hj))) (c.tells.ensures r old hk)
