use Rattle.std.proofs.Common.{◌∙◌}
use Rattle.tg_play.proofs.Means.{means}
use Rattle.tg_client_state.specs.States.{client_of}
use Rattle.tg_client_answers.proofs.TellingTx.{moves_same, ended_at, unsure_at}
use Rattle.tg_client_state.proofs.Boxed.{job_read}
use Rattle.tg_client_answers.proofs.end.on_end.Goals as goal

pub returns-in-Played : goal.returns-in-Played
returns-in-Played g c = λ r w v old hv hn hk hj.
    moves_same (means g.K.Kind g.K.Registry) c.ends.result old _ _ (ended_at (means g.K.Kind g.K.Registry) (client_of (means g.K.Kind g.K.Registry) c.args.state r) w c.args.entries.now v c.args.came c.deref.result.now c.in-Played.upto (job_read (means g.K.Kind g.K.Registry) c.deref.result.now c.args.job w (c.deref.ensures ∙ c.job.view_is) hj) c.in-Played.is) (c.ends.ensures r w v old hv hn hk hj)

pub returns-in-Blocked : goal.returns-in-Blocked
returns-in-Blocked g c = λ r w v old hv hn hk hj.
    moves_same (means g.K.Kind g.K.Registry) c.unsure.result old _ _ (unsure_at (means g.K.Kind g.K.Registry) (client_of (means g.K.Kind g.K.Registry) c.args.state r) w c.args.entries.now v c.args.came c.deref.result.now c.in-Blocked.pos c.in-Blocked.missing (job_read (means g.K.Kind g.K.Registry) c.deref.result.now c.args.job w (c.deref.ensures ∙ c.job.view_is) hj) c.in-Blocked.is) (c.unsure.ensures r old hk)
