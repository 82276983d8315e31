use Rattle.std.proofs.Common.{ap, ◌∙◌}
use Rattle.tg_play.proofs.Means.{means}
use Rattle.tg_client_state.specs.States.{client_of}
use Rattle.tg_protocol.specs.Answers.{on_ask_at}
use Rattle.tg_client_answers.proofs.Telling.{moves_same, walked_as, own_walked}
use Rattle.tg_client_state.proofs.Boxed.{job_read}
use Rattle.tg_client_answers.proofs.following.walked.Goals as goal

pub returns-in_ok-ask-in-AskAt : goal.returns-in_ok-ask-in-AskAt
returns-in_ok-ask-in-AskAt g c = λ r w old hn hk hj.
    moves_same (means g.K.Kind g.K.Registry) c.on_ask_at.result old _ _ (ap (λ q. on_ask_at (means g.K.Kind g.K.Registry) (client_of (means g.K.Kind g.K.Registry) c.args.state r) w c.in-AskAt.at c.in-AskAt.oid q) c.in_ok-ask-in-AskAt.ensures ∙ walked_as (means g.K.Kind g.K.Registry) (client_of (means g.K.Kind g.K.Registry) c.args.state r) w c.deref.result.now _ (job_read (means g.K.Kind g.K.Registry) c.deref.result.now c.args.job w (c.deref.ensures ∙ c.job.view_is) hj) c.in-AskAt.is) (c.on_ask_at.ensures r w old hk hj)

pub returns-in-Rescue : goal.returns-in-Rescue
returns-in-Rescue g c = λ r w old hn hk hj. moves_same (means g.K.Kind g.K.Registry) c.on_rescue.result old _ _ (walked_as (means g.K.Kind g.K.Registry) (client_of (means g.K.Kind g.K.Registry) c.args.state r) w c.deref.result.now _ (job_read (means g.K.Kind g.K.Registry) c.deref.result.now c.args.job w (c.deref.ensures ∙ c.job.view_is) hj) c.in-Rescue.is) (c.on_rescue.ensures r w old hn hk hj)

pub returns-in_default : goal.returns-in_default
returns-in_default g c = λ r w old hn hk hj. moves_same (means g.K.Kind g.K.Registry) c.plays.result old _ _ (own_walked (means g.K.Kind g.K.Registry) (client_of (means g.K.Kind g.K.Registry) c.args.state r) w c.deref.result.now (job_read (means g.K.Kind g.K.Registry) c.deref.result.now c.args.job w (c.deref.ensures ∙ c.job.view_is) hj) c.in_default.not-AskAt c.in_default.not-Rescue) (c.plays.ensures r w old hn hk hj)
