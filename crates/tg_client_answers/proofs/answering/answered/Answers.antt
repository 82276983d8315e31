use Rattle.std.proofs.Common.{ap, ◌∙◌}
use Rattle.tg_play.proofs.Means.{means}
use Rattle.tg_protocol.specs.Answers.{on_ask}
use Rattle.tg_client_state.specs.States.{client_of}
use Rattle.tg_client_answers.proofs.Telling.{moves_same, answered_as, nothing_told, same_tail}
use Rattle.tg_client_state.proofs.Boxed.{job_read}
use Rattle.tg_client_answers.proofs.answering.answered.Goals as goal

pub returns-in_ok-ask-in-Ask : goal.returns-in_ok-ask-in-Ask
returns-in_ok-ask-in-Ask g c = λ r w v old hv hn hk hj.
    moves_same (means g.K.Kind g.K.Registry) c.on_ask.result old _ _
    (ap (λ q. on_ask (means g.K.Kind g.K.Registry) (client_of (means g.K.Kind g.K.Registry) c.args.state r) w c.in-Ask.oid q v c.args.came) c.in_ok-ask-in-Ask.ensures
    ∙ answered_as (means g.K.Kind g.K.Registry) (client_of (means g.K.Kind g.K.Registry) c.args.state r) w c.args.entries.now (record { view = v; came = c.args.came }) c.deref.result.now _ (job_read (means g.K.Kind g.K.Registry) c.deref.result.now c.args.job w (c.deref.ensures ∙ c.job.view_is) hj) c.in-Ask.is)
    (c.on_ask.ensures r w v old hv hk (same_tail (means g.K.Kind g.K.Registry) c.deref-in-Ask.result.now w (job_read (means g.K.Kind g.K.Registry) c.deref-in-Ask.result.now c.args.job w (c.deref-in-Ask.ensures ∙ c.job.view_is) hj)))

pub returns-in-End : goal.returns-in-End
returns-in-End g c = λ r w v old hv hn hk hj.
    moves_same (means g.K.Kind g.K.Registry) c.on_end.result old _ _ (answered_as (means g.K.Kind g.K.Registry) (client_of (means g.K.Kind g.K.Registry) c.args.state r) w c.args.entries.now (record { view = v; came = c.args.came }) c.deref.result.now _ (job_read (means g.K.Kind g.K.Registry) c.deref.result.now c.args.job w (c.deref.ensures ∙ c.job.view_is) hj) c.in-End.is) (c.on_end.ensures r w v old hv hn hk hj)

pub returns-in-Fate : goal.returns-in-Fate
returns-in-Fate g c = λ r w v old hv hn hk hj.
    moves_same (means g.K.Kind g.K.Registry) c.on_fate.result old _ _ (answered_as (means g.K.Kind g.K.Registry) (client_of (means g.K.Kind g.K.Registry) c.args.state r) w c.args.entries.now (record { view = v; came = c.args.came }) c.deref.result.now _ (job_read (means g.K.Kind g.K.Registry) c.deref.result.now c.args.job w (c.deref.ensures ∙ c.job.view_is) hj) c.in-Fate.is) (c.on_fate.ensures r w v old hv hn hk hj)

pub returns-in-Decide : goal.returns-in-Decide
returns-in-Decide g c = λ r w v old hv hn hk hj.
    moves_same (means g.K.Kind g.K.Registry) c.on_decide.result old _ _ (answered_as (means g.K.Kind g.K.Registry) (client_of (means g.K.Kind g.K.Registry) c.args.state r) w c.args.entries.now (record { view = v; came = c.args.came }) c.deref.result.now _ (job_read (means g.K.Kind g.K.Registry) c.deref.result.now c.args.job w (c.deref.ensures ∙ c.job.view_is) hj) c.in-Decide.is) (c.on_decide.ensures r w v old hv hn hk hj)

pub returns-in-Checkpoint : goal.returns-in-Checkpoint
returns-in-Checkpoint g c = λ r w v old hv hn hk hj.
    moves_same (means g.K.Kind g.K.Registry) c.on_checkpoint.result old _ _ (answered_as (means g.K.Kind g.K.Registry) (client_of (means g.K.Kind g.K.Registry) c.args.state r) w c.args.entries.now (record { view = v; came = c.args.came }) c.deref.result.now _ (job_read (means g.K.Kind g.K.Registry) c.deref.result.now c.args.job w (c.deref.ensures ∙ c.job.view_is) hj) c.in-Checkpoint.is) (c.on_checkpoint.ensures r w v old hv hn hk hj)

pub returns-in-Forget : goal.returns-in-Forget
returns-in-Forget g c = λ r w v old hv hn hk hj.
    moves_same (means g.K.Kind g.K.Registry) c.on_forget.result old _ _ (answered_as (means g.K.Kind g.K.Registry) (client_of (means g.K.Kind g.K.Registry) c.args.state r) w c.args.entries.now (record { view = v; came = c.args.came }) c.deref.result.now _ (job_read (means g.K.Kind g.K.Registry) c.deref.result.now c.args.job w (c.deref.ensures ∙ c.job.view_is) hj) c.in-Forget.is) (c.on_forget.ensures r w old hn hk hj)

pub returns-in-Trim : goal.returns-in-Trim
returns-in-Trim g c = λ r w v old hv hn hk hj.
    moves_same (means g.K.Kind g.K.Registry) c.on_trim.result old _ _ (answered_as (means g.K.Kind g.K.Registry) (client_of (means g.K.Kind g.K.Registry) c.args.state r) w c.args.entries.now (record { view = v; came = c.args.came }) c.deref.result.now _ (job_read (means g.K.Kind g.K.Registry) c.deref.result.now c.args.job w (c.deref.ensures ∙ c.job.view_is) hj) c.in-Trim.is) (c.on_trim.ensures r w v old hv hn hk hj)

pub returns-in_default : goal.returns-in_default
returns-in_default g c = λ r w v old hv hn hk hj.
    moves_same (means g.K.Kind g.K.Registry) c.replies.result old _ _
    (nothing_told (means g.K.Kind g.K.Registry) (client_of (means g.K.Kind g.K.Registry) c.args.state r) w c.args.entries.now (record { view = v; came = c.args.came }) c.deref.result.now c.new.result (job_read (means g.K.Kind g.K.Registry) c.deref.result.now c.args.job w (c.deref.ensures ∙ c.job.view_is) hj) c.new.ensures c.in_default.not-Ask c.in_default.not-End c.in_default.not-Fate c.in_default.not-Decide c.in_default.not-Checkpoint c.in_default.not-Forget c.in_default.not-Trim)
    (c.replies.ensures r old hk)

pub on_trim-requires : goal.on_trim-requires
on_trim-requires g c = c.requires.numbers.next
