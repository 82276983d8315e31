use Rattle.std.proofs.Common.{◌≡◌, sym, ap, ◌∙◌, subst}
use Rattle.tg_play.proofs.Means.{means}
use Rattle.tg_protocol.specs.Answers.{play_target}
use Rattle.tg_client_state.specs.Tasks.{JobOf}
use Rattle.tg_client_state.proofs.Boxed.{job_read}
use Rattle.tg_client_answers.proofs.Telling.{plays_told, trims_of, at_of, tail_of}
use Rattle.tg_client_state.specs.States.{StateOf}
use Rattle.tg_client_state.specs.Counts.{HasNumbersLeft}
use Rattle.tg_client_answers.proofs.following.plays.Goals as goal

pub returns : goal.returns
returns g c = λ r w old hn hk hj.
    let m = means g.K.Kind g.K.Registry in
    let asked : c.deref.result.now ≡ c.args.job = c.deref.ensures ∙ c.job.view_is in
    let at : c.deref-2.result.now ≡ c.args.job = c.deref-2.ensures ∙ c.job.view_is in
    let tail : c.deref-3.result.now ≡ c.args.job = c.deref-3.ensures ∙ c.job.view_is in
    let trims : c.deref-4.result.now ≡ c.args.job = c.deref-4.ensures ∙ c.job.view_is in
    plays_told m c.args.state c.in_ok-state.state r w c.args.job c.in_ok-entries.entries c.target_of-target.result c.in_ok-state.came old c.answered.result hn hj
    (c.in_ok-entries.ensures.suffice r w hk hj)
    (c.in_ok-state.ensures.played r w hk (trims_of m c.deref-4.result.now w (job_read m c.deref-4.result.now c.args.job w trims hj) ∙ sym c.as_slice.ensures))
    (c.target_of-target.ensures w (at_of m c.deref-2.result.now w (job_read m c.deref-2.result.now c.args.job w at hj)) (tail_of m c.deref-3.result.now w (job_read m c.deref-3.result.now c.args.job w tail hj))
    ∙ ap (λ (j : JobOf m). play_target m w j.command) asked)
    c.answered.ensures

pub answered-requires-clause-numbers : goal.answered-requires-clause-numbers
answered-requires-clause-numbers g c = subst (λ (s : StateOf (means g.K.Kind g.K.Registry)). HasNumbersLeft (means g.K.Kind g.K.Registry) s) (sym c.in_ok-state.ensures.others) c.requires
