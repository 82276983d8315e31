use Rattle.std.proofs.Common.{true, false, sym, ◌∙◌}
use Rattle.tg_play.proofs.Means.{means}
use Rattle.tg_client_state.specs.States.{client_of}
use Rattle.tg_client_answers.proofs.TellingTx.{moves_same, end_lacks}
use Rattle.tg_client_answers.proofs.end.decided.Goals as goal

pub returns-then-branch : goal.returns-then-branch
returns-then-branch g c = λ r w v old hv hn hk hj.
    moves_same (means g.K.Kind g.K.Registry) c.decides.result old _ _
    (end_lacks (means g.K.Kind g.K.Registry) (client_of (means g.K.Kind g.K.Registry) c.args.state r) w c.args.entries.now c.args.at c.args.entry.now c.args.answer.0 c.args.answer.1 true (sym c.if-branch.true ∙ c.in_ok-needs_decision.ensures))
    (c.decides.ensures r w old hn hk hj)

pub returns : goal.returns
returns g c = λ r w v old hv hn hk hj.
    moves_same (means g.K.Kind g.K.Registry) c.closes.result old _ _
    (end_lacks (means g.K.Kind g.K.Registry) (client_of (means g.K.Kind g.K.Registry) c.args.state r) w c.args.entries.now c.args.at c.args.entry.now c.args.answer.0 c.args.answer.1 false (sym c.if-branch.false ∙ c.in_ok-needs_decision.ensures))
    (c.closes.ensures r old hk)
