use Rattle.std.proofs.Common.{sym, ap}
use Rattle.tg_play.proofs.Means.{means}
use Rattle.tg_protocol.specs.Answers.{past_answer}
use Rattle.tg_protocol.specs.Views.{state_of}
use Rattle.tg_client_state.specs.States.{client_of}
use Rattle.tg_client_answers.proofs.TellingPast.{moves_same, not_hosted}
use Rattle.tg_client_answers.proofs.past.answered.Goals as goal

pub returns-in-None : goal.returns-in-None
returns-in-None g c = λ r v old hv hk.
    let m = means g.K.Kind g.K.Registry in
    moves_same m c.refuses.result old _ _ (not_hosted m (client_of m c.args.state r) c.args.at c.args.oid c.args.ask (state_of m v c.args.oid) (sym (c.in-None.ensures v hk))) (c.refuses.ensures r old hv)

pub returns-in-Some : goal.returns-in-Some
returns-in-Some g c = λ r v old hv hk.
    let m = means g.K.Kind g.K.Registry in
    moves_same m c.tells.result old _ _ (ap (past_answer m (client_of m c.args.state r) c.args.at c.args.oid c.args.ask) (sym (c.in-Some.ensures v hk))) (c.tells.ensures r old hv)
