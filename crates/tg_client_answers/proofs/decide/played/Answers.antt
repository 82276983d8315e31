use Rattle.std.proofs.Common.{Some, None}
use Rattle.tg_play.proofs.Means.{means}
use Rattle.tg_client_state.specs.States.{client_of}
use Rattle.tg_client_answers.proofs.TellingTx.{moves_same, decide_by}
use Rattle.tg_client_answers.proofs.decide.played.Goals as goal

pub returns-in-None : goal.returns-in-None
returns-in-None g c = λ r w v old hv hn hk hj.
    moves_same (means g.K.Kind g.K.Registry) c.record.result old _ _ (decide_by (means g.K.Kind g.K.Registry) (client_of (means g.K.Kind g.K.Registry) c.args.state r) w c.args.entries.now v c.args.at c.args.came None c.in-None.ensures) (c.record.ensures r w v old hv hn hk hj)

pub returns-in-Some : goal.returns-in-Some
returns-in-Some g c = λ r w v old hv hn hk hj.
    moves_same (means g.K.Kind g.K.Registry) c.refuses.result old _ _ (decide_by (means g.K.Kind g.K.Registry) (client_of (means g.K.Kind g.K.Registry) c.args.state r) w c.args.entries.now v c.args.at c.args.came (Some c.in-Some.why) c.in-Some.ensures) (c.refuses.ensures r old hk)
