use Rattle.std.proofs.Common.{Some, None}
use Rattle.tg_play.proofs.Means.{means}
use Rattle.tg_client_state.specs.States.{client_of}
use Rattle.tg_client_answers.proofs.TellingTx.{moves_same, end_found}
use Rattle.tg_client_answers.proofs.end.ends.Goals as goal

pub returns-in-None : goal.returns-in-None
returns-in-None g c = λ r w v old hv hn hk hj.
    moves_same (means g.K.Kind g.K.Registry) c.unsure.result old _ _ (end_found (means g.K.Kind g.K.Registry) (client_of (means g.K.Kind g.K.Registry) c.args.state r) w c.args.entries.now v c.args.at None c.in-None.ensures) (c.unsure.ensures r old hk)

pub returns-in-Some : goal.returns-in-Some
returns-in-Some g c = λ r w v old hv hn hk hj.
    moves_same (means g.K.Kind g.K.Registry) c.judged.result old _ _ (end_found (means g.K.Kind g.K.Registry) (client_of (means g.K.Kind g.K.Registry) c.args.state r) w c.args.entries.now v c.args.at (Some c.in-Some.entry.now) c.in-Some.ensures) (c.judged.ensures r w v old hv hn hk hj)
