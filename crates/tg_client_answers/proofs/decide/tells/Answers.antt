use Rattle.std.proofs.Common.{Bool, Result, sym, ap}
use Rattle.tg_model.specs.declared.refusal.Refusal.{Refusal}
use Rattle.tg_play.proofs.Means.{means}
use Rattle.tg_client_state.specs.States.{client_of}
use Rattle.tg_client_answers.specs.Fates.{decision_told}
use Rattle.tg_client_answers.proofs.TellingTx.{moves_same}
use Rattle.tg_client_answers.proofs.decide.tells.Goals as goal

pub returns-in-Ok : goal.returns-in-Ok
returns-in-Ok g c = λ r w v old hv hn hk hj.
    moves_same (means g.K.Kind g.K.Registry) c.decided.result old _ _ (ap (λ (a : Result Bool Refusal). decision_told (means g.K.Kind g.K.Registry) (client_of (means g.K.Kind g.K.Registry) c.args.state r) w c.args.entries.now c.args.at c.args.entry.now a) (sym c.in-Ok.is)) (c.decided.ensures r w v old hv hn hk hj)

pub returns-in-Err : goal.returns-in-Err
returns-in-Err g c = λ r w v old hv hn hk hj.
    moves_same (means g.K.Kind g.K.Registry) c.refuses.result old _ _ (ap (λ (a : Result Bool Refusal). decision_told (means g.K.Kind g.K.Registry) (client_of (means g.K.Kind g.K.Registry) c.args.state r) w c.args.entries.now c.args.at c.args.entry.now a) (sym c.in-Err.is)) (c.refuses.ensures r old hk)
