use Rattle.std.proofs.Common.{Bool, Option, Result, sym, ap}
use Rattle.tg_model.specs.declared.refusal.Refusal.{Refusal}
use Rattle.tg_play.proofs.Means.{means}
use Rattle.tg_client_state.specs.States.{client_of}
use Rattle.tg_client_answers.specs.Fates.{fate_told}
use Rattle.tg_client_answers.proofs.TellingTx.{moves_same}
use Rattle.tg_client_answers.proofs.fate.tells.Goals as goal

pub returns-in-Ok : goal.returns-in-Ok
returns-in-Ok g c = λ r old hk. moves_same (means g.K.Kind g.K.Registry) c.answers.result old _ _ (ap (λ (a : Result (Option Bool) Refusal). fate_told (means g.K.Kind g.K.Registry) (client_of (means g.K.Kind g.K.Registry) c.args.state r) c.args.at a) (sym c.in-Ok.is)) (c.answers.ensures r old hk)

pub returns-in-Err : goal.returns-in-Err
returns-in-Err g c = λ r old hk. moves_same (means g.K.Kind g.K.Registry) c.refuses.result old _ _ (ap (λ (a : Result (Option Bool) Refusal). fate_told (means g.K.Kind g.K.Registry) (client_of (means g.K.Kind g.K.Registry) c.args.state r) c.args.at a) (sym c.in-Err.is)) (c.refuses.ensures r old hk)
