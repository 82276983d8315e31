use Rattle.std.proofs.Common.{Bool, Option, sym, ap}
use Rattle.tg_model.specs.Kinds.{WhatOf}
use Rattle.tg_play.proofs.Means.{means}
use Rattle.tg_client_state.specs.States.{client_of}
use Rattle.tg_client_answers.specs.Fates.{end_told}
use Rattle.tg_client_answers.proofs.TellingTx.{moves_same}
use Rattle.tg_client_answers.proofs.end.tells.Goals as goal

pub returns-in-None : goal.returns-in-None
returns-in-None g c = λ r w v old hv hn hk hj.
    moves_same (means g.K.Kind g.K.Registry) c.unsure.result old _ _ (ap (λ (a : Option (Bool × WhatOf (means g.K.Kind g.K.Registry))). end_told (means g.K.Kind g.K.Registry) (client_of (means g.K.Kind g.K.Registry) c.args.state r) w c.args.entries.now c.args.at c.args.entry.now a) (sym c.in-None.is)) (c.unsure.ensures r old hk)

pub returns-in-Some : goal.returns-in-Some
returns-in-Some g c = λ r w v old hv hn hk hj.
    moves_same (means g.K.Kind g.K.Registry) c.decided.result old _ _ (ap (λ (a : Option (Bool × WhatOf (means g.K.Kind g.K.Registry))). end_told (means g.K.Kind g.K.Registry) (client_of (means g.K.Kind g.K.Registry) c.args.state r) w c.args.entries.now c.args.at c.args.entry.now a) (sym c.in-Some.is)) (c.decided.ensures r w v old hv hn hk hj)
