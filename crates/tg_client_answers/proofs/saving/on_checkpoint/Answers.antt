use Rattle.tg_play.proofs.Means.{means}
use Rattle.tg_client_state.specs.States.{client_of}
use Rattle.tg_client_answers.proofs.Moving.{moves_same, saves_at, save_blocked}
use Rattle.tg_client_answers.proofs.saving.on_checkpoint.Goals as goal

pub returns-in-Played : goal.returns-in-Played
returns-in-Played g c = λ r w v old hr le hv hj.
    moves_same (means g.K.Kind g.K.Registry) c.saves.result old _ _
    (saves_at (means g.K.Kind g.K.Registry) (client_of (means g.K.Kind g.K.Registry) c.args.state r) w v c.args.oid c.args.came c.in-Played.upto c.in-Played.is)
    (c.saves.ensures r w v old hr le hv hj)

pub returns-in-Blocked : goal.returns-in-Blocked
returns-in-Blocked g c = λ r w v old hr le hv hj.
    moves_same (means g.K.Kind g.K.Registry) c.refuses.result old _ _
    (save_blocked (means g.K.Kind g.K.Registry) (client_of (means g.K.Kind g.K.Registry) c.args.state r) w v c.args.oid c.args.came c.in-Blocked.pos c.in-Blocked.missing c.in-Blocked.is)
    (c.refuses.ensures r old hv)
