use Rattle.tg_play.proofs.Means.{means}
use Rattle.tg_client_state.specs.States.{client_of}
use Rattle.tg_client_answers.proofs.Moving.{moves_same, view_told, trims_at, trim_blocked}
use Rattle.tg_client_answers.proofs.trimming.on_trim.Goals as goal

pub returns-in-Played : goal.returns-in-Played
returns-in-Played g c = λ r w v old hr le hv hj.
    moves_same (means g.K.Kind g.K.Registry) c.trims.result old _ _
    (trims_at (means g.K.Kind g.K.Registry) (client_of (means g.K.Kind g.K.Registry) c.args.state r) w v c.args.came c.in-Played.upto c.floor-below.result c.in-Played.is
    (c.floor-below.ensures v (view_told (means g.K.Kind g.K.Registry) c.args.state.view r.view v hr hv)))
    (c.trims.ensures r w old le hv hj)

pub returns-in-Blocked : goal.returns-in-Blocked
returns-in-Blocked g c = λ r w v old hr le hv hj.
    moves_same (means g.K.Kind g.K.Registry) c.refuses.result old _ _
    (trim_blocked (means g.K.Kind g.K.Registry) (client_of (means g.K.Kind g.K.Registry) c.args.state r) w v c.args.came c.in-Blocked.pos c.in-Blocked.missing c.in-Blocked.is)
    (c.refuses.ensures r old hv)
