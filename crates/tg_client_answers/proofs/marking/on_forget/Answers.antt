use Rattle.tg_play.proofs.Means.{means}
use Rattle.tg_client_state.specs.States.{client_of}
use Rattle.tg_client_answers.proofs.Moving.{moves_same, forgets_at, forget_blocked}
use Rattle.tg_client_answers.proofs.marking.on_forget.Goals as goal

pub returns-in-Played : goal.returns-in-Played
returns-in-Played g c = λ r w old le hv hj.
    moves_same (means g.K.Kind g.K.Registry) c.forgets.result old _ _
    (forgets_at (means g.K.Kind g.K.Registry) (client_of (means g.K.Kind g.K.Registry) c.args.state r) w c.args.entries.now c.args.oid c.args.mark c.args.came c.in-Played.upto c.in-Played.is)
    (c.forgets.ensures r w old le hv hj)

pub returns-in-Blocked : goal.returns-in-Blocked
returns-in-Blocked g c = λ r w old le hv hj.
    moves_same (means g.K.Kind g.K.Registry) c.refuses.result old _ _
    (forget_blocked (means g.K.Kind g.K.Registry) (client_of (means g.K.Kind g.K.Registry) c.args.state r) w c.args.entries.now c.args.oid c.args.mark c.args.came c.in-Blocked.pos c.in-Blocked.missing c.in-Blocked.is)
    (c.refuses.ensures r old hv)
