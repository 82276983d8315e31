use Rattle.std.proofs.Common.{refl}
use Rattle.tg_play.proofs.Means.{means}
use Rattle.tg_protocol.specs.Views.{state_of}
use Rattle.tg_client_state.specs.States.{client_of}
use Rattle.tg_client_answers.proofs.TellingPast.{moves_same, played_at, blocked_at}
use Rattle.tg_client_answers.proofs.past.played.Goals as goal

pub returns-in-Played : goal.returns-in-Played
returns-in-Played g c = λ r p old hv hp.
    let m = means g.K.Kind g.K.Registry in
    moves_same m c.answered.result old _ _ (played_at m (client_of m c.args.state r) c.args.at c.args.oid c.args.ask p c.args.came c.in-Played.upto (state_of m p.view c.args.oid) hp.came c.in-Played.is refl) (c.answered.ensures r p.view old hv hp.view)

pub returns-in-Blocked : goal.returns-in-Blocked
returns-in-Blocked g c = λ r p old hv hp.
    let m = means g.K.Kind g.K.Registry in
    moves_same m c.refuses.result old _ _ (blocked_at m (client_of m c.args.state r) c.args.at c.args.oid c.args.ask p c.args.came c.in-Blocked.pos c.in-Blocked.missing hp.came c.in-Blocked.is) (c.refuses.ensures r old hv)
