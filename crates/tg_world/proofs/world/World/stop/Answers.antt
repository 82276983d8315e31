use Rattle.std.proofs.Common.{true, false, refl}
use Rattle.tg_play.proofs.Means.{means}
use Rattle.tg_world.proofs.Whole.{whole_of, runs_at}
use Rattle.tg_world.proofs.Events.{stop_by, idle_keeps}
use Rattle.tg_world.proofs.Happening.{node_stopped}
use Rattle.tg_world.proofs.world.World.stop.Goals as goal

pub returns-then-runs-clause-keeps : goal.returns-then-runs-clause-keeps
returns-then-runs-clause-keeps g c = λ w h.
    let m = means g.K.Kind g.K.Registry in
    node_stopped m c.args.self w (whole_of m _ c.args.self c.self.view_is c.self.invariant) h c.stopped.result c.args.node
    (runs_at m _ c.args.self c.self.view_is c.args.node c.args.node c.runs.result true c.runs.ensures refl c.if-runs.true) c.stopped.ensures.now

pub returns-clause-keeps : goal.returns-clause-keeps
returns-clause-keeps g c = λ w h.
    let m = means g.K.Kind g.K.Registry in
    let whole = whole_of m _ c.args.self c.self.view_is c.self.invariant in
    stop_by m c.args.self c.idle.result w whole h c.args.node false (runs_at m _ c.args.self c.self.view_is c.args.node c.args.node c.runs.result false c.runs.ensures refl c.if-runs.false) (idle_keeps m c.args.self c.idle.result w whole h c.idle.ensures)
