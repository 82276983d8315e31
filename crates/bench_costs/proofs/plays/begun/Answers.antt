use Rattle.std.proofs.Common.{[], ◌∷◌}
use Rattle.tg_protocol.specs.Views.{fresh_base}
use Rattle.tg_protocol.specs.Words.{directory}
use Rattle.tg_play.proofs.Means.{means}
use Rattle.tg_play.proofs.Lawful.{base_fresh, one_lawful}
use Rattle.bench_costs.proofs.Begun.{keeps_first}
use Rattle.bench_costs.proofs.plays.begun.Goals as goal

pub start-requires : goal.start-requires
start-requires g c = one_lawful c.new-bases.result c.push.new.self _ c.new-bases.ensures c.in_ok-push.ensures.ok (base_fresh _ c.new.ensures)

pub returns : goal.returns
returns g c =
    c.start.ensures (fresh_base (means g.K.Kind g.K.Registry) [] directory ∷ [])
    (keeps_first (means g.K.Kind g.K.Registry) c.new-bases.result c.push.new.self c.in_ok-state.state _ c.new-bases.ensures c.in_ok-push.ensures.ok c.in_ok-state.ensures c.new.ensures)
