use Rattle.tg_play.proofs.Means.{means}
use Rattle.tg_play.specs.Relations.{KeepsView}
use Rattle.bench_costs.specs.Plays.{after}
use Rattle.bench_costs.proofs.plays.version_after.Given as goal

abbrev pub invariant-loop-turn : goal.invariant-loop-turn
invariant-loop-turn g l = record {
  view : KeepsView (means g.K.Kind g.K.Registry) l.view (after (means g.K.Kind g.K.Registry) l.fn.count l.turn);
}
