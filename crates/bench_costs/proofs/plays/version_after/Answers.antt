use Rattle.std.proofs.Common.{ℕ, sym, subst, add-one}
use Rattle.tg_play.proofs.Means.{means}
use Rattle.tg_play.specs.Relations.{KeepsView}
use Rattle.bench_costs.specs.Plays.{after, played}
use Rattle.bench_costs.proofs.plays.version_after.Goals as goal

pub loop-turn-preserved : goal.loop-turn-preserved
loop-turn-preserved g c = record {
  view = subst (λ (n : ℕ). KeepsView (means g.K.Kind g.K.Registry) c.in_ok-view-2.view (after (means g.K.Kind g.K.Registry) c.args.count n)) (sym (add-one c.loop-turn.turn))
      (subst (λ (f : ℕ). KeepsView (means g.K.Kind g.K.Registry) c.in_ok-view-2.view (played (means g.K.Kind g.K.Registry) (after (means g.K.Kind g.K.Registry) c.args.count c.loop-turn.turn) f 10)) c.first_of.ensures
      (c.in_ok-view-2.ensures (after (means g.K.Kind g.K.Registry) c.args.count c.loop-turn.turn) c.loop-turn.invariant.view));
}
