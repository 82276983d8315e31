use Rattle.std.proofs.Common.{List, ap, ◌∙◌}
use Rattle.tg_base.specs.declared.ids.Oid.{Oid}
use Rattle.tg_audit.specs.Judging.{written}
use Rattle.tg_audit.proofs.Means.{means}
use Rattle.tg_audit.proofs.Sweeping.{after_next, below_next}
use Rattle.tg_audit.proofs.sweep.up_to.Goals as goal

pub loop-place-preserved : goal.loop-place-preserved
loop-place-preserved g c = record {
  state = λ x e. after_next (means g.K.Kind g.K.Registry) c.args.oid x c.loop-place.state c.in_ok-state.state c.args.history.now c.loop-place.place c.index-history-place.result
      c.loop-place-test.true c.index-history-place.is (c.loop-place.invariant.state x e)
      (c.in_ok-state.ensures ∙ ap (written (means g.K.Kind g.K.Registry) c.args.oid c.loop-place.state) c.as_slice.ensures);
  below = below_next (means g.K.Kind g.K.Registry) c.args.history.now c.args.before c.loop-place.place c.index-history-place.result c.loop-place-test.true c.index-history-place.is c.if-done-before.false;
}
