use Rattle.std.proofs.Common.{◌≡◌}
use Rattle.bench_costs.specs.Rows.{after_ops}
use Rattle.bench_costs.proofs.row.after_ops.Given as goal

abbrev pub invariant-loop-place : goal.invariant-loop-place
invariant-loop-place g l = l.state ≡ after_ops g.K.Kind.applied (g.R.Row.op_at l.count) l.fn.first l.place
