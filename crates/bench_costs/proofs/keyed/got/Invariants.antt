use Rattle.std.proofs.Common.{◌≡◌, ◌≤◌}
use Rattle.bench_costs.specs.Workloads.{got}
use Rattle.bench_costs.proofs.keyed.got.Given as goal

abbrev pub invariant-loop-place : goal.invariant-loop-place
invariant-loop-place l = record {
  so_far : l.sum ≡ got l.tree l.count l.place;
  most : l.sum ≤ l.place;
}
