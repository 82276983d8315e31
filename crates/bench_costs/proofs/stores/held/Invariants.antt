use Rattle.std.proofs.Common.{◌≡◌, ◌*◌, ◌%◌, ◌^◌}
use Rattle.std.specs.Prelude.{replicate}
use Rattle.bench_costs.specs.Stores.{stored, held}
use Rattle.bench_costs.proofs.stores.held.Given as goal

abbrev pub invariant-loop-place : goal.invariant-loop-place
invariant-loop-place l = record {
  units : l.units.items ≡ replicate l.many (stored l.order l.count l.place);
  sum : l.sum ≡ l.many * held l.order l.count l.place % 2 ^ 64;
}
