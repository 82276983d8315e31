use Rattle.std.proofs.Common.{◌≡◌}
use Rattle.bench_costs.specs.Plays.{entries_from}
use Rattle.bench_costs.proofs.entries.entries_from.Given as goal

abbrev pub invariant-loop-place : goal.invariant-loop-place
invariant-loop-place l = record {
  entries : l.entries ≡ entries_from l.first l.place;
}
