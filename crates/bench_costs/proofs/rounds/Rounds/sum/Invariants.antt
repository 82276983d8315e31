use Rattle.std.proofs.Common.{◌≡◌, ◌*◌, ◌%◌, ◌^◌}
use Rattle.bench_costs.specs.Workloads.{told}
use Rattle.bench_costs.proofs.rounds.Rounds.sum.Given as goal

abbrev pub invariant-loop : goal.invariant-loop
invariant-loop l = l.sum ≡ l.counter * told l.fn.self.workload l.fn.self.count % 2 ^ 64
