use Rattle.std.proofs.Common.{◌≡◌, ℕ, ◌-◌, ◌*◌, ◌%◌, ◌^◌, ◌++◌, length}
use Rattle.std.specs.Prelude.{replicate}
use Rattle.tg_protocol.specs.Units.{UnitState}
use Rattle.bench_costs.specs.Stores.{sent, is_held}
use Rattle.bench_costs.proofs.stores.store_in_each.Given as goal

-- the first units have taken the page, and the others haven't
abbrev pub invariant-loop-at : goal.invariant-loop-at
invariant-loop-at l = record {
  long : length l.units.items ≡ length l.fn.units.items;
  units : (many : ℕ) (unit : UnitState) → l.fn.units.items ≡ replicate many unit → l.units.items ≡ replicate l.at (sent unit l.pos).now ++ replicate (many - l.at) unit;
  sum : (many : ℕ) (unit : UnitState) → l.fn.units.items ≡ replicate many unit → l.sum ≡ l.at * is_held (sent unit l.pos).says % 2 ^ 64;
}
