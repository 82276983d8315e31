use Rattle.std.proofs.Common.{◌≡◌, ℕ, ◌+◌, ◌-◌, ◌<◌, ◌%◌, ◌^◌, length, ap, ◌∙◌, arith}
use Rattle.std.specs.Prelude.{replicate, slice_set}
use Rattle.tg_protocol.specs.Units.{UnitState}
use Rattle.bench_costs.specs.Stores.{sent, is_held}
use Rattle.bench_costs.proofs.Alike.{item_to_come, one_more, set_twice, set_long, many_long, sum_more}
use Rattle.bench_costs.proofs.stores.store_in_each.Goals as goal

pub loop-at-preserved : goal.loop-at-preserved
loop-at-preserved c =
    let within : (many : ℕ) (unit : UnitState) → c.args.units.now.items ≡ replicate many unit → c.loop-at.at < many = λ many unit e.
    let same : length c.args.units.now.items ≡ many = ap length e ∙ many_long many unit in
    let long = c.len-at-end.ensures in
    let t = c.loop-at-test.true in
    omega arith in
    let old : (many : ℕ) (unit : UnitState) → c.args.units.now.items ≡ replicate many unit → c.replace-unit.result ≡ unit = λ many unit e.
    c.replace-unit.ensures.value ∙ item_to_come _ _ _ many (sent unit c.args.pos).now unit _ c.index_mut.ensures.value (c.loop-at.invariant.units many unit e) (within many unit e) in
    record {
      long = set_long _ _ _ ∙ set_long _ _ _ ∙ c.loop-at.invariant.long;
      units = λ many unit e.
          let now : c.in_ok-next.next ≡ (sent unit c.args.pos).now = c.in_ok-next.ensures.now ∙ ap (λ u. (sent u c.args.pos).now) (old many unit e) in
          set_twice _ _ _ _ ∙ ap (λ u. slice_set c.loop-at.units.items c.loop-at.at u) now
          ∙ ap (λ us. slice_set us c.loop-at.at (sent unit c.args.pos).now) (c.loop-at.invariant.units many unit e) ∙ one_more c.loop-at.at many (sent unit c.args.pos).now unit (within many unit e);
      sum = λ many unit e.
          let held : c.in_ok-next.held ≡ is_held (sent unit c.args.pos).says = c.in_ok-next.ensures.held ∙ ap (λ u. is_held (sent u c.args.pos).says) (old many unit e) in
          ap (λ h. (c.loop-at.sum + h) % 2 ^ 64) held ∙ sum_more c.loop-at.sum c.loop-at.at (is_held (sent unit c.args.pos).says) (c.loop-at.invariant.sum many unit e);
    }
