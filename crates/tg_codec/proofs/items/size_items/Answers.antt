use Rattle.std.proofs.Common.{arith}
use Rattle.tg_codec.proofs.Many.{sizes_on, all_sized, from_nothing}
use Rattle.tg_codec.proofs.items.size_items.Goals as goal

pub loop-value-init : goal.loop-value-init
loop-value-init g c = record { so_far = λ state. (state, from_nothing _); most = omega arith }

pub loop-value-preserved : goal.loop-value-preserved
loop-value-preserved g c = record {
  so_far = λ state.
      let h = c.loop-value.invariant.so_far state in
      sizes_on g.I.Item.format g.I.Item.following c.loop-value.total c.size-total.result h.0 c.args.values.now c.loop-value.value-index c.value-item.result _ c.loop-value-test.true c.value-item.is (c.size-total.ensures.len h.0) h.1;
  most = omega (arith, c.loop-value.invariant.most, c.size-total.ensures.most);
}

pub returns-clause-len : goal.returns-clause-len
returns-clause-len g c = λ state.
    let h = c.loop-value.invariant.so_far state in
    all_sized g.I.Item.format g.I.Item.following c.loop-value.total h.0 c.args.values.now c.loop-value.value-index _ c.loop-value-test.false h.1
