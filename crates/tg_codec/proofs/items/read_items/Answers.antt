use Rattle.std.proofs.Common.{arith, [], ◌∷◌}
use Rattle.std.proofs.lemmas.List.{length-append}
use Rattle.std.proofs.lemmas.Result.{err_from_is_err_and}
use Rattle.tg_codec.specs.Codec.{read_many}
use Rattle.tg_codec.proofs.Many.{goes_on, ends, is_done}
use Rattle.tg_codec.proofs.items.read_items.Goals as goal

pub returns-in_err-item-clause-exact : goal.returns-in_err-item-clause-exact
returns-in_err-item-clause-exact g c =
    let p = err_from_is_err_and c.from_residual-in_err-item.result c.from_residual-in_err-item.ensures.1 in
    let m = g.I.Item in
    rw (p.1, p.2) (ends m.format m.following c.in_err-item.field-0.0 c.loop.items.items c.args.count c.loop.counter c.loop.state c.loop.rest.now (read_many m.format m.following c.args.count c.args.first c.args.bytes.now) c.loop-test.true c.in_err-item.ensures c.loop.invariant.so_far)

pub loop-preserved : goal.loop-preserved
loop-preserved g c =
    let m = g.I.Item in
    record {
      so_far = rw c.in_ok-push.ensures.items (goes_on m.format m.following c.loop.items.items c.args.count c.loop.counter c.loop.state c.in_ok-state.state c.loop.rest.now c.in_ok-item.item c.in_ok-item.after.now (read_many m.format m.following c.args.count c.args.first c.args.bytes.now) c.loop-test.true c.in_ok-item.ensures c.in_ok-state.ensures c.loop.invariant.so_far);
      len = rw c.in_ok-push.ensures.items (omega (arith, c.loop.invariant.len, length-append c.loop.items.items (c.in_ok-item.item ∷ [])));
    }

pub returns-clause-exact : goal.returns-clause-exact
returns-clause-exact g c =
    let m = g.I.Item in
    rw c.from_vec.ensures (is_done m.format m.following c.loop.items.items c.args.count c.loop.counter c.loop.state c.loop.rest.now (read_many m.format m.following c.args.count c.args.first c.args.bytes.now) c.loop-test.false c.loop.invariant.so_far)
