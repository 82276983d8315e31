use Rattle.std.proofs.Common.{refl}
use Rattle.std.proofs.lemmas.Result.{err_from_is_err_and}
use Rattle.tg_codec.specs.Codec.{read_many}
use Rattle.tg_codec.proofs.Many.{goes_on, ends, is_done}
use Rattle.tg_wire.specs.Fields.{range, after_range}
use Rattle.tg_wire.proofs.layouts.ranges_of.Goals as goal

pub returns-in_err-range : goal.returns-in_err-range
returns-in_err-range c =
    let p = err_from_is_err_and c.from_residual.result c.from_residual.ensures.1 in
    rw (p.1, p.2) (ends range (after_range c.args.start) c.in_err-range.field-0.0 c.loop.ranges c.args.count c.loop.counter c.loop.begins c.loop.rest.now (read_many range (after_range c.args.start) c.args.count (0, 0) c.args.bytes.now) c.loop-test.true c.in_err-range.ensures c.loop.invariant.so_far)

pub loop-preserved : goal.loop-preserved
loop-preserved c = record {
  so_far = rw c.in_ok-push.ensures.ok (goes_on range (after_range c.args.start) c.loop.ranges c.args.count c.loop.counter c.loop.begins (c.in_ok-range.range.lo, c.args.start) c.loop.rest.now c.in_ok-range.range c.in_ok-range.after.now (read_many range (after_range c.args.start) c.args.count (0, 0) c.args.bytes.now) c.loop-test.true c.in_ok-range.ensures refl c.loop.invariant.so_far);
}

pub returns : goal.returns
returns c =
    is_done range (after_range c.args.start) c.loop.ranges c.args.count c.loop.counter c.loop.begins c.loop.rest.now (read_many range (after_range c.args.start) c.args.count (0, 0) c.args.bytes.now) c.loop-test.false c.loop.invariant.so_far
