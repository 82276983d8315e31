use Rattle.std.proofs.Common.{arith, ◌≡◌, ◌∙◌, take, drop, refl, ap, sym, Ok}
use Rattle.std.proofs.lemmas.Result.{err_from_is_err_and}
use Rattle.tg_codec.specs.Codec.{u8, read_many}
use Rattle.tg_codec.specs.Bounds.{same_ranges}
use Rattle.tg_codec.proofs.Many.{goes_on, ends, is_done}
use Rattle.tg_codec.proofs.Bounds.{one_read, further, rest_is}
use Rattle.tg_codec.proofs.above.raw_in.Goals as goal

pub returns-in_err-after-clause-exact : goal.returns-in_err-after-clause-exact
returns-in_err-after-clause-exact c =
    let p = err_from_is_err_and c.from_residual.result c.from_residual.ensures.1 in
    rw (p.1, p.2) (ends u8 same_ranges c.in_err-after.field-0.0 (take c.loop.counter c.args.bytes.now) c.args.count c.loop.counter c.args.ranges.now c.loop.rest.now (read_many u8 same_ranges c.args.count c.args.ranges.now c.args.bytes.now) c.loop-test.true c.in_err-after.ensures.exact c.loop.invariant.so_far)

pub loop-preserved : goal.loop-preserved
loop-preserved c =
    let starts = one_read c.args.ranges.now c.loop.rest.now c.in_ok-after.field-0-0 c.in_ok-after.after.now c.in_ok-after.ensures.exact in
    let f = further c.args.bytes.now c.loop.rest.now c.in_ok-after.after.now c.loop.counter c.in_ok-after.field-0-0 c.loop.invariant.parts c.loop.invariant.len starts in
    record {
      parts = f.parts;
      len = f.len;
      so_far = rw f.took (goes_on u8 same_ranges (take c.loop.counter c.args.bytes.now) c.args.count c.loop.counter c.args.ranges.now c.args.ranges.now c.loop.rest.now c.in_ok-after.field-0-0 c.in_ok-after.after.now (read_many u8 same_ranges c.args.count c.args.ranges.now c.args.bytes.now) c.loop-test.true c.in_ok-after.ensures.exact refl c.loop.invariant.so_far);
    }

pub returns-clause-exact : goal.returns-clause-exact
returns-clause-exact c =
    let ended = is_done u8 same_ranges (take c.loop.counter c.args.bytes.now) c.args.count c.loop.counter c.args.ranges.now c.loop.rest.now (read_many u8 same_ranges c.args.count c.args.ranges.now c.args.bytes.now) c.loop-test.false c.loop.invariant.so_far in
    let same : c.loop.counter ≡ c.args.count = omega (arith, c.loop.auto.counter-end, c.loop-test.false) in
    let rest : c.loop.rest.now ≡ drop c.loop.counter c.args.bytes.now = rest_is c.args.bytes.now c.loop.rest.now c.loop.counter c.loop.invariant.parts c.loop.invariant.len in
    let front_is : take c.loop.counter c.args.bytes.now ≡ c.split_at.result.0.now = ap (λ n. take n c.args.bytes.now) same ∙ sym c.split_at.ensures.front in
    let back_is : c.loop.rest.now ≡ c.split_at.result.1.now = rest ∙ ap (λ n. drop n c.args.bytes.now) same ∙ sym c.split_at.ensures.back in
    ended ∙ (λ i. Ok (front_is i, back_is i))
