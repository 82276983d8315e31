use Rattle.std.proofs.Common.{rules, ap, ◌≡◌, ◌++◌, ◌<◌, [], ◌∷◌, Some, None, length, refl, ◌∙◌, arith}
use Rattle.std.proofs.lemmas.List.{length-append}
use Rattle.std.proofs.lemmas.Result.{err_from_is_err_and}
use Rattle.tg_codec.specs.Codec.{read_many}
use Rattle.tg_codec.proofs.Many.{goes_on, ends, is_done}
use Rattle.tg_set.specs.Sets.{Numbers, most, number_format, after_number}
use Rattle.tg_set.proofs.Loops.{are_below, with_last, ends_on}
use Rattle.tg_set.proofs.set.numbers_in.Goals as goal

pub loop-init : goal.loop-init
loop-init c =
    let none = c.new-set.ensures in
    record { so_far = search rules; len = ap length none; ends = λ q up. ap (λ (ns : Numbers). are_below ns q) none }

pub returns-in_err-number : goal.returns-in_err-number
returns-in_err-number c =
    let p = err_from_is_err_and c.from_residual.result c.from_residual.ensures.1 in
    rw (p.1, p.2) (ends number_format after_number c.in_err-number.field-0.0 c.loop.set c.args.count c.loop.counter c.loop.last c.loop.rest.now (read_many number_format after_number c.args.count None c.args.bytes.now) c.loop-test.true c.in_err-number.ensures.read c.loop.invariant.so_far)

pub loop-preserved : goal.loop-preserved
loop-preserved c =
    let n = c.in_ok-number.number in
    let room : length c.loop.set < most = omega (arith, c.loop.invariant.len, c.loop-test.true, c.ranges.count.fits) in
    let grown : c.in_ok-set.set ≡ c.loop.set ++ n ∷ [] = c.in_ok-set.ensures ∙ with_last c.loop.set n room (c.loop.invariant.ends n c.in_ok-number.ensures.new) in
    record {
      so_far = rw grown (goes_on number_format after_number c.loop.set c.args.count c.loop.counter c.loop.last (Some n) c.loop.rest.now n c.in_ok-number.after.now (read_many number_format after_number c.args.count None c.args.bytes.now) c.loop-test.true c.in_ok-number.ensures.read refl c.loop.invariant.so_far);
      len = rw grown (omega (arith, c.loop.invariant.len, length-append c.loop.set (n ∷ [])));
      ends = rw grown (ends_on c.loop.set c.loop.last n c.in_ok-number.ensures.new c.loop.invariant.ends);
    }

pub returns : goal.returns
returns c = is_done number_format after_number c.loop.set c.args.count c.loop.counter c.loop.last c.loop.rest.now (read_many number_format after_number c.args.count None c.args.bytes.now) c.loop-test.false c.loop.invariant.so_far
