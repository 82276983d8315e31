use Rattle.std.proofs.Common.{arith, ◌≡◌, ◌∙◌, ◌+◌, ◌-◌, ◌∷◌, [], take, drop, ap, sym, subst, Ok, ℕ, List}
use Rattle.std.proofs.lemmas.Result.{err_from_is_err_and}
use Rattle.tg_codec.specs.Reading.{Fails, u8_at}
use Rattle.tg_codec.specs.Codec.{read_many}
use Rattle.tg_codec.specs.Bounds.{byte_above, after_byte, bound_after}
use Rattle.tg_codec.proofs.Many.{goes_on, ends, is_done}
use Rattle.tg_codec.proofs.Bounds.{one_read, further, rest_is}
use Rattle.tg_codec.proofs.above.raw_above.Goals as goal

pub returns-in_err-byte-clause-exact : goal.returns-in_err-byte-clause-exact
returns-in_err-byte-clause-exact c =
    let p = err_from_is_err_and c.from_residual.result c.from_residual.ensures.1 in
    let left = c.args.count - c.loop-place.place in
    let failed : Fails c.in_err-byte.field-0.0 ((byte_above (c.loop-place.low.now, left)).read c.loop-place.rest.now) =
    subst (λ (k : ℕ). Fails c.in_err-byte.field-0.0 (u8_at ((k, 255) ∷ []) c.loop-place.rest.now)) c.least_above.ensures c.in_err-byte.ensures.exact in
    rw (p.1, p.2) (ends byte_above after_byte c.in_err-byte.field-0.0 (take c.loop-place.place c.args.bytes.now) c.args.count c.loop-place.place (c.loop-place.low.now, left) c.loop-place.rest.now
    (read_many byte_above after_byte c.args.count (c.args.bound.now, c.args.count) c.args.bytes.now) c.loop-place-test.true failed c.loop-place.invariant.so_far)

pub loop-place-preserved : goal.loop-place-preserved
loop-place-preserved c =
    let place = c.loop-place.place in
    let left = c.args.count - place in
    let byte = c.in_ok-byte.byte in
    let after = c.in_ok-byte.after.now in
    let starts = one_read ((c.least_above.result, 255) ∷ []) c.loop-place.rest.now byte after c.in_ok-byte.ensures.exact in
    let f = further c.args.bytes.now c.loop-place.rest.now after place byte c.loop-place.invariant.parts c.loop-place.invariant.len starts in
    let read : (byte_above (c.loop-place.low.now, left)).read c.loop-place.rest.now ≡ Ok (byte, after) =
    subst (λ (k : ℕ). u8_at ((k, 255) ∷ []) c.loop-place.rest.now ≡ Ok (byte, after)) c.least_above.ensures c.in_ok-byte.ensures.exact in
    let fewer : c.args.count - (place + 1) ≡ left - 1 = omega arith in
    let next : ◌≡◌ {A = List ℕ × ℕ} (c.bound_after-low.result.now, c.args.count - (place + 1)) (bound_after c.loop-place.low.now byte, left - 1) = λ i. (c.bound_after-low.ensures i, fewer i) in
    record {
      parts = f.parts;
      len = f.len;
      so_far = rw f.took (goes_on byte_above after_byte (take place c.args.bytes.now) c.args.count place (c.loop-place.low.now, left) (c.bound_after-low.result.now, c.args.count - (place + 1)) c.loop-place.rest.now byte after
          (read_many byte_above after_byte c.args.count (c.args.bound.now, c.args.count) c.args.bytes.now) c.loop-place-test.true read next c.loop-place.invariant.so_far);
    }

pub returns-clause-exact : goal.returns-clause-exact
returns-clause-exact c =
    let place = c.loop-place.place in
    let ended = is_done byte_above after_byte (take place c.args.bytes.now) c.args.count place (c.loop-place.low.now, c.args.count - place) c.loop-place.rest.now
    (read_many byte_above after_byte c.args.count (c.args.bound.now, c.args.count) c.args.bytes.now) c.loop-place-test.false c.loop-place.invariant.so_far in
    let same : place ≡ c.args.count = omega (arith, c.loop-place.auto.place-end, c.loop-place-test.false) in
    let rest : c.loop-place.rest.now ≡ drop place c.args.bytes.now = rest_is c.args.bytes.now c.loop-place.rest.now place c.loop-place.invariant.parts c.loop-place.invariant.len in
    let front_is : take place c.args.bytes.now ≡ c.split_at.result.0.now = ap (λ n. take n c.args.bytes.now) same ∙ sym c.split_at.ensures.front in
    let back_is : c.loop-place.rest.now ≡ c.split_at.result.1.now = rest ∙ ap (λ n. drop n c.args.bytes.now) same ∙ sym c.split_at.ensures.back in
    ended ∙ (λ i. Ok (front_is i, back_is i))
