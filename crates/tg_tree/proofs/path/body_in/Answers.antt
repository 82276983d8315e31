use Rattle.std.proofs.Common.{arith, ◌≡◌, ◌∙◌, ◌+◌, ◌-◌, take, drop, ap, sym, Ok, ℕ}
use Rattle.std.proofs.lemmas.Result.{err_from_is_err_and}
use Rattle.tg_codec.specs.Codec.{read_many}
use Rattle.tg_tree.specs.Paths.{next_bytes, path_byte, after_byte}
use Rattle.tg_codec.proofs.Many.{goes_on, ends, is_done}
use Rattle.tg_codec.proofs.Bounds.{one_read, further, rest_is}
use Rattle.tg_tree.proofs.path.body_in.Goals as goal

pub returns-in_err-byte-clause-exact : goal.returns-in_err-byte-clause-exact
returns-in_err-byte-clause-exact c =
    let p = err_from_is_err_and c.from_residual.result c.from_residual.ensures.1 in
    let left = c.args.count - c.loop-place.place in
    rw (p.1, p.2) (ends path_byte after_byte c.in_err-byte.field-0.0 (take c.loop-place.place c.args.bytes.now) c.args.count c.loop-place.place (left, c.loop-place.before) c.loop-place.rest.now
    (read_many path_byte after_byte c.args.count (c.args.count, 0) c.args.bytes.now) c.loop-place-test.true c.in_err-byte.ensures c.loop-place.invariant.so_far)

pub loop-place-preserved : goal.loop-place-preserved
loop-place-preserved c =
    let place = c.loop-place.place in
    let left = c.args.count - place in
    let byte = c.in_ok-byte.byte in
    let after = c.in_ok-byte.after.now in
    let starts = one_read (next_bytes (left, c.loop-place.before)) c.loop-place.rest.now byte after c.in_ok-byte.ensures in
    let f = further c.args.bytes.now c.loop-place.rest.now after place byte c.loop-place.invariant.parts c.loop-place.invariant.len starts in
    let fewer : c.args.count - (place + 1) ≡ left - 1 = omega arith in
    let next : ◌≡◌ {A = ℕ × ℕ} (c.args.count - (place + 1), byte) (left - 1, byte) = λ i. (fewer i, byte) in
    record {
      parts = f.parts;
      len = f.len;
      so_far = rw f.took (goes_on path_byte after_byte (take place c.args.bytes.now) c.args.count place (left, c.loop-place.before) (c.args.count - (place + 1), byte) c.loop-place.rest.now byte after
          (read_many path_byte after_byte c.args.count (c.args.count, 0) c.args.bytes.now) c.loop-place-test.true c.in_ok-byte.ensures next c.loop-place.invariant.so_far);
    }

pub returns-clause-exact : goal.returns-clause-exact
returns-clause-exact c =
    let place = c.loop-place.place in
    let ended = is_done path_byte after_byte (take place c.args.bytes.now) c.args.count place (c.args.count - place, c.loop-place.before) c.loop-place.rest.now
    (read_many path_byte after_byte c.args.count (c.args.count, 0) c.args.bytes.now) c.loop-place-test.false c.loop-place.invariant.so_far in
    let same : place ≡ c.args.count = omega (arith, c.loop-place.auto.place-end, c.loop-place-test.false) in
    let rest : c.loop-place.rest.now ≡ drop place c.args.bytes.now = rest_is c.args.bytes.now c.loop-place.rest.now place c.loop-place.invariant.parts c.loop-place.invariant.len in
    let front_is : take place c.args.bytes.now ≡ c.split_at.result.0.now = ap (λ n. take n c.args.bytes.now) same ∙ sym c.split_at.ensures.front in
    let back_is : c.loop-place.rest.now ≡ c.split_at.result.1.now = rest ∙ ap (λ n. drop n c.args.bytes.now) same ∙ sym c.split_at.ensures.back in
    ended ∙ (λ i. Ok (front_is i, back_is i))
