use Rattle.std.proofs.Common.{◌≡◌, ◌++◌, ◌<◌, [], ◌∷◌, length, ◌∙◌, arith}
use Rattle.std.specs.Map.{keys_of}
use Rattle.std.proofs.lemmas.List.{length-append}
use Rattle.std.proofs.lemmas.Result.{err_from_is_err_and}
use Rattle.tg_codec.specs.Codec.{read_many}
use Rattle.tg_codec.proofs.Many.{goes_on, ends, is_done}
use Rattle.tg_map.specs.Maps.{most, pair, after_pair}
use Rattle.tg_map.proofs.Loops.{set_new, keys_push}
use Rattle.tg_map.proofs.map.pairs_in.Goals as goal

pub returns-in_err-key : goal.returns-in_err-key
returns-in_err-key c =
    let p = err_from_is_err_and c.from_residual.result c.from_residual.ensures.1 in
    rw (p.1, p.2) (ends pair after_pair c.in_err-key.field-0.0 c.loop.map c.args.count c.loop.counter (keys_of c.loop.map) c.loop.rest.now (read_many pair after_pair c.args.count [] c.args.bytes.now) c.loop-test.true c.in_err-key.ensures.read c.loop.invariant.so_far)

pub loop-preserved : goal.loop-preserved
loop-preserved c =
    let k = c.in_ok-key.key in
    let v = c.in_ok-key.value in
    let room : length c.loop.map < most = omega (arith, c.loop.invariant.len, c.loop-test.true, c.ranges.count.fits) in
    let grown : c.in_ok-map.map ≡ c.loop.map ++ (k, v) ∷ [] = c.in_ok-map.ensures ∙ set_new c.loop.map k v room c.in_ok-key.ensures.new in
    record {
      so_far = rw grown (goes_on pair after_pair c.loop.map c.args.count c.loop.counter (keys_of c.loop.map) (keys_of (c.loop.map ++ (k, v) ∷ [])) c.loop.rest.now (k, v) c.in_ok-key.after.now (read_many pair after_pair c.args.count [] c.args.bytes.now) c.loop-test.true c.in_ok-key.ensures.read (keys_push c.loop.map k v) c.loop.invariant.so_far);
      len = rw grown (omega (arith, c.loop.invariant.len, length-append c.loop.map ((k, v) ∷ [])));
    }

pub returns : goal.returns
returns c = is_done pair after_pair c.loop.map c.args.count c.loop.counter (keys_of c.loop.map) c.loop.rest.now (read_many pair after_pair c.args.count [] c.args.bytes.now) c.loop-test.false c.loop.invariant.so_far
