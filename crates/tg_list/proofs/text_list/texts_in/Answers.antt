use Rattle.std.proofs.Common.{arith, [], ◌∷◌, refl}
use Rattle.std.proofs.lemmas.List.{length-append}
use Rattle.std.proofs.lemmas.Result.{err_from_is_err_and}
use Rattle.tg_codec.specs.Codec.{read_many}
use Rattle.tg_codec.proofs.Many.{goes_on, ends, is_done}
use Rattle.tg_list.specs.TextLists.{item, onward}
use Rattle.tg_list.proofs.text_list.texts_in.Goals as goal

pub returns-in_err-text-clause-exact : goal.returns-in_err-text-clause-exact
returns-in_err-text-clause-exact c =
    let p = err_from_is_err_and c.from_residual.result c.from_residual.ensures.1 in
    rw (p.1, p.2) (ends item onward c.in_err-text.field-0.0 c.loop.texts.items c.args.count c.loop.counter tt c.loop.rest.now (read_many item onward c.args.count tt c.args.bytes.now) c.loop-test.true c.in_err-text.ensures c.loop.invariant.so_far)

pub loop-preserved : goal.loop-preserved
loop-preserved c = record {
  so_far = rw c.in_ok-push_back.ensures.items (goes_on item onward c.loop.texts.items c.args.count c.loop.counter tt tt c.loop.rest.now c.in_ok-text.text c.in_ok-text.after.now (read_many item onward c.args.count tt c.args.bytes.now) c.loop-test.true c.in_ok-text.ensures refl c.loop.invariant.so_far);
  len = rw c.in_ok-push_back.ensures.items (omega (arith, c.loop.invariant.len, length-append c.loop.texts.items (c.in_ok-text.text ∷ [])));
}

pub returns-clause-exact : goal.returns-clause-exact
returns-clause-exact c =
    is_done item onward c.loop.texts.items c.args.count c.loop.counter tt c.loop.rest.now (read_many item onward c.args.count tt c.args.bytes.now) c.loop-test.false c.loop.invariant.so_far
