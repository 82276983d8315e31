use Rattle.std.proofs.Common.{◌≡◌, Err, sym, subst, rules}
use Rattle.tg_any.specs.Words.{texts}
use Rattle.tg_trace.specs.Reading.{parsed, Parses}
use Rattle.tg_trace.proofs.Slices.{parses_none, parses_stop, parses_end}
use Rattle.tg_trace.proofs.reading.parse.Goals as goal

pub returns-in_default : goal.returns-in_default
returns-in_default c = parses_none c.args.pieces.now _ (search rules) (search rules)

pub returns-in_err-so_far : goal.returns-in_err-so_far
returns-in_err-so_far c =
    let err : c.from_residual.result ≡ Err c.in_err-so_far.field-0.0 = search rules in
    subst (λ r. Parses r (parsed (texts c.args.pieces.now))) (sym err)
    (parses_stop c.in_err-so_far.field-0.0 c.args.pieces.now c.in-Some.lines.now c.in-Some.last.now c.in-Some.ensures.cases.0 c.in_err-so_far.ensures)

pub returns : goal.returns
returns c =
    parses_end c.ended.result _ c.whole.result c.in_ok-so_far.so_far c.args.pieces.now c.in-Some.lines.now c.in-Some.last.now c.in-Some.ensures.cases.0 (search rules) c.whole.ensures c.in_ok-so_far.ensures c.ended.ensures
