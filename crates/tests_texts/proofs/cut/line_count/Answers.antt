use Rattle.std.proofs.Common.{refl, rules, tests, arith}
use Rattle.tests_texts.proofs.Closing.{count_front, count_all}
use Rattle.tests_texts.proofs.cut.line_count.Goals as goal

pub returns-then-is_empty-clause-lines : goal.returns-then-is_empty-clause-lines
returns-then-is_empty-clause-lines c = count_front c.args.pieces.now c.in-Some.lines.now c.in-Some.last.now _ c.in-Some.ensures.cases.0 refl (search (rules, tests))

pub returns-else-is_empty-clause-lines : goal.returns-else-is_empty-clause-lines
returns-else-is_empty-clause-lines c = count_all c.args.pieces.now c.in-Some.lines.now c.in-Some.last.now _ c.in-Some.ensures.cases.0 refl (search (rules, tests, arith))
