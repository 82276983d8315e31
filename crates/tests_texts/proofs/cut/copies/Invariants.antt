use Rattle.std.proofs.Common.{◌≡◌, take}
use Rattle.tg_any.specs.Words.{texts}
use Rattle.tests_texts.proofs.cut.copies.Given as goal

abbrev pub invariant-loop-line : goal.invariant-loop-line
invariant-loop-line l = l.copies ≡ texts (take l.line-index l.lines)
