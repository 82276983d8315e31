use Rattle.std.proofs.Common.{◌∙◌, ap}
use Rattle.tg_any.specs.Words.{texts}
use Rattle.tests_texts.specs.Texts.{whole_lines}
use Rattle.tests_texts.proofs.Printed.{script_prints}
use Rattle.tests_texts.proofs.scripts.script_again.Goals as goal

pub returns : goal.returns
returns c =
    script_prints c.args.text.now (texts c.whole_lines.result.now) c.lines_again.result
    (c.whole_lines.ensures ∙ ap (λ items. whole_lines (texts items)) c.as_slice.ensures.value ∙ ap whole_lines c.in_ok-pieces.ensures) c.lines_again.ensures.script c.lines_again.ensures.printed c.lines_again.ensures.outside
