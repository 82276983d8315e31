use Rattle.std.proofs.Common.{sym, ap, ◌∙◌}
use Rattle.tg_trace.specs.Reading.{is_above}
use Rattle.tg_trace.proofs.Slices.{above_last}
use Rattle.tg_trace.proofs.reading.is_above.Goals as goal

pub returns-in-Some : goal.returns-in-Some
returns-in-Some c =
    sym (ap (λ ds. is_above ds c.args.stamp) c.in-Some.ensures.cases.0 ∙ above_last c.in-Some.field-0-1.now c.in-Some.last.now c.args.stamp)
