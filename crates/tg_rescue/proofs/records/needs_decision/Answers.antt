use Rattle.std.proofs.Common.{ap, ◌∙◌}
use Rattle.tg_play.specs.Kept.{decisions_kept}
use Rattle.tg_rescue.proofs.Finding.{needs_told}
use Rattle.tg_rescue.proofs.records.needs_decision.Goals as goal

pub returns : goal.returns
returns c =
    needs_told c.args.entries.now _ c.args.at c.args.entry.now c.lacks_decision.result c.decision_at.result (c.in_ok-decisions.ensures ∙ ap decisions_kept c.as_slice.ensures.entries) c.decision_at.ensures c.lacks_decision.ensures
