use Rattle.std.proofs.Common.{sym, ◌∙◌}
use Rattle.tg_play.proofs.Means.{means}
use Rattle.tg_play.proofs.Splitting.{on_ok}
use Rattle.tg_ckpt.specs.Kept.{kept_at}
use Rattle.tg_ckpt.proofs.Choices.{lower_unoffered, lower_taken, lower_kept}
use Rattle.tg_ckpt.proofs.Telling.{offers_told}
use Rattle.tg_ckpt.proofs.choosing.take_lower.Goals as goal

pub returns-in-None : goal.returns-in-None
returns-in-None g c =
    lower_unoffered c.args.below c.args.least.now (kept_at (means g.K.Kind g.K.Registry) c.args.oid c.args.entry.now) (offers_told (means g.K.Kind g.K.Registry) c.args.oid c.args.entry.now _ c.in-None.ensures)

pub returns-then-is_lower : goal.returns-then-is_lower
returns-then-is_lower g c =
    on_ok c.replace.result
    (λ h. h ∙ lower_taken c.args.below c.args.least.now (kept_at (means g.K.Kind g.K.Registry) c.args.oid c.args.entry.now) c.in-Some.upto (offers_told (means g.K.Kind g.K.Registry) c.args.oid c.args.entry.now _ c.in-Some.ensures) (sym c.is_lower.ensures ∙ c.if-is_lower.true))
    c.replace.ensures

pub returns-else-is_lower : goal.returns-else-is_lower
returns-else-is_lower g c =
    lower_kept c.args.below c.args.least.now (kept_at (means g.K.Kind g.K.Registry) c.args.oid c.args.entry.now) c.in-Some.upto (offers_told (means g.K.Kind g.K.Registry) c.args.oid c.args.entry.now _ c.in-Some.ensures) (sym c.is_lower.ensures ∙ c.if-is_lower.false)
