use Rattle.std.proofs.Common.{sym, ◌∙◌}
use Rattle.tg_play.proofs.Means.{means}
use Rattle.tg_play.proofs.Splitting.{on_ok}
use Rattle.tg_ckpt.specs.Kept.{kept_at}
use Rattle.tg_ckpt.proofs.Choices.{higher_unoffered, higher_taken, higher_kept}
use Rattle.tg_ckpt.proofs.Telling.{offers_told}
use Rattle.tg_ckpt.proofs.choosing.take_higher.Goals as goal

pub returns-in-None : goal.returns-in-None
returns-in-None g c =
    higher_unoffered c.args.below c.args.high c.args.greatest.now (kept_at (means g.K.Kind g.K.Registry) c.args.oid c.args.entry.now) (offers_told (means g.K.Kind g.K.Registry) c.args.oid c.args.entry.now _ c.in-None.ensures)

pub returns-then-is_higher : goal.returns-then-is_higher
returns-then-is_higher g c =
    on_ok c.replace.result
    (λ h. h ∙ higher_taken c.args.below c.args.high c.args.greatest.now (kept_at (means g.K.Kind g.K.Registry) c.args.oid c.args.entry.now) c.in-Some.upto (offers_told (means g.K.Kind g.K.Registry) c.args.oid c.args.entry.now _ c.in-Some.ensures) (sym c.is_higher.ensures ∙ c.if-is_higher.true))
    c.replace.ensures

pub returns-else-is_higher : goal.returns-else-is_higher
returns-else-is_higher g c =
    higher_kept c.args.below c.args.high c.args.greatest.now (kept_at (means g.K.Kind g.K.Registry) c.args.oid c.args.entry.now) c.in-Some.upto (offers_told (means g.K.Kind g.K.Registry) c.args.oid c.args.entry.now _ c.in-Some.ensures) (sym c.is_higher.ensures ∙ c.if-is_higher.false)
