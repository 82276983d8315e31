use Rattle.std.proofs.Common.{sym, ◌∙◌}
use Rattle.tg_play.proofs.Means.{means}
use Rattle.tg_play.proofs.Splitting.{if_ok}
use Rattle.tg_ckpt.proofs.Telling.{from_none, from_some}
use Rattle.tg_ckpt.proofs.bases.from_trim.Goals as goal

pub returns-in-None : goal.returns-in-None
returns-in-None g c =
    if_ok _ _ c.fresh.result (λ b is. from_none (means g.K.Kind g.K.Registry) c.args.objects.now c.args.oid c.args.below c.args.entries.now b (sym c.in-None.is ∙ c.in_ok-base.ensures) is) c.fresh.ensures

pub returns-in-Some : goal.returns-in-Some
returns-in-Some g c = from_some (means g.K.Kind g.K.Registry) c.args.objects.now c.args.oid c.args.below c.args.entries.now _ (sym c.in-Some.is ∙ c.in_ok-base.ensures)
