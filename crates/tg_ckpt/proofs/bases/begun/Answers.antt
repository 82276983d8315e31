use Rattle.tg_play.proofs.Means.{means}
use Rattle.tg_play.proofs.Splitting.{if_ok}
use Rattle.tg_ckpt.proofs.Telling.{view_none, view_some}
use Rattle.tg_ckpt.proofs.bases.begun.Goals as goal

pub returns-in-None : goal.returns-in-None
returns-in-None g c =
    if_ok _ _ c.fresh.result (λ b is. view_none (means g.K.Kind g.K.Registry) c.args.objects.now c.args.gone.now c.args.oid c.args.entries.now b c.in-None.ensures is) c.fresh.ensures

pub returns-in-Some : goal.returns-in-Some
returns-in-Some g c =
    if_ok _ _ c.from_trim.result (λ b is. view_some (means g.K.Kind g.K.Registry) c.args.objects.now c.args.gone.now c.args.oid c.args.entries.now b c.in-Some.below c.in-Some.ensures is) c.from_trim.ensures
