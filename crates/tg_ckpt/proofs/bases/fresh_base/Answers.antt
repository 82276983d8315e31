use Rattle.tg_play.proofs.Means.{means}
use Rattle.tg_ckpt.proofs.Telling.{fresh_keeps}
use Rattle.tg_ckpt.proofs.Lawful.{fresh_lawful}
use Rattle.tg_ckpt.proofs.bases.fresh_base.Goals as goal

pub returns-clause-told : goal.returns-clause-told
returns-clause-told g c = fresh_keeps (means g.K.Kind g.K.Registry) c.args.objects.now c.args.oid _ c.in_ok-base.ensures

pub returns-clause-lawful : goal.returns-clause-lawful
returns-clause-lawful g c = fresh_lawful (means g.K.Kind g.K.Registry) c.args.objects.now c.args.oid _ c.in_ok-base.ensures
