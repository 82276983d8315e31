use Rattle.std.proofs.Common.{sym, ap, ◌∙◌, subst}
use Rattle.tg_protocol.specs.Checkpoints.{view_base}
use Rattle.tg_protocol.specs.Views.{Entries}
use Rattle.tg_play.proofs.Means.{means}
use Rattle.tg_ckpt.specs.Kept.{kept_base}
use Rattle.tg_ckpt.proofs.Telling.{view_keeps}
use Rattle.tg_ckpt.specs.Saving.{AreSpelled}
use Rattle.tg_ckpt.proofs.Lawful.{begun_lawful}
use Rattle.tg_ckpt.proofs.bases.view_base.Goals as goal

pub returns-clause-told : goal.returns-clause-told
returns-clause-told g c =
    view_keeps (means g.K.Kind g.K.Registry) c.args.objects.now c.args.gone.now c.args.oid c.args.entries.now c.in_ok-base.base
    (c.in_ok-base.ensures ∙ ap (λ (es : Entries). kept_base (means g.K.Kind g.K.Registry) (view_base (means g.K.Kind g.K.Registry) es c.args.gone.now c.args.objects.now c.args.oid)) c.as_slice.ensures.entries)

pub returns-clause-lawful : goal.returns-clause-lawful
returns-clause-lawful g c = λ h.
    begun_lawful (means g.K.Kind g.K.Registry) c.args.objects.now c.args.gone.now c.args.oid c.as_slice.result.now c.in_ok-base.base c.in_ok-base.ensures (subst AreSpelled (sym c.as_slice.ensures.entries) h)
