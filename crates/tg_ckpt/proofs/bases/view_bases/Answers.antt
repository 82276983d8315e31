use Rattle.std.proofs.Common.{map, sym, ap, ◌∙◌, subst}
use Rattle.tg_base.specs.declared.ids.Oid.{Oid}
use Rattle.tg_protocol.specs.Checkpoints.{view_base}
use Rattle.tg_protocol.specs.Views.{Entries}
use Rattle.tg_play.proofs.Means.{means}
use Rattle.tg_ckpt.specs.Kept.{kept_base}
use Rattle.tg_ckpt.proofs.Telling.{all_keep}
use Rattle.tg_ckpt.specs.Saving.{AreSpelled}
use Rattle.tg_ckpt.proofs.Lawful.{all_lawful}
use Rattle.tg_ckpt.proofs.bases.view_bases.Goals as goal

pub returns-clause-told : goal.returns-clause-told
returns-clause-told g c =
    all_keep (means g.K.Kind g.K.Registry) c.args.objects.now c.args.gone.now c.args.entries.now c.args.oids.now c.in_ok-bases.bases
    (c.in_ok-bases.ensures ∙ ap (λ (es : Entries). map (λ (o : Oid). kept_base (means g.K.Kind g.K.Registry) (view_base (means g.K.Kind g.K.Registry) es c.args.gone.now c.args.objects.now o)) c.args.oids.now) c.as_slice.ensures.entries)

pub returns-clause-lawful : goal.returns-clause-lawful
returns-clause-lawful g c = λ h.
    all_lawful (means g.K.Kind g.K.Registry) c.args.objects.now c.args.gone.now c.as_slice.result.now c.args.oids.now c.in_ok-bases.bases c.in_ok-bases.ensures (subst AreSpelled (sym c.as_slice.ensures.entries) h)
