use Rattle.std.proofs.Common.{sym, ap, ◌∙◌, subst}
use Rattle.tg_protocol.specs.Views.{Entries}
use Rattle.tg_play.proofs.Means.{means}
use Rattle.tg_ckpt.specs.Kept.{highest}
use Rattle.tg_ckpt.proofs.Telling.{last_keeps}
use Rattle.tg_ckpt.specs.Saving.{AreSpelled}
use Rattle.tg_ckpt.proofs.Lawful.{last_lawful_kept}
use Rattle.tg_ckpt.proofs.bases.last_base.Goals as goal

pub returns-clause-told : goal.returns-clause-told
returns-clause-told g c =
    last_keeps (means g.K.Kind g.K.Registry) c.args.oid c.args.below c.args.pos c.args.entries.now c.in_ok-base.base
    (c.in_ok-base.ensures ∙ ap (λ (es : Entries). highest (means g.K.Kind g.K.Registry) c.args.oid c.args.below c.args.pos es) c.as_slice.ensures.entries)

pub returns-clause-lawful : goal.returns-clause-lawful
returns-clause-lawful g c = λ h.
    last_lawful_kept (means g.K.Kind g.K.Registry) c.args.oid c.args.below c.args.pos c.as_slice.result.now c.in_ok-base.base c.in_ok-base.ensures (subst AreSpelled (sym c.as_slice.ensures.entries) h)
