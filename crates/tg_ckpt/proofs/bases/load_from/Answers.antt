use Rattle.std.proofs.Common.{Some, sym, ap, ◌∙◌, subst, refl}
use Rattle.tg_protocol.specs.Views.{Entries}
use Rattle.tg_play.proofs.Means.{means}
use Rattle.tg_ckpt.specs.Kept.{lowest}
use Rattle.tg_ckpt.proofs.Telling.{load_keeps, load_none}
use Rattle.tg_ckpt.specs.Saving.{AreSpelled}
use Rattle.tg_ckpt.proofs.Lawful.{lowest_lawful}
use Rattle.tg_ckpt.proofs.bases.load_from.Goals as goal

pub returns-in-None-clause-told : goal.returns-in-None-clause-told
returns-in-None-clause-told g c = (
  refl,
  load_none (means g.K.Kind g.K.Registry) c.args.oid c.args.below c.args.entries.now
      (sym c.in-None.is ∙ c.in_ok-base.ensures ∙ ap (λ (es : Entries). lowest (means g.K.Kind g.K.Registry) c.args.oid c.args.below es) c.as_slice.ensures.entries),
)

pub returns-in-Some-clause-told : goal.returns-in-Some-clause-told
returns-in-Some-clause-told g c =
    load_keeps (means g.K.Kind g.K.Registry) c.args.oid c.args.below c.args.entries.now (Some c.in-Some.base)
    (sym c.in-Some.is ∙ c.in_ok-base.ensures ∙ ap (λ (es : Entries). lowest (means g.K.Kind g.K.Registry) c.args.oid c.args.below es) c.as_slice.ensures.entries)

pub returns-in-Some-clause-lawful : goal.returns-in-Some-clause-lawful
returns-in-Some-clause-lawful g c = λ h.
    lowest_lawful (means g.K.Kind g.K.Registry) c.args.oid c.args.below c.as_slice.result.now c.in-Some.base (sym c.in-Some.is ∙ c.in_ok-base.ensures)
    (subst AreSpelled (sym c.as_slice.ensures.entries) h)
