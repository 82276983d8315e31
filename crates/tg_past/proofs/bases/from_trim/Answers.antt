use Rattle.tg_play.proofs.Means.{means}
use Rattle.tg_play.proofs.Splitting.{if_ok}
use Rattle.tg_past.proofs.Beginning.{unreached_base, reached_base}
use Rattle.tg_past.proofs.Lawful.{lawful_some}
use Rattle.tg_past.proofs.bases.from_trim.Goals as goal

pub returns-in-None-clause-told : goal.returns-in-None-clause-told
returns-in-None-clause-told g c =
    if_ok _ _ c.view_base.result
    (λ x k. unreached_base (means g.K.Kind g.K.Registry) c.args.entries.now c.args.gone.now c.args.objects.now c.args.pos c.args.oid c.args.below c.in_ok-base.base x c.requires.trimmed c.in_ok-base.ensures.told c.in-None.is k)
    c.view_base.ensures.told

pub returns-in-Some-clause-told : goal.returns-in-Some-clause-told
returns-in-Some-clause-told g c =
    reached_base (means g.K.Kind g.K.Registry) c.args.entries.now c.args.gone.now c.args.objects.now c.args.pos c.args.oid c.args.below c.in_ok-base.base c.in-Some.base c.requires.trimmed c.in_ok-base.ensures.told c.in-Some.is

pub returns-in-Some-clause-lawful : goal.returns-in-Some-clause-lawful
returns-in-Some-clause-lawful g c = λ h. lawful_some c.in_ok-base.base c.in-Some.base c.in-Some.is (c.in_ok-base.ensures.lawful h)
