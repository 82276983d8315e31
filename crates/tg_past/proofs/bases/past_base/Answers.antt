use Rattle.tg_play.proofs.Means.{means}
use Rattle.tg_play.proofs.Splitting.{if_ok}
use Rattle.tg_past.proofs.Beginning.{untrimmed_base}
use Rattle.tg_past.proofs.bases.past_base.Goals as goal

pub returns-in-None-clause-told : goal.returns-in-None-clause-told
returns-in-None-clause-told g c =
    if_ok _ _ c.fresh_base.result (λ b k. untrimmed_base (means g.K.Kind g.K.Registry) c.args.entries.now c.args.gone.now c.args.objects.now c.args.pos c.args.oid b c.in-None.ensures k) c.fresh_base.ensures.told
