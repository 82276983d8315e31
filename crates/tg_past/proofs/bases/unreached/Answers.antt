use Rattle.tg_protocol.specs.Past.{last_base}
use Rattle.tg_play.proofs.Means.{means}
use Rattle.tg_past.proofs.Beginning.{given, reached_none, reached_some}
use Rattle.tg_past.proofs.bases.unreached.Goals as goal
use Rattle.tg_past.proofs.bases.unreached.Goals.{in-None, in-Some}

pub returns : goal.returns
returns g c = elim c.match-base.branch [
  | in-None w ↦
      given _ c.match-base.result _ w.result-is
      (reached_none (means g.K.Kind g.K.Registry) (last_base (means g.K.Kind g.K.Registry) c.args.entries.now c.args.oid c.args.below c.args.pos) c.in_ok-base.base c.args.below c.in_ok-base.ensures.told w.in-None.is)
  | in-Some w ↦
      given _ c.match-base.result _ w.result-is
      (reached_some (means g.K.Kind g.K.Registry) (last_base (means g.K.Kind g.K.Registry) c.args.entries.now c.args.oid c.args.below c.args.pos) c.in_ok-base.base _ c.args.below c.in_ok-base.ensures.told w.in-Some.is)
]
