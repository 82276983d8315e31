use Rattle.std.proofs.Common.{map, drop}
use Rattle.tg_protocol.specs.Past.{past_base}
use Rattle.tg_play.specs.Lawful.{AreLawfulBases}
use Rattle.tg_play.proofs.Means.{means}
use Rattle.tg_ckpt.specs.Saving.{AreSpelled}
use Rattle.tg_past.proofs.Beginning.{Begun}
use Rattle.tg_past.proofs.bases.past_bases.Given as goal

abbrev pub invariant-loop-oid : goal.invariant-loop-oid
invariant-loop-oid g l = record {
  bases : Begun (means g.K.Kind g.K.Registry) l.bases (map (past_base (means g.K.Kind g.K.Registry) l.entries l.gone l.objects l.pos) (drop l.oid-index l.oids))
      (map (past_base (means g.K.Kind g.K.Registry) l.entries l.gone l.objects l.pos) l.oids);
  lawful : AreSpelled l.entries → AreLawfulBases l.bases;
}
