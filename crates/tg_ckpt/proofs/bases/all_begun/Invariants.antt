use Rattle.std.proofs.Common.{◌≡◌, ◌++◌, map, drop}
use Rattle.tg_base.specs.declared.ids.Oid.{Oid}
use Rattle.tg_protocol.specs.Checkpoints.{view_base}
use Rattle.tg_play.proofs.Means.{means}
use Rattle.tg_ckpt.specs.Kept.{kept_base}
use Rattle.tg_ckpt.proofs.bases.all_begun.Given as goal

abbrev pub invariant-loop-oid : goal.invariant-loop-oid
invariant-loop-oid g l =
    l.bases ++ map (λ (o : Oid). kept_base (means g.K.Kind g.K.Registry) (view_base (means g.K.Kind g.K.Registry) l.entries l.gone l.objects o)) (drop l.oid-index l.oids)
    ≡ map (λ (o : Oid). kept_base (means g.K.Kind g.K.Registry) (view_base (means g.K.Kind g.K.Registry) l.entries l.gone l.objects o)) l.oids
