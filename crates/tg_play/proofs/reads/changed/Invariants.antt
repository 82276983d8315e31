use Rattle.std.proofs.Common.{◌≡◌, drop}
use Rattle.tg_protocol.specs.Views.{View, version_at}
use Rattle.tg_vers.specs.Kept.{first_other}
use Rattle.tg_vers.proofs.Firsts.{moved}
use Rattle.tg_play.specs.Relations.{KeepsObjects}
use Rattle.tg_play.proofs.Means.{means}
use Rattle.tg_play.proofs.reads.changed.Given as goal

abbrev pub invariant-loop-index : goal.invariant-loop-index
invariant-loop-index g l =
    (v : View (means g.K.Kind g.K.Registry)) → KeepsObjects (means g.K.Kind g.K.Registry) l.objects.entries v →
    moved l.index (first_other (version_at (means g.K.Kind g.K.Registry) v l.pos) (drop l.index l.reads)) ≡ first_other (version_at (means g.K.Kind g.K.Registry) v l.pos) l.reads
