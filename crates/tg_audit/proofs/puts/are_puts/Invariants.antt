use Rattle.std.proofs.Common.{◌≡◌, drop}
use Rattle.tg_model.specs.Traces.{puts_of}
use Rattle.tg_audit.specs.Judging.{are_same}
use Rattle.tg_audit.proofs.Means.{means}
use Rattle.tg_audit.proofs.puts.are_puts.Given as goal

abbrev pub invariant-loop-mark : goal.invariant-loop-mark
invariant-loop-mark g l =
    are_same (means g.K.Kind g.K.Registry) g.K.Judged.same_ops l.left (puts_of (means g.K.Kind g.K.Registry) (drop l.mark-index l.trace) l.client l.tx)
    ≡ are_same (means g.K.Kind g.K.Registry) g.K.Judged.same_ops l.writes (puts_of (means g.K.Kind g.K.Registry) l.trace l.client l.tx)
