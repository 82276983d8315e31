use Rattle.std.proofs.Common.{◌≡◌, drop}
use Rattle.tg_protocol.specs.Checkpoints.{trim_of}
use Rattle.tg_past.proofs.bases.trim_of.Given as goal

abbrev pub invariant-loop-trim : goal.invariant-loop-trim
invariant-loop-trim l = trim_of (drop l.trim-index l.gone) l.oid ≡ trim_of l.gone l.oid
