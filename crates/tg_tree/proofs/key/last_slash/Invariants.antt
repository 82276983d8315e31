use Rattle.std.proofs.Common.{◌≡◌, drop}
use Rattle.tg_tree.specs.Paths.{last_slash}
use Rattle.tg_tree.proofs.Loops.{last_from}
use Rattle.tg_tree.proofs.key.last_slash.Given as goal

abbrev pub invariant-loop-place : goal.invariant-loop-place
invariant-loop-place l = last_from l.place l.last (drop l.place l.bytes) ≡ last_slash l.bytes
