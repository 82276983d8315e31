use Rattle.std.proofs.Common.{◌≡◌, ◌-◌, drop, length}
use Rattle.tg_tree.specs.Paths.{path_body}
use Rattle.tg_tree.proofs.Loops.{goes}
use Rattle.tg_tree.proofs.path.is_body.Given as goal

abbrev pub invariant-loop-place : goal.invariant-loop-place
invariant-loop-place l = goes (length l.bytes - l.place) l.before (drop l.place l.bytes) ≡ (path_body (length l.bytes)).fits l.bytes
