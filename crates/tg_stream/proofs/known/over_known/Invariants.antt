use Rattle.std.proofs.Common.{◌≡◌, ℕ, Option}
use Rattle.tg_base.specs.Layouts.{Layout}
use Rattle.tg_protocol.specs.Cells.{CellJob}
use Rattle.tg_protocol.specs.Walking.{walk_from, walk_on}
use Rattle.tg_stream.specs.Walks.{walk_of}
use Rattle.tg_stream.proofs.known.over_known.Given as goal

abbrev pub invariant-loop-left : goal.invariant-loop-left
invariant-loop-left l = (p : Layout) (n : ℕ) (j : Option CellJob) → walk_from p n (walk_of l.fn.course j) ≡ walk_on p n l.left (walk_of l.course j)

abbrev pub decreases-loop-left : goal.decreases-loop-left
decreases-loop-left l = l.left
