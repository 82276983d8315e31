use Rattle.std.proofs.Common.{length}
use Rattle.tg_node.proofs.Writing.{Writing}
use Rattle.tg_node.proofs.replies.write_replies.Given as goal

abbrev pub invariant-loop-alloc : goal.invariant-loop-alloc
invariant-loop-alloc l = Writing l.event l.client l.initial.out l.initial.notes l.notes l.out

abbrev pub decreases-loop-alloc : goal.decreases-loop-alloc
decreases-loop-alloc l = length l.notes
