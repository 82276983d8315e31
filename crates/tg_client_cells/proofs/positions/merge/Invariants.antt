use Rattle.std.proofs.Common.{◌≡◌, ◌+◌, ◌++◌, true, length}
use Rattle.tg_protocol.specs.Words.{with_nums}
use Rattle.tg_client_cells.specs.Words.{rises}
use Rattle.tg_client_cells.proofs.positions.merge.Given as goal

abbrev pub invariant-loop-pos : goal.invariant-loop-pos
invariant-loop-pos l = record {
  left : rises l.left ≡ true;
  right : rises l.right ≡ true;
  both : l.both.items ++ with_nums l.right l.left ≡ l.fn.both.items ++ with_nums l.others l.list;
}

abbrev pub decreases-loop-pos : goal.decreases-loop-pos
decreases-loop-pos l = length l.left + length l.right
