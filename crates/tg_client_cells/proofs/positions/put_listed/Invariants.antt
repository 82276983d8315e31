use Rattle.std.proofs.Common.{◌≡◌, true, drop}
use Rattle.tg_protocol.specs.Words.{with_nums}
use Rattle.tg_client_cells.specs.Words.{rises}
use Rattle.tg_client_cells.proofs.positions.put_listed.Given as goal

abbrev pub invariant-loop-pos : goal.invariant-loop-pos
invariant-loop-pos l = record {
  put : with_nums (drop l.pos-index l.positions) l.list.items ≡ with_nums l.positions l.fn.list.items;
  rises : rises l.list.items ≡ true;
}
