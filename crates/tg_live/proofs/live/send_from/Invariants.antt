use Rattle.std.proofs.Common.{◌≡◌, ◌≤◌, length, take}
use Rattle.tg_io.specs.Faults.{StaysSure}
use Rattle.tg_protocol.specs.Worlds.{World}
use Rattle.tg_any.specs.AllKinds.{all_kinds}
use Rattle.tg_world.specs.Kept.{KeepsWorld}
use Rattle.tg_live.specs.Sends.{carried, AreFit, AreSent}
use Rattle.tg_live.proofs.live.send_from.Given as goal

abbrev pub invariant-loop-number : goal.invariant-loop-number
invariant-loop-number g l = record {
  sent : (w : World all_kinds) → KeepsWorld all_kinds l.world w → l.fn.from ≤ length w.packets → AreFit (take l.fn.from w.packets) → AreSent w.packets l.fn.from l.number l.fn.book l.book (carried (g.L.Link.sent l.fn.link) (g.L.Link.acts l.fn.link)) (carried (g.L.Link.sent l.link) (g.L.Link.acts l.link));
  handed : g.L.Link.handed l.link ≡ g.L.Link.handed l.fn.link;
  still : g.L.Link.faults l.link ≡ g.L.Link.faults l.fn.link;
  later : g.L.Link.faults l.fn.link ≤ g.L.Link.faults l.link;
  sure : StaysSure (g.L.Link.sure l.fn.link) (g.L.Link.sure l.link) (g.L.Link.faults l.fn.link) (g.L.Link.faults l.link);
}
