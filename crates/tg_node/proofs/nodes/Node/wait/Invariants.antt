use Rattle.std.proofs.Common.{◌≡◌}
use Rattle.tg_io.specs.Faults.{StaysSure}
use Rattle.tg_node.specs.Steps.{Waits}
use Rattle.tg_node.proofs.nodes.Node.wait.Given as goal

abbrev pub invariant-loop-call : goal.invariant-loop-call
invariant-loop-call g l = record {
  waits : Waits l.fn.place l._call (g.L.Link.handed l.fn.link) l.fn.self (g.L.Link.sent l.fn.link) l.node (g.L.Link.handed l.link) (g.L.Link.sent l.link) (g.L.Link.acts l.fn.link) (g.L.Link.acts l.link);
  still : g.L.Link.faults l.link ≡ g.L.Link.faults l.fn.link;
  sure : StaysSure (g.L.Link.sure l.fn.link) (g.L.Link.sure l.link) (g.L.Link.faults l.fn.link) (g.L.Link.faults l.link);
}
