use Rattle.std.proofs.Common.{◌≡◌, length}
use Rattle.tg_io.specs.Faults.{StaysSure}
use Rattle.tg_link_packets.proofs.Outgoing.{Sending}
use Rattle.tg_link_packets.proofs.sending.send_all.Given as goal

abbrev pub invariant-loop-alloc : goal.invariant-loop-alloc
invariant-loop-alloc g l = record {
  sent : Sending (record { sent = g.L.Link.sent l.fn.link; acts = g.L.Link.acts l.fn.link }) l.fn.node l.fn.outs l.outs (record { sent = g.L.Link.sent l.link; acts = g.L.Link.acts l.link });
  handed : g.L.Link.handed l.link ≡ g.L.Link.handed l.fn.link;
  still : g.L.Link.faults l.link ≡ g.L.Link.faults l.fn.link;
  sure : StaysSure (g.L.Link.sure l.fn.link) (g.L.Link.sure l.link) (g.L.Link.faults l.fn.link) (g.L.Link.faults l.link);
}

abbrev pub decreases-loop-alloc : goal.decreases-loop-alloc
decreases-loop-alloc g l = length l.outs
