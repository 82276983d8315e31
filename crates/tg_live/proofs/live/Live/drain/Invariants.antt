use Rattle.std.proofs.Common.{◌≡◌, ◌≤◌, ◌-◌, length}
use Rattle.tg_base.specs.Clusters.{Header}
use Rattle.tg_io.specs.Faults.{StaysSure}
use Rattle.tg_live.specs.Lives.{Live}
use Rattle.tg_live.specs.Kept.{IsSound, Keeps}
use Rattle.tg_live.proofs.Parts.{Drains}
use Rattle.tg_live.specs.Sends.{Carried, carried}
use Rattle.tg_live.proofs.live.Live.drain.Given as goal

abbrev pub invariant-datagrams : goal.invariant-datagrams
invariant-datagrams g l = record {
  drains : (h : Header) (first : Carried) (k : Live) → Keeps h first (carried (g.L.Link.sent l.fn.link) (g.L.Link.acts l.fn.link)) l.fn.self k → Drains h first k (carried (g.L.Link.sent l.link) (g.L.Link.acts l.link)) (g.L.Link.handed l.fn.link) (g.L.Link.handed l.link) l.live;
  kept : IsSound l.live.world l.live.recording;
  buffer : length l.buffer ≡ 8192;
  still : g.L.Link.faults l.link ≡ g.L.Link.faults l.fn.link;
  later : g.L.Link.faults l.fn.link ≤ g.L.Link.faults l.link;
  sure : StaysSure (g.L.Link.sure l.fn.link) (g.L.Link.sure l.link) (g.L.Link.faults l.fn.link) (g.L.Link.faults l.link);
}

abbrev pub decreases-datagrams : goal.decreases-datagrams
decreases-datagrams g l = 1000000 - l.live.received
