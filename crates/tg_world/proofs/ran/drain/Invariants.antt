use Rattle.std.proofs.Common.{◌≤◌, ◌-◌}
use Rattle.tg_play.proofs.Means.{means}
use Rattle.tg_protocol.specs.Worlds.{World}
use Rattle.tg_world.specs.Kept.{IsWorld, KeepsWorld}
use Rattle.tg_world.proofs.Draining.{Reached}
use Rattle.tg_world.proofs.ran.drain.Given as goal

abbrev pub invariant-loop-packet : goal.invariant-loop-packet
invariant-loop-packet g l = record {
  few : l.left.servers.steps ≤ 200000;
  kept : IsWorld (means g.K.Kind g.K.Registry) l.left;
  reached : (w : World (means g.K.Kind g.K.Registry)) → KeepsWorld (means g.K.Kind g.K.Registry) l.fn.world w → Reached (means g.K.Kind g.K.Registry) l.left w;
}

abbrev pub decreases-loop-packet : goal.decreases-loop-packet
decreases-loop-packet g l = 200000 - l.left.servers.steps
