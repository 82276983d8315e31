use Rattle.std.proofs.Common.{◌≡◌, ◌≤◌, ◌-◌}
use Rattle.tg_world.specs.Kept.{KeepsWorld}
use Rattle.tg_any.specs.AllKinds.{all_kinds}
use Rattle.tg_replay.specs.Runs.{Worlds}
use Rattle.space_time.specs.Records.{IsRecorded}
use Rattle.space_time.proofs.Draining.{Reached}
use Rattle.space_time.proofs.going.drain.Given as goal

abbrev pub invariant-loop-packet : goal.invariant-loop-packet
invariant-loop-packet l = record {
  few : l.left.run.world.servers.steps ≤ 200000;
  recorded : IsRecorded l.left;
  reached : (w : Worlds) → KeepsWorld all_kinds l.fn.recording.run.world w → Reached all_kinds l.left.run.world w;
  cluster : l.left.run.cluster ≡ l.fn.recording.run.cluster;
  events : l.left.run.world.event ≡ l.fn.recording.run.world.event;
}

abbrev pub decreases-loop-packet : goal.decreases-loop-packet
decreases-loop-packet l = 200000 - l.left.run.world.servers.steps
