use Rattle.std.proofs.Common.{◌-◌, ◌≤◌, length}
use Rattle.tg_world_servers.specs.Waits.{first_open}
use Rattle.tg_world_servers.proofs.waiting.next_open.Given as goal

abbrev pub invariant-loop-first : goal.invariant-loop-first
invariant-loop-first l = l.first ≤ first_open l.waits

abbrev pub decreases-loop-first : goal.decreases-loop-first
decreases-loop-first l = length l.waits - l.first
