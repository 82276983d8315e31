use Rattle.std.proofs.Common.{◌≡◌, ◌≤◌}
use Rattle.tg_protocol.specs.Logs.{acceptances}
use Rattle.tg_world_log.proofs.decided.acceptances.Given as goal

abbrev pub invariant-loop-server : goal.invariant-loop-server
invariant-loop-server l = record {
  count : l.count ≡ acceptances l.packets l.epoch l.ballot l.server;
  most : l.count ≤ l.server;
}
