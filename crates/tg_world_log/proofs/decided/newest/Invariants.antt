use Rattle.std.proofs.Common.{◌≡◌, drop}
use Rattle.tg_protocol.specs.Logs.{newest_among}
use Rattle.tg_world_log.proofs.decided.newest.Given as goal

abbrev pub invariant-loop-packet : goal.invariant-loop-packet
invariant-loop-packet l = newest_among l.packets l.layouts l.found (drop l.packet-index l.packets) ≡ newest_among l.packets l.layouts l.first l.packets
