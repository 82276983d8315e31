use Rattle.std.proofs.Common.{◌≡◌, replicate}
use Rattle.tg_protocol.specs.LayoutServers.{new_layout}
use Rattle.tg_world_servers.proofs.starts.new_layouts.Given as goal

abbrev pub invariant-loop-num : goal.invariant-loop-num
invariant-loop-num l = l.layouts.items ≡ replicate l._num (new_layout l.first)
