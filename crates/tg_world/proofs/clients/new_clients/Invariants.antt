use Rattle.std.proofs.Common.{◌≡◌, map, length}
use Rattle.tg_play.proofs.Means.{means}
use Rattle.tg_protocol.specs.Words.{numbers}
use Rattle.tg_protocol.specs.Clients.{new_client}
use Rattle.tg_world.specs.Clients.{KeepsClients}
use Rattle.tg_world.proofs.clients.new_clients.Given as goal

abbrev pub invariant-loop-num : goal.invariant-loop-num
invariant-loop-num g l = record {
  keeps : KeepsClients (means g.K.Kind g.K.Registry) l.clients.items (map (new_client (means g.K.Kind g.K.Registry) l.cluster) (numbers l.num 0));
  many : length l.clients.items ≡ l.num;
}
