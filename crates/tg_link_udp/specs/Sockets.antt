-- The sockets of a link's nodes.
use Rattle.std.specs.Prelude.{◌≡◌, ℕ, ◌+◌, ◌-◌, ◌^◌, min, map, List, [], ◌∷◌, slice_get, Option, Some, None, if◌then◌else◌}
use Rattle.std.specs.declared.net.udp.UdpSocket.{UdpSocket}
use Rattle.tg_base.specs.Orders.{node_eq}
use Rattle.tg_base.specs.declared.ids.NodeId.{NodeId}
use Rattle.tg_link_udp.specs.declared.link.Port.{Port}

-- a node sends from its own socket
abbrev pub socket_of : List Port → NodeId → Option UdpSocket
socket_of [] n = None
socket_of (p ∷ ports) n = if node_eq p.node n then Some p.socket else socket_of ports n

-- a datagram came to the node whose port stands before this place
abbrev pub IsPortAt : List Port → ℕ → NodeId → Type 0
IsPortAt ports next n = (place : ℕ) × (p : Port) × (next ≡ place + 1) × (slice_get ports place ≡ Some p) × (p.node ≡ n)

-- a datagram was sent to a node; a count ends at 64 bits
abbrev pub sent_to : NodeId → Port → Port
sent_to n p = if node_eq p.node n then record p { due = min (p.due + 1) (2 ^ 64 - 1) } else p

-- a datagram has come to a node
abbrev pub come_to : NodeId → Port → Port
come_to n p = if node_eq p.node n then record p { due = p.due - 1 } else p
