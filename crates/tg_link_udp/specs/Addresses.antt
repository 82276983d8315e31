-- The addresses of nodes on this machine.
use Rattle.std.specs.Prelude.{◌≡◌, ℕ, [], ◌∷◌, IsTrue}
use Rattle.std.specs.Net.Addr.{ipv4_octets, IsV4And}
use Rattle.std.specs.Net.Socket.{socket_ip, socket_port}
use Rattle.std.specs.declared.net.socket_addr.SocketAddr.{SocketAddr}
use Rattle.tg_link_udp.specs.Ports.{is_port}

-- 127.0.0.1, and a port
abbrev pub IsHere : SocketAddr → ℕ → Type 0
IsHere a port = IsV4And (socket_ip a) (λ ip. ipv4_octets ip ≡ 127 ∷ 0 ∷ 0 ∷ 1 ∷ []) × (socket_port a ≡ port)

-- this machine's, with a port that a node of some cluster may have
abbrev pub IsOfNode : SocketAddr → Type 0
IsOfNode a = IsHere a (socket_port a) × IsTrue (is_port (socket_port a))
