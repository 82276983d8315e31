-- The ports of nodes on this machine.
use Rattle.std.specs.Prelude.{ℕ, ◌+◌, ◌*◌, Bool, ◌&&◌, ◌||◌, nat_lt, nat_le, List, [], ◌∷◌, Option, Some, None, if◌then◌else◌}
use Rattle.tg_base.specs.Orders.{role_number, node_eq}
use Rattle.tg_base.specs.declared.ids.NodeId.{NodeId}
use Rattle.tg_base.specs.declared.ids.Role.{Role}
use Rattle.tg_base.specs.declared.ids.Role.TheVariants as role

-- how many nodes of a role a cluster may have
abbrev pub most : Role → ℕ
most role.Unit = 64
most role.Layout = 7
most role.Seqr = 16
most role.Client = 32

-- by role, and then by number
abbrev pub port_of : NodeId → ℕ
port_of n = 42000 + 64 * role_number n.role + n.num

-- the port of a node, if a cluster may have it
abbrev pub port_in : NodeId → Option ℕ
port_in n = if nat_lt n.num (most n.role) then Some (port_of n) else None

abbrev pub is_from : ℕ → ℕ → ℕ → Bool
is_from low count p = nat_le low p && nat_lt p (low + count)

-- a node of a role may have this port
abbrev pub is_port_of : Role → ℕ → Bool
is_port_of r p = is_from (42000 + 64 * role_number r) (most r) p

abbrev pub is_port : ℕ → Bool
is_port p = is_port_of role.Unit p || is_port_of role.Layout p || is_port_of role.Seqr p || is_port_of role.Client p
