-- Equality and order of objects, nodes and ballots, as tests.
use Rattle.std.specs.Prelude.{ℕ, Bool, ◌&&◌, ◌==◌, nat_lt, List, [], ◌∷◌, if◌then◌else◌}
use Rattle.std.specs.Ordering.{nat_cmp, ordering_then, is_lt}
use Rattle.std.specs.declared.cmp.Ordering.{Ordering}
use Rattle.tg_base.specs.declared.ids.Oid.{Oid}
use Rattle.tg_base.specs.declared.ids.Role.{Role}
use Rattle.tg_base.specs.declared.ids.Role.TheVariants.{Unit as UnitRole, Layout as LayoutRole, Seqr as SeqrRole, Client as ClientRole}
use Rattle.tg_base.specs.declared.ids.NodeId.{NodeId}
use Rattle.tg_base.specs.declared.ids.Ballot.{Ballot}

-- objects by number
abbrev pub oid_eq : Oid → Oid → Bool
oid_eq o p = o.0 == p.0

abbrev pub oid_lt : Oid → Oid → Bool
oid_lt o p = nat_lt o.0 p.0

abbrev pub oid_cmp : Oid → Oid → Ordering
oid_cmp o p = nat_cmp o.0 p.0

-- rising, each object once
abbrev pub with_oid : Oid → List Oid → List Oid
with_oid x [] = x ∷ []
with_oid x (y ∷ ys) = if oid_lt x y then x ∷ y ∷ ys else (if oid_eq x y then y ∷ ys else y ∷ with_oid x ys)

abbrev pub rising_oids : List Oid → List Oid
rising_oids [] = []
rising_oids (x ∷ xs) = with_oid x (rising_oids xs)

-- where a role stands
abbrev pub role_number : Role → ℕ
role_number UnitRole = 0
role_number LayoutRole = 1
role_number SeqrRole = 2
role_number ClientRole = 3

-- nodes by role, and then by number
unfoldable pub node_eq : NodeId → NodeId → Bool
node_eq m n = role_number m.role == role_number n.role && m.num == n.num

abbrev pub node_cmp : NodeId → NodeId → Ordering
node_cmp m n = ordering_then (nat_cmp (role_number m.role) (role_number n.role)) (nat_cmp m.num n.num)

abbrev pub node_lt : NodeId → NodeId → Bool
node_lt m n = is_lt (node_cmp m n)

-- ballots by round, and then by client
abbrev pub ballot_eq : Ballot → Ballot → Bool
ballot_eq a b = a.round == b.round && a.client == b.client

abbrev pub ballot_cmp : Ballot → Ballot → Ordering
ballot_cmp a b = ordering_then (nat_cmp a.round b.round) (nat_cmp a.client b.client)
