-- Which messages answer the requests to the units.
use Rattle.std.proofs.Common.{◌≡◌, ℕ, ◌&&◌, ◌||◌, ◌==◌, [], ◌∷◌, refl, ap}
use Rattle.tg_base.specs.declared.ids.NodeId.{NodeId}
use Rattle.tg_base.specs.declared.ids.Role.TheVariants as role
use Rattle.tg_base.specs.declared.msg.Msg.{Msg}
use Rattle.tg_base.specs.Orders.{node_eq}
use Rattle.tg_protocol.specs.Words.{unit_id}
use Rattle.tg_protocol.specs.Requests.{Waits, asked_of, awaits}
use Rattle.tg_chain.specs.Waits.{waits_on}

pub units_await : (m : Msg) (ws : Waits) (from : NodeId) (rid : ℕ) → waits_on role.Unit ws from rid ≡ awaits (asked_of unit_id m ws) from rid
units_await m [] from rid = refl
units_await m (w ∷ ws) from rid = ap (λ b. (node_eq (unit_id w.0) from && (w.1 == rid)) || b) (units_await m ws from rid)
