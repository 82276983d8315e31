-- Whether a message answers a request.
use Rattle.std.specs.Prelude.{ℕ, Bool, ◌&&◌, ◌==◌, [], ◌∷◌}
use Rattle.std.specs.List.{list_any}
use Rattle.tg_base.specs.declared.ids.NodeId.{NodeId}
use Rattle.tg_base.specs.declared.ids.Role.{Role}
use Rattle.tg_base.specs.declared.msg.Msg.TheVariants as msg
use Rattle.tg_protocol.specs.Requests.{Waits, out, awaits}
use Rattle.tg_base.specs.Orders.{node_eq}

-- a message from a node under a number answers the request of this number to this node, whatever that asks
abbrev pub is_answer : NodeId → ℕ → NodeId → ℕ → Bool
is_answer to rid from number = awaits (out to rid msg.AskLatest ∷ []) from number

-- a message from this node with this number answers one of the requests to nodes of this role
abbrev pub waits_on : Role → Waits → NodeId → ℕ → Bool
waits_on r waits from rid = list_any (λ (w : ℕ × ℕ). node_eq (record { role = r; num = w.0 }) from && (w.1 == rid)) waits
