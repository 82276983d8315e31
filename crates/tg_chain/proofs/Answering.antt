-- Which messages answer a request.
use Rattle.std.proofs.Common.{◌≡◌, ℕ, Bool, true, false, ◌&&◌, ◌||◌, ◌==◌, [], ◌∷◌, refl, ap, sym, ◌∙◌}
use Rattle.tg_base.specs.Orders.{node_eq}
use Rattle.tg_base.specs.declared.ids.NodeId.{NodeId}
use Rattle.tg_base.specs.declared.ids.Role.TheVariants as role
use Rattle.tg_base.specs.declared.msg.Msg.{Msg}
use Rattle.tg_protocol.specs.Requests.{awaits, Waits, asked_of}
use Rattle.tg_protocol.specs.Words.{unit_id}
use Rattle.tg_chain.specs.Waits.{is_answer, waits_on}

or_false : (b : Bool) → (b || false) ≡ b
or_false true = refl
or_false false = refl

pub answers_one : (to from : NodeId) (rid number : ℕ) → (node_eq to from && (rid == number)) ≡ is_answer to rid from number
answers_one to from rid number = sym (or_false (node_eq to from && (rid == number)))

pub awaits_each : (m : Msg) (ws : Waits) (from : NodeId) (rid : ℕ) → waits_on role.Unit ws from rid ≡ awaits (asked_of unit_id m ws) from rid
awaits_each m [] from rid = refl
awaits_each m (w ∷ ws) from rid = ap (λ b. (node_eq (unit_id w.0) from && (w.1 == rid)) || b) (awaits_each m ws from rid)
