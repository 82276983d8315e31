-- A step comes to the end of one client's walks at most.
use Rattle.std.proofs.Common.{◌≡◌, ℕ, Bool, true, false, refl, sym, ap, ◌∙◌, Some, None, Option}
use Rattle.std.specs.Prelude.{◌&&◌, slice_get, if◌then◌else◌}
use Rattle.tg_base.specs.Orders.{node_eq}
use Rattle.tg_base.specs.declared.ids.NodeId.{NodeId}
use Rattle.tg_base.specs.declared.packet.Packet.{Packet}
use Rattle.tg_kind.specs.Meaning.{Meaning}
use Rattle.tg_model.specs.Kinds.{EventOf}
use Rattle.tg_model.specs.declared.command.Event.TheVariants.{Command as Commands, Deliver, Lose, Tick, Stop}
use Rattle.tg_protocol.specs.Words.{client_id}
use Rattle.tg_protocol.specs.Replies.{reply}
use Rattle.tg_protocol.specs.Walked.{Walked, work_end, packet_end, walked_in}
use Rattle.tg_protocol.specs.Worlds.{World, client, runs}
use Rattle.tg_law_replies.proofs.History.Members.{and_both}
use Rattle.tg_law_replies.proofs.Replies.Reached.{same_node}

module _ (m : Meaning) (w : World m) where
  none_some : {X : Type 0} (x : X) → None ≡ Some x → ⊥
  none_some x e = cc

  of_packet : (k : ℕ) (y : Walked m) (x : Packet) → packet_end m w k (Some x) ≡ Some y → x.to ≡ client_id k
  of_packet k y x is = by (node_eq x.to (client_id k) && runs m w x.to) refl is
    where
      by : (b : Bool) → (node_eq x.to (client_id k) && runs m w x.to) ≡ b → (if b then work_end m (client m w k) (client m w k).work x.from x.rid (reply x.msg) else None) ≡ Some y → x.to ≡ client_id k
      by false t e = absurd (none_some y e)
      by true t e = same_node x.to (client_id k) (and_both (node_eq x.to (client_id k)) (runs m w x.to) t).0

  one_packet : (k n : ℕ) (y z : Walked m) (o : Option Packet) → packet_end m w k o ≡ Some y → packet_end m w n o ≡ Some z → k ≡ n
  one_packet k n y z None a b = absurd (none_some y a)
  one_packet k n y z (Some x) a b = ap (λ (i : NodeId). i.num) (sym (of_packet k y x a) ∙ of_packet n z x b)

  one_client : (e : EventOf m) (k n : ℕ) (y z : Walked m) → walked_in m w e k ≡ Some y → walked_in m w e n ≡ Some z → k ≡ n
  one_client (Deliver i) k n y z a b = one_packet k n y z (slice_get w.packets i) a b
  one_client (Commands j x) k n y z a b = absurd (none_some y a)
  one_client (Lose i) k n y z a b = absurd (none_some y a)
  one_client (Tick j) k n y z a b = absurd (none_some y a)
  one_client (Stop j) k n y z a b = absurd (none_some y a)

  some_is : (y z : Walked m) → Some y ≡ Some z → y ≡ z
  some_is y z e = cc

  pub one_end : (e : EventOf m) (k n : ℕ) (y z : Walked m) → walked_in m w e k ≡ Some y → walked_in m w e n ≡ Some z → y ≡ z
  one_end e k n y z a b = some_is y z (sym a ∙ (ap (λ (i : ℕ). walked_in m w e i) (one_client e k n y z a b) ∙ b))
