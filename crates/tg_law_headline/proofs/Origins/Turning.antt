-- Which client turns in a step of a world, and what it is handed.
use Rattle.std.proofs.Common.{◌≡◌, ◌⊎◌, ℕ, ◌<◌, length, Bool, true, false, refl, ap, ◌∙◌, inl, inr, Option, Some, None, is_some}
use Rattle.std.specs.Prelude.{◌==◌, slice_get, slice_set, slice_index_or, if◌then◌else◌}
use Rattle.tg_base.specs.Orders.{node_eq, role_number}
use Rattle.tg_base.specs.declared.ids.NodeId.{NodeId}
use Rattle.tg_base.specs.declared.ids.Role.{Role}
use Rattle.tg_base.specs.declared.ids.Role.TheVariants as role
use Rattle.tg_base.specs.declared.packet.Packet.{Packet}
use Rattle.tg_kind.specs.Meaning.{Meaning}
use Rattle.tg_model.specs.declared.command.Event.TheVariants.{Command as Commands, Deliver, Lose, Tick, Stop}
use Rattle.tg_model.specs.Kinds.{CommandOf, EventOf}
use Rattle.tg_protocol.specs.Words.{client_id}
use Rattle.tg_protocol.specs.Replies.{reply}
use Rattle.tg_protocol.specs.Clients.{Client, new_client}
use Rattle.tg_protocol.specs.ClientSteps.{ClientTurn, client_command, client_deliver, client_tick}
use Rattle.tg_protocol.specs.Walked.{work_end, packet_end, walked_in}
use Rattle.tg_protocol.specs.Worlds.{World, client, unit_moves, layout_moves, seqr_moves, client_turned, moves, comes, handed, delivers, noted_if, commands, ticks, ticks_if, stops_if, counted, happens, runs}
use Rattle.tg_law_layouts.proofs.Moves.Lists.{at_set}
use Rattle.tg_law_replies.proofs.History.Members.{both_and, number_same}
use Rattle.tg_law_replies.proofs.Books.Worlds.{declared}

module _ (m : Meaning) where
  same_node : (n : NodeId) → n.role ≡ role.Client → node_eq n (client_id n.num) ≡ true
  unfolding node_eq
  same_node n c = both_and (role_number n.role == 3) (n.num == n.num) (ap (λ (r : Role). role_number r == 3) c) (number_same n.num n.num refl)

  -- where a packet comes to a client
  ends_here : (w : World m) (i : ℕ) (p : Packet) → slice_get w.packets i ≡ Some p → p.to.role ≡ role.Client → runs m w p.to ≡ true
      → walked_in m w (Deliver i) p.to.num ≡ work_end m (client m w p.to.num) (client m w p.to.num).work p.from p.rid (reply p.msg)
  ends_here w i p is c on =
      ap (λ (o : Option Packet). packet_end m w p.to.num o) is
      ∙ ap (λ (b : Bool). if b then work_end m (client m w p.to.num) (client m w p.to.num).work p.from p.rid (reply p.msg) else None) (both_and (node_eq p.to (client_id p.to.num)) (runs m w p.to) (same_node p.to c) on)

  -- what a client is handed in a step
  pub data Input (w : World m) (e : EventOf m) (n : ℕ) : ClientTurn m → Type 0 where
    Commanded : (x : CommandOf m) → e ≡ Commands n x → Input w e n (client_command m (client m w n) x)
    Handed : (p : Packet) → walked_in m w e n ≡ work_end m (client m w n) (client m w n).work p.from p.rid (reply p.msg) → Input w e n (client_deliver m (client m w n) p.from p.rid p.msg)
    Ticked : Input w e n (client_tick m (client m w n))

  -- one client turns
  abbrev pub Turns : World m → World m → ℕ → ClientTurn m → ℕ → Type 0
  Turns w v n t k = ((k ≡ n) × (client m v k ≡ t.now)) ⊎ (client m v k ≡ client m w k)

  -- what a step makes of the clients
  pub data Makes (w : World m) (e : EventOf m) (v : World m) : Type 0 where
    Rests : ((k : ℕ) → client m v k ≡ client m w k) → Makes w e v
    Turned : (n : ℕ) (t : ClientTurn m) → Input w e n t → ((k : ℕ) → Turns w v n t k) → Makes w e v

  module _ (w : World m) where
    one : (n : ℕ) (x : Client m) → n < length w.clients → (k : ℕ) → ((k ≡ n) × (slice_index_or (slice_set w.clients n x) k (new_client m w.cluster k) ≡ x)) ⊎ (slice_index_or (slice_set w.clients n x) k (new_client m w.cluster k) ≡ client m w k)
    one n x less = at_set w.clients n x (new_client m w.cluster) (λ k y. ((k ≡ n) × (y ≡ x)) ⊎ (y ≡ client m w k)) less (inl (refl, refl)) (λ k other. inr refl)

    commanded : (k : ℕ) (x : CommandOf m) (b : Bool) → k < length w.clients → Makes w (Commands k x) (client_turned m (noted_if m b w k (client m w k)) k (client_command m (client m w k) x))
    unfolding client_turned
    commanded k x true less = Turned k _ (Commanded x refl) (one k _ less)
    commanded k x false less = Turned k _ (Commanded x refl) (one k _ less)

    commands_make : (k : ℕ) (x : CommandOf m) (b : Bool) → runs m w (client_id k) ≡ b → Makes w (Commands k x) (commands m b w k x)
    commands_make k x true on = commanded k x (is_some (client m w k).work) (declared m w (client_id k) refl on)
    commands_make k x false on = Rests (λ j. refl)

    moves_make : (i : ℕ) (p : Packet) (r : Role) → p.to.role ≡ r → slice_get w.packets i ≡ Some p → runs m w p.to ≡ true → Makes w (Deliver i) (moves m (handed m w i) p r)
    unfolding unit_moves layout_moves seqr_moves client_turned
    moves_make i p role.Unit is got on = Rests (λ j. refl)
    moves_make i p role.Layout is got on = Rests (λ j. refl)
    moves_make i p role.Seqr is got on = Rests (λ j. refl)
    moves_make i p role.Client is got on = Turned p.to.num _ (Handed p (ends_here w i p got is on)) (one p.to.num _ (declared m w p.to is on))

    ticks_make : (n : NodeId) (r : Role) → n.role ≡ r → runs m w n ≡ true → Makes w (Tick n) (ticks m w n.num r)
    unfolding client_turned
    ticks_make n role.Unit is on = Rests (λ j. refl)
    ticks_make n role.Layout is on = Rests (λ j. refl)
    ticks_make n role.Seqr is on = Rests (λ j. refl)
    ticks_make n role.Client is on = Turned n.num _ Ticked (one n.num _ (declared m w n is on))

    counted_makes : (e : EventOf m) (v : World m) → Makes w e v → Makes w e (counted m v)
    counted_makes e v (Rests c) = Rests c
    counted_makes e v (Turned n t i f) = Turned n t i f

    pub makes : (e : EventOf m) → Makes w e (happens m w e)
    unfolding happens
    makes (Commands k x) = counted_makes (Commands k x) _ (commands_make k x (runs m w (client_id k)) refl)
    makes (Deliver i) = counted_makes (Deliver i) _ (by (slice_get w.packets i) refl)
      where
        comes_make : (p : Packet) → slice_get w.packets i ≡ Some p → (b : Bool) → runs m w p.to ≡ b → Makes w (Deliver i) (comes m b (handed m w i) p)
        comes_make p is true on = moves_make i p p.to.role refl is on
        comes_make p is false on = Rests (λ j. refl)

        by : (o : Option Packet) → slice_get w.packets i ≡ o → Makes w (Deliver i) (delivers m w i o)
        by None is = Rests (λ j. refl)
        by (Some p) is = comes_make p is (runs m w p.to) refl
    makes (Lose i) = Rests (λ j. refl)
    makes (Tick n) = counted_makes (Tick n) _ (by (runs m w n) refl)
      where
        by : (b : Bool) → runs m w n ≡ b → Makes w (Tick n) (ticks_if m b w n)
        by true on = ticks_make n n.role refl on
        by false on = Rests (λ j. refl)
    makes (Stop n) = counted_makes (Stop n) _ (by (runs m w n))
      where
        by : (b : Bool) → Makes w (Stop n) (stops_if m b w n)
        by true = Rests (λ j. refl)
        by false = Rests (λ j. refl)
