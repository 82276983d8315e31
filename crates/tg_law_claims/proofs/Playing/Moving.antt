-- Which client turns in a step of a world, what it is handed by it, and what it sends.
use Rattle.std.proofs.Common.{◌≡◌, ◌⊎◌, ℕ, ◌<◌, List, [], ◌∷◌, ◌++◌, map, length, Bool, true, false, refl, sym, ap, ◌∙◌, inl, inr, Option, Some, None, is_some}
use Rattle.std.specs.Prelude.{slice_get, slice_set, slice_index_or}
use Rattle.tg_base.specs.declared.ids.NodeId.{NodeId}
use Rattle.tg_base.specs.declared.ids.Role.{Role}
use Rattle.tg_base.specs.declared.ids.Role.TheVariants as role
use Rattle.tg_base.specs.declared.packet.Packet.{Packet}
use Rattle.tg_kind.specs.Meaning.{Meaning}
use Rattle.tg_model.specs.declared.command.Event.TheVariants.{Command as Commands, Deliver, Lose, Tick, Stop}
use Rattle.tg_model.specs.Kinds.{CommandOf, EventOf}
use Rattle.tg_protocol.specs.Units.{unit_step}
use Rattle.tg_protocol.specs.LayoutServers.{layout_step}
use Rattle.tg_protocol.specs.Sequencers.{seqr_step, seqr_tick}
use Rattle.tg_protocol.specs.Words.{client_id, seqr_id}
use Rattle.tg_protocol.specs.Clients.{Client, new_client}
use Rattle.tg_protocol.specs.ClientSteps.{ClientTurn, client_command, client_deliver, client_tick}
use Rattle.tg_protocol.specs.Worlds.{World, client, unit, layout, seqr, packet_of, answer_to, unit_moves, layout_moves, seqr_moves, client_turned, moves, comes, handed, delivers, noted_if, commands, ticks, ticks_if, stops_if, counted, happens, runs, without_num}
use Rattle.tg_law_layouts.proofs.Moves.Lists.{at_set}
use Rattle.tg_law_layouts.proofs.Moves.Members.{Has, has_got}
use Rattle.tg_law_replies.proofs.Books.Worlds.{declared, nil_right}
use Rattle.tg_law_claims.proofs.Playing.Acts.{OfOthers, none_sent, answers_others, not_unit, not_layout, seqrs_others}

module _ (m : Meaning) where
  -- what a client is handed in a step
  pub data Input (w : World m) (e : EventOf m) (n : ℕ) : ClientTurn m → Type 0 where
    Commanded : (x : CommandOf m) → e ≡ Commands n x → Input w e n (client_command m (client m w n) x)
    Handed : (p : Packet) → Has w.packets p → p.to ≡ client_id n → Input w e n (client_deliver m (client m w n) p.from p.rid p.msg)
    Ticked : Input w e n (client_tick m (client m w n))

  -- one client turns
  abbrev pub Turns : World m → World m → ℕ → ClientTurn m → ℕ → Type 0
  Turns w v n t k = ((k ≡ n) × (client m v k ≡ t.now)) ⊎ (client m v k ≡ client m w k)

  -- what a step makes of the clients, and what it sends
  pub data Makes (w : World m) (e : EventOf m) (v : World m) : Type 0 where
    Rests : (ps : List Packet) → v.packets ≡ w.packets ++ ps → OfOthers ps → ((k : ℕ) → client m v k ≡ client m w k) → Makes w e v
    Turned : (n : ℕ) (t : ClientTurn m) → Input w e n t → v.packets ≡ w.packets ++ map (packet_of m (client_id n)) t.sends → client m v n ≡ t.now → ((k : ℕ) → Turns w v n t k) → Makes w e v

  module _ (w : World m) where
    quiet : (e : EventOf m) (v : World m) → v.packets ≡ w.packets → ((k : ℕ) → client m v k ≡ client m w k) → Makes w e v
    quiet e v p c = Rests [] (p ∙ sym (nil_right w.packets)) none_sent c

    one : (n : ℕ) (x : Client m) → n < length w.clients → (k : ℕ) → ((k ≡ n) × (slice_index_or (slice_set w.clients n x) k (new_client m w.cluster k) ≡ x)) ⊎ (slice_index_or (slice_set w.clients n x) k (new_client m w.cluster k) ≡ client m w k)
    one n x less = at_set w.clients n x (new_client m w.cluster) (λ k y. ((k ≡ n) × (y ≡ x)) ⊎ (y ≡ client m w k)) less (inl (refl, refl)) (λ k other. inr refl)

    here : (n : ℕ) (x : Client m) → n < length w.clients → slice_index_or (slice_set w.clients n x) n (new_client m w.cluster n) ≡ x
    here n x less = at_set w.clients n x (new_client m w.cluster) (λ k y. k ≡ n → y ≡ x) less (λ e. refl) (λ k other e. absurd (other e)) n refl

    commanded : (k : ℕ) (x : CommandOf m) (b : Bool) → k < length w.clients → Makes w (Commands k x) (client_turned m (noted_if m b w k (client m w k)) k (client_command m (client m w k) x))
    unfolding client_turned
    commanded k x true less = Turned k _ (Commanded x refl) refl (here k _ less) (one k _ less)
    commanded k x false less = Turned k _ (Commanded x refl) refl (here k _ less) (one k _ less)

    commands_make : (k : ℕ) (x : CommandOf m) (b : Bool) → runs m w (client_id k) ≡ b → Makes w (Commands k x) (commands m b w k x)
    commands_make k x true on = commanded k x (is_some (client m w k).work) (declared m w (client_id k) refl on)
    commands_make k x false on = quiet (Commands k x) w refl (λ j. refl)

    client_is : (a : NodeId) → a.role ≡ role.Client → a ≡ client_id a.num
    client_is a e = ap (λ (r : Role). record { role = r; num = a.num }) e

    moves_make : (i : ℕ) (p : Packet) (r : Role) → p.to.role ≡ r → slice_get w.packets i ≡ Some p → runs m w p.to ≡ true → Makes w (Deliver i) (moves m (handed m w i) p r)
    unfolding unit_moves layout_moves seqr_moves client_turned
    moves_make i p role.Unit is got on = Rests (answer_to m p (unit_step (unit m w p.to.num) p.msg).says) refl (answers_others m p _ (λ k e. not_unit m p.to k is e)) (λ j. refl)
    moves_make i p role.Layout is got on = Rests (answer_to m p (layout_step (layout m w p.to.num) p.msg).says) refl (answers_others m p _ (λ k e. not_layout m p.to k is e)) (λ j. refl)
    moves_make i p role.Seqr is got on = Rests (map (packet_of m (seqr_id p.to.num)) (seqr_step (seqr m w p.to.num) p.from p.rid p.msg).sends) refl (seqrs_others m p.to.num _) (λ j. refl)
    moves_make i p role.Client is got on = let less = declared m w p.to is on in Turned p.to.num _ (Handed p (has_got w.packets i p got) (client_is p.to is)) refl (here p.to.num _ less) (one p.to.num _ less)

    ticks_make : (n : NodeId) (r : Role) → n.role ≡ r → runs m w n ≡ true → Makes w (Tick n) (ticks m w n.num r)
    unfolding client_turned
    ticks_make n role.Unit is on = quiet (Tick n) w refl (λ j. refl)
    ticks_make n role.Layout is on = quiet (Tick n) w refl (λ j. refl)
    ticks_make n role.Seqr is on = Rests (map (packet_of m (seqr_id n.num)) (seqr_tick (seqr m w n.num)).sends) refl (seqrs_others m n.num _) (λ j. refl)
    ticks_make n role.Client is on = let less = declared m w n is on in Turned n.num _ Ticked refl (here n.num _ less) (one n.num _ less)

    counted_makes : (e : EventOf m) (v : World m) → Makes w e v → Makes w e (counted m v)
    counted_makes e v (Rests ps p o c) = Rests ps p o c
    counted_makes e v (Turned n t i p h f) = Turned n t i p h f

    pub makes : (e : EventOf m) → Makes w e (happens m w e)
    unfolding happens
    makes (Commands k x) = counted_makes (Commands k x) _ (commands_make k x (runs m w (client_id k)) refl)
    makes (Deliver i) = counted_makes (Deliver i) _ (by (slice_get w.packets i) refl)
      where
        comes_make : (p : Packet) → slice_get w.packets i ≡ Some p → (b : Bool) → runs m w p.to ≡ b → Makes w (Deliver i) (comes m b (handed m w i) p)
        comes_make p is true on = moves_make i p p.to.role refl is on
        comes_make p is false on = quiet (Deliver i) (handed m w i) refl (λ j. refl)

        by : (o : Option Packet) → slice_get w.packets i ≡ o → Makes w (Deliver i) (delivers m w i o)
        by None is = quiet (Deliver i) w refl (λ j. refl)
        by (Some p) is = comes_make p is (runs m w p.to) refl
    makes (Lose i) = counted_makes (Lose i) _ (quiet (Lose i) (lost i) refl (λ j. refl))
      where
        lost : ℕ → World m
        lost i = record w { waiting = without_num m i w.waiting }
    makes (Tick n) = counted_makes (Tick n) _ (by (runs m w n) refl)
      where
        by : (b : Bool) → runs m w n ≡ b → Makes w (Tick n) (ticks_if m b w n)
        by true on = ticks_make n n.role refl on
        by false on = quiet (Tick n) w refl (λ j. refl)
    makes (Stop n) = counted_makes (Stop n) _ (by (runs m w n))
      where
        by : (b : Bool) → Makes w (Stop n) (stops_if m b w n)
        by true = quiet (Stop n) (record w { stopped = n ∷ w.stopped }) refl (λ j. refl)
        by false = quiet (Stop n) w refl (λ j. refl)
