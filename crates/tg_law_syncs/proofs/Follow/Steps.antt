-- Which client speaks in a step of a world, and by which turn.
use Rattle.std.proofs.Common.{◌≡◌, ◌⊎◌, ℕ, ◌<◌, List, [], ◌∷◌, ◌++◌, map, length, Bool, true, false, refl, ap, ◌∙◌, inl, inr, Option, Some, None, is_some}
use Rattle.std.specs.Prelude.{slice_get, slice_set, slice_index_or}
use Rattle.tg_base.specs.declared.ids.NodeId.{NodeId}
use Rattle.tg_base.specs.declared.ids.Role.{Role}
use Rattle.tg_base.specs.declared.ids.Role.TheVariants as role
use Rattle.tg_base.specs.declared.packet.Packet.{Packet}
use Rattle.tg_kind.specs.Meaning.{Meaning}
use Rattle.tg_model.specs.declared.command.Event.TheVariants.{Command as Commands, Deliver, Lose, Tick, Stop}
use Rattle.tg_model.specs.Kinds.{CommandOf, EventOf, MarkOf, NoteOf}
use Rattle.tg_model.specs.Traces.{Trace}
use Rattle.tg_protocol.specs.Words.{client_id}
use Rattle.tg_protocol.specs.Replies.{reply}
use Rattle.tg_protocol.specs.Clients.{Client, new_client}
use Rattle.tg_protocol.specs.ClientSteps.{ClientTurn, client_command, client_deliver, client_tick}
use Rattle.tg_protocol.specs.Worlds.{World, Told, client, unit_moves, layout_moves, seqr_moves, client_turned, moves, comes, handed, delivers, noted_if, commands, ticks, ticks_if, stops_if, mark_of, counted, happens, runs, trace}
use Rattle.tg_law_layouts.proofs.Moves.Lists.{at_set}
use Rattle.tg_law_replies.specs.Replies.Ended.{work_ends, ended_in}
use Rattle.tg_law_replies.proofs.Replies.Books.{mark}
use Rattle.tg_law_replies.proofs.Replies.Steps.{ended_here}
use Rattle.tg_law_replies.proofs.Books.Worlds.{trace_after, declared}

module _ (m : Meaning) where
  -- what a client is handed in a step
  pub data Input (w : World m) (e : EventOf m) (n : ℕ) : ClientTurn m → Type 0 where
    Commanded : (x : CommandOf m) → Input w e n (client_command m (client m w n) x)
    Handed : (p : Packet) → ended_in m w e n ≡ work_ends m (client m w n) (client m w n).work p.from p.rid (reply p.msg) → Input w e n (client_deliver m (client m w n) p.from p.rid p.msg)
    Ticked : Input w e n (client_tick m (client m w n))

  -- one client turns
  abbrev pub Turns : World m → World m → ℕ → ClientTurn m → ℕ → Type 0
  Turns w v n t k = ((k ≡ n) × (client m v k ≡ t.now)) ⊎ (client m v k ≡ client m w k)

  -- what a step makes of the clients and of what is told
  pub data Speaks (w : World m) (e : EventOf m) (v : World m) : Type 0 where
    Silent : trace m v ≡ trace m w → ((k : ℕ) → client m v k ≡ client m w k) → Speaks w e v
    Speaks' : (n : ℕ) (t : ClientTurn m) → Input w e n t → trace m v ≡ trace m w ++ map (mark m w.event n) t.notes
        → ((k : ℕ) → Turns w v n t k) → Speaks w e v

  module _ (w : World m) where
    one : (n : ℕ) (x : Client m) → n < length w.clients → (k : ℕ) → ((k ≡ n) × (slice_index_or (slice_set w.clients n x) k (new_client m w.cluster k) ≡ x)) ⊎ (slice_index_or (slice_set w.clients n x) k (new_client m w.cluster k) ≡ client m w k)
    one n x less = at_set w.clients n x (new_client m w.cluster) (λ k y. ((k ≡ n) × (y ≡ x)) ⊎ (y ≡ client m w k)) less (inl (refl, refl)) (λ k other. inr refl)

    commanded : (k : ℕ) (x : CommandOf m) (b : Bool) → k < length w.clients → Speaks w (Commands k x) (client_turned m (noted_if m b w k (client m w k)) k (client_command m (client m w k) x))
    unfolding client_turned
    commanded k x true less = Speaks' k _ (Commanded x) (trace_after m w k _) (one k _ less)
    commanded k x false less = Speaks' k _ (Commanded x) (trace_after m (noted_if m false w k (client m w k)) k _) (one k _ less)

    commands_speak : (k : ℕ) (x : CommandOf m) (b : Bool) → runs m w (client_id k) ≡ b → Speaks w (Commands k x) (commands m b w k x)
    commands_speak k x true on = commanded k x (is_some (client m w k).work) (declared m w (client_id k) refl on)
    commands_speak k x false on = Silent refl (λ j. refl)

    moves_speak : (i : ℕ) (p : Packet) (r : Role) → p.to.role ≡ r → slice_get w.packets i ≡ Some p → runs m w p.to ≡ true → Speaks w (Deliver i) (moves m (handed m w i) p r)
    unfolding unit_moves layout_moves seqr_moves client_turned
    moves_speak i p role.Unit is got on = Silent refl (λ j. refl)
    moves_speak i p role.Layout is got on = Silent refl (λ j. refl)
    moves_speak i p role.Seqr is got on = Silent refl (λ j. refl)
    moves_speak i p role.Client is got on =
        Speaks' p.to.num _ (Handed p (ended_here m w i p got is on)) (trace_after m (handed m w i) p.to.num _) (one p.to.num _ (declared m w p.to is on))

    ticks_speak : (n : NodeId) (r : Role) → n.role ≡ r → runs m w n ≡ true → Speaks w (Tick n) (ticks m w n.num r)
    unfolding client_turned
    ticks_speak n role.Unit is on = Silent refl (λ j. refl)
    ticks_speak n role.Layout is on = Silent refl (λ j. refl)
    ticks_speak n role.Seqr is on = Silent refl (λ j. refl)
    ticks_speak n role.Client is on = Speaks' n.num _ Ticked (trace_after m w n.num _) (one n.num _ (declared m w n is on))

    counted_speaks : (e : EventOf m) (v : World m) → Speaks w e v → Speaks w e (counted m v)
    counted_speaks e v (Silent t c) = Silent t c
    counted_speaks e v (Speaks' n t i x f) = Speaks' n t i x f

    pub speaks : (e : EventOf m) → Speaks w e (happens m w e)
    unfolding happens
    speaks (Commands k x) = counted_speaks (Commands k x) _ (commands_speak k x (runs m w (client_id k)) refl)
    speaks (Deliver i) = counted_speaks (Deliver i) _ (by (slice_get w.packets i) refl)
      where
        comes_speak : (p : Packet) → slice_get w.packets i ≡ Some p → (b : Bool) → runs m w p.to ≡ b → Speaks w (Deliver i) (comes m b (handed m w i) p)
        comes_speak p is true on = moves_speak i p p.to.role refl is on
        comes_speak p is false on = Silent refl (λ j. refl)

        by : (o : Option Packet) → slice_get w.packets i ≡ o → Speaks w (Deliver i) (delivers m w i o)
        by None is = Silent refl (λ j. refl)
        by (Some p) is = comes_speak p is (runs m w p.to) refl
    speaks (Lose i) = Silent refl (λ j. refl)
    speaks (Tick n) = counted_speaks (Tick n) _ (by (runs m w n) refl)
      where
        by : (b : Bool) → runs m w n ≡ b → Speaks w (Tick n) (ticks_if m b w n)
        by true on = ticks_speak n n.role refl on
        by false on = Silent refl (λ j. refl)
    speaks (Stop n) = counted_speaks (Stop n) _ (by (runs m w n))
      where
        by : (b : Bool) → Speaks w (Stop n) (stops_if m b w n)
        by true = Silent refl (λ j. refl)
        by false = Silent refl (λ j. refl)
