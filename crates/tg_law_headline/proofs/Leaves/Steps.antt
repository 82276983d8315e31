-- What holds of each client's kept view in a world holds after a step, where the step's plays keep it, and its appends land past
-- the view.
use Rattle.std.proofs.Common.{◌≡◌, ◌⊎◌, ℕ, List, Bool, true, false, refl, sym, subst, inl, inr, Option, Some, None}
use Rattle.std.specs.Prelude.{slice_set, slice_index_or, slice_get, is_some}
use Rattle.tg_base.specs.declared.cell.Cell.{Cell}
use Rattle.tg_base.specs.declared.ids.Oid.{Oid}
use Rattle.tg_base.specs.declared.ids.Role.{Role}
use Rattle.tg_base.specs.declared.ids.Role.TheVariants as role
use Rattle.tg_base.specs.declared.packet.Packet.{Packet}
use Rattle.tg_kind.specs.Meaning.{Meaning}
use Rattle.tg_model.specs.Kinds.{EventOf}
use Rattle.tg_model.specs.declared.command.Event.TheVariants.{Command as Commands, Deliver, Lose, Tick, Stop}
use Rattle.tg_protocol.specs.Words.{client_id}
use Rattle.tg_protocol.specs.Replies.{reply}
use Rattle.tg_protocol.specs.Views.{Entries, View}
use Rattle.tg_protocol.specs.Clients.{Client, new_client}
use Rattle.tg_protocol.specs.ClientSteps.{ClientTurn, client_command, client_deliver, client_tick}
use Rattle.tg_protocol.specs.Worlds.{World, client, unit_moves, layout_moves, seqr_moves, client_turned, moves, comes, handed, delivers, noted_if, commands, ticks, ticks_if, stops_if, happens, runs}
use Rattle.tg_law_replies.specs.Replies.Steps.{EachDelivery, EachEvent}
use Rattle.tg_law_replies.proofs.Replies.Steps.{set_at}
use Rattle.tg_law_headline.proofs.Leaves.Turns.{Lasts, Holds, Rested, PlayHolds, Lands, command_fine, deliver_fine, tick_fine}

-- the appends of a step land past the views of their clients
abbrev pub StepLands : (m : Meaning) → World m → EventOf m → Type 0
StepLands m w (Deliver i) = (p : Packet) → slice_get w.packets i ≡ Some p → p.to.role ≡ role.Client → Lands m (client m w p.to.num) p.from p.rid (reply p.msg)
StepLands m w e = Unit {0}

module _ (m : Meaning) (objects : List Oid) (es : Entries) (K J : ℕ → List ℕ → List (ℕ × Cell) → List Oid → Option (View m) → Type 0) (keep : Lasts m K) (last : Lasts m J)
    (weaker : (n : ℕ) (own : List ℕ) (cells : List (ℕ × Cell)) (os : List Oid) (v : Option (View m)) → K n own cells os v → J n own cells os v) where
  abbrev Of : Client m → Type 0
  Of c = Holds m K J c

  abbrev pub AllHold : World m → Type 0
  AllHold w = (k : ℕ) → Holds m K J (client m w k)

  abbrev pub AllRested : World m → Type 0
  AllRested w = (k : ℕ) → Rested m K J (client m w k)

  turned_hold : (w : World m) (n : ℕ) (t : ClientTurn m) → AllHold w → Of t.now → AllHold (client_turned m w n t)
  unfolding client_turned
  turned_hold w n t q f k = by (set_at w.clients n t.now k (new_client m w.cluster k))
    where
      by : (slice_index_or (slice_set w.clients n t.now) k (new_client m w.cluster k) ≡ t.now)
          ⊎ (slice_index_or (slice_set w.clients n t.now) k (new_client m w.cluster k) ≡ slice_index_or w.clients k (new_client m w.cluster k)) → Of (slice_index_or (slice_set w.clients n t.now) k (new_client m w.cluster k))
      by (inl e) = subst Of (sym e) f
      by (inr e) = subst Of (sym e) (q k)

  abbrev Handed : World m → Packet → Type 0
  Handed w p = EachDelivery m objects es (PlayHolds m K J) (client m w p.to.num) (client m w p.to.num).work p.from p.rid (reply p.msg) × Lands m (client m w p.to.num) p.from p.rid (reply p.msg)

  moves_hold : (w : World m) (p : Packet) (r : Role) → AllHold w → (r ≡ role.Client → Handed w p) → AllHold (moves m w p r)
  unfolding unit_moves layout_moves seqr_moves
  moves_hold w p role.Unit q e = q
  moves_hold w p role.Layout q e = q
  moves_hold w p role.Seqr q e = q
  moves_hold w p role.Client q e =
      turned_hold w p.to.num (client_deliver m (client m w p.to.num) p.from p.rid p.msg) q (deliver_fine m objects es K J keep last weaker (client m w p.to.num) p.from p.rid p.msg (e refl).1 (q p.to.num) (e refl).0)

  pub happens_hold : (w : World m) (e : EventOf m) → AllRested w → AllHold w → EachEvent m objects es (PlayHolds m K J) w e → StepLands m w e → AllHold (happens m w e)
  unfolding happens
  happens_hold w (Commands k x) rest q r lands = by (runs m w (client_id k))
    where
      noted : (b : Bool) → AllHold (noted_if m b w k (client m w k))
      noted true = q
      noted false = q

      by : (b : Bool) → AllHold (commands m b w k x)
      by true = turned_hold (noted_if m (is_some (client m w k).work) w k (client m w k)) k (client_command m (client m w k) x) (noted (is_some (client m w k).work)) (command_fine m objects es K J keep last weaker (client m w k) x (rest k) (q k))
      by false = q
  happens_hold w (Deliver i) rest q r lands = by (slice_get w.packets i) refl
    where
      comes_hold : (p : Packet) → slice_get w.packets i ≡ Some p → (b : Bool) → runs m w p.to ≡ b → AllHold (comes m b (handed m w i) p)
      comes_hold p is true on = moves_hold (handed m w i) p p.to.role q (λ c. (r p is c on, lands p is c))
      comes_hold p is false on = q

      by : (p : Option Packet) → slice_get w.packets i ≡ p → AllHold (delivers m w i p)
      by None is = q
      by (Some p) is = comes_hold p is (runs m (handed m w i) p.to) refl
  happens_hold w (Lose i) rest q r lands = q
  happens_hold w (Tick n) rest q r lands = by (runs m w n)
    where
      ticks_hold : (x : Role) → AllHold (ticks m w n.num x)
      ticks_hold role.Unit = q
      ticks_hold role.Layout = q
      ticks_hold role.Seqr = q
      ticks_hold role.Client = turned_hold w n.num (client_tick m (client m w n.num)) q (tick_fine m objects es K J keep last weaker (client m w n.num) (q n.num))

      by : (b : Bool) → AllHold (ticks_if m b w n)
      by true = ticks_hold n.role
      by false = q
  happens_hold w (Stop n) rest q r lands = by (runs m w n)
    where
      by : (b : Bool) → AllHold (stops_if m b w n)
      by true = q
      by false = q
