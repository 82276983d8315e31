-- A step of a world as one move, where a client that is handed a packet ends its walks as the step does.
use Rattle.std.proofs.Common.{◌≡◌, ℕ, ◌<◌, List, length, Bool, true, false, refl, arith, Some, None, Option}
use Rattle.std.specs.Prelude.{slice_get, is_some}
use Rattle.tg_base.specs.declared.ids.NodeId.{NodeId}
use Rattle.tg_base.specs.declared.ids.Oid.{Oid}
use Rattle.tg_base.specs.declared.ids.Role.{Role}
use Rattle.tg_base.specs.declared.ids.Role.TheVariants as role
use Rattle.tg_base.specs.declared.packet.Packet.{Packet}
use Rattle.tg_kind.specs.Meaning.{Meaning}
use Rattle.tg_model.specs.declared.command.Event.TheVariants.{Command as Commands, Deliver, Lose, Tick, Stop}
use Rattle.tg_model.specs.Kinds.{CommandOf, EventOf}
use Rattle.tg_protocol.specs.Words.{unit_id, layout_id, client_id}
use Rattle.tg_protocol.specs.Units.{unit_step}
use Rattle.tg_protocol.specs.LayoutServers.{layout_step}
use Rattle.tg_protocol.specs.Replies.{reply}
use Rattle.tg_protocol.specs.Sequencers.{SeqrTurn}
use Rattle.tg_protocol.specs.Views.{Entries}
use Rattle.tg_protocol.specs.Clients.{Work, Client}
use Rattle.tg_protocol.specs.ClientSteps.{client_command, client_deliver, client_tick}
use Rattle.tg_protocol.specs.Worlds.{World, moves, comes, handed, delivers, runs, count_of, unit_moves, layout_moves, seqr_moves, client_turned, noted_if, commands, ticks, ticks_if, stops_if, happens}
use Rattle.tg_law_layouts.specs.Moves.Configs.{Config, config, unit_in, layout_in, client_in}
use Rattle.tg_law_layouts.proofs.Moves.Members.{Has, has_got}
use Rattle.tg_law_layouts.proofs.Moves.Moves.{Comes, unit_turn, layout_turn, seqr_turn, client_turn, SeqrInput, Hears, Ticks}
use Rattle.tg_law_replies.specs.Replies.Steps.{EachDelivery, EachEvent}

module _ (m : Meaning) (objects : List Oid) (es : Entries) (T : Client m → Work m → Type 0) where
  -- what is to be shown of a fact, for each of the moves of a world
  pub record Moves' (c : Config m) (P : Config m → Type 0) : Type 0 where
    pub idle : P c
    pub unit : (u : ℕ) (p : Packet) → Comes m c p (unit_id u) → u < length c.units → P (unit_turn m c u p (unit_step (unit_in m c u) p.msg))
    pub layout : (l : ℕ) (p : Packet) → Comes m c p (layout_id l) → l < length c.layouts → P (layout_turn m c l p (layout_step (layout_in m c l) p.msg))
    pub seqr : (s : ℕ) (t : SeqrTurn) → SeqrInput m c s t → s < length c.seqrs → P (seqr_turn m c s t)
    pub commanded : (k : ℕ) (x : CommandOf m) → k < length c.clients → P (client_turn m c k (client_command m (client_in m c k) x))
    pub ticked : (k : ℕ) → k < length c.clients → P (client_turn m c k (client_tick m (client_in m c k)))
    pub heard : (k : ℕ) (p : Packet) → Comes m c p (client_id k) → EachDelivery m objects es T (client_in m c k) (client_in m c k).work p.from p.rid (reply p.msg)
        → k < length c.clients → P (client_turn m c k (client_deliver m (client_in m c k) p.from p.rid p.msg))

  below : (n : NodeId) (w : World m) → runs m w n ≡ true → n.num < count_of m w n.role
  below n w h = grind arith

  named : (n : NodeId) (r : Role) → n.role ≡ r → n ≡ record { role = r; num = n.num }
  named n r e = λ i. record { role = e i; num = n.num }

  module _ (w : World m) (P : Config m → Type 0) (c : Moves' (config m w) P) where
    arrives : (i : ℕ) (p : Packet) → Has w.packets p → (p.to.role ≡ role.Client → EachDelivery m objects es T (client_in m (config m w) p.to.num) (client_in m (config m w) p.to.num).work p.from p.rid (reply p.msg))
        → (r : Role) → p.to.role ≡ r → p.to.num < count_of m w r → P (config m (moves m (handed m w i) p r))
    unfolding unit_moves layout_moves seqr_moves client_turned
    arrives i p s f role.Unit e less = c.unit p.to.num p (record { sent = s; to_node = named p.to role.Unit e }) less
    arrives i p s f role.Layout e less = c.layout p.to.num p (record { sent = s; to_node = named p.to role.Layout e }) less
    arrives i p s f role.Seqr e less = c.seqr p.to.num _ (Hears p (record { sent = s; to_node = named p.to role.Seqr e })) less
    arrives i p s f role.Client e less = c.heard p.to.num p (record { sent = s; to_node = named p.to role.Client e }) (f e) less

    comes_if : (i : ℕ) (p : Packet) → slice_get w.packets i ≡ Some p → EachEvent m objects es T w (Deliver i) → (b : Bool) → runs m w p.to ≡ b → P (config m (comes m b (handed m w i) p))
    comes_if i p s f true e = arrives i p (has_got w.packets i p s) (λ is. f p s is e) p.to.role refl (below p.to w e)
    comes_if i p s f false e = c.idle

    delivered : (i : ℕ) (o : Option Packet) → slice_get w.packets i ≡ o → EachEvent m objects es T w (Deliver i) → P (config m (delivers m w i o))
    delivered i None e f = c.idle
    delivered i (Some p) e f = comes_if i p e f (runs m w p.to) refl

    noted : (k : ℕ) (x : CommandOf m) (b : Bool) → k < length w.clients → P (config m (client_turned m (noted_if m b w k (client_in m (config m w) k)) k (client_command m (client_in m (config m w) k) x)))
    unfolding client_turned
    noted k x true less = c.commanded k x less
    noted k x false less = c.commanded k x less

    commands_if : (k : ℕ) (x : CommandOf m) (b : Bool) → runs m w (client_id k) ≡ b → P (config m (commands m b w k x))
    commands_if k x true e = noted k x (is_some (client_in m (config m w) k).work) (below (client_id k) w e)
    commands_if k x false e = c.idle

    ticks_of : (n : ℕ) (r : Role) → n < count_of m w r → P (config m (ticks m w n r))
    unfolding client_turned
    ticks_of n role.Unit less = c.idle
    ticks_of n role.Layout less = c.idle
    ticks_of n role.Seqr less = c.seqr n _ Ticks less
    ticks_of n role.Client less = c.ticked n less

    ticks_by : (n : NodeId) (b : Bool) → runs m w n ≡ b → P (config m (ticks_if m b w n))
    ticks_by n true e = ticks_of n.num n.role (below n w e)
    ticks_by n false e = c.idle

    stops_by : (n : NodeId) (b : Bool) → P (config m (stops_if m b w n))
    stops_by n true = c.idle
    stops_by n false = c.idle

    pub step_by : (e : EventOf m) → EachEvent m objects es T w e → P (config m (happens m w e))
    unfolding happens
    step_by (Commands k x) f = commands_if k x (runs m w (client_id k)) refl
    step_by (Deliver i) f = delivered i (slice_get w.packets i) refl f
    step_by (Lose i) f = c.idle
    step_by (Tick n) f = ticks_by n (runs m w n) refl
    step_by (Stop n) f = stops_by n (runs m w n)
