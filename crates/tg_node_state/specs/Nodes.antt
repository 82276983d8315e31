-- A node of any role, and its steps, which are those of its role.
use Rattle.std.specs.Prelude.{ℕ, List, [], ◌∷◌, Option, Some, None}
use Rattle.tg_base.specs.Clusters.{Header}
use Rattle.tg_base.specs.declared.ids.NodeId.{NodeId}
use Rattle.tg_base.specs.declared.ids.Role.{Role}
use Rattle.tg_base.specs.declared.ids.Role.TheVariants as role
use Rattle.tg_base.specs.declared.msg.Msg.{Msg}
use Rattle.tg_base.specs.declared.packet.Out.{Out}
use Rattle.tg_base.specs.declared.packet.Packet.{Packet}
use Rattle.tg_kind.specs.Meaning.{Meaning}
use Rattle.tg_model.specs.Kinds.{CommandOf, NoteOf}
use Rattle.tg_node_state.specs.declared.input.Input.{Input}
use Rattle.tg_node_state.specs.declared.input.Input.TheVariants as input
use Rattle.tg_protocol.specs.Requests.{out}
use Rattle.tg_protocol.specs.Layouts.{first_layout}
use Rattle.tg_protocol.specs.Units.{UnitState, UnitTurn, new_unit, unit_step}
use Rattle.tg_protocol.specs.LayoutServers.{LayoutState, LayoutTurn, new_layout, layout_step}
use Rattle.tg_protocol.specs.Sequencers.{SeqrState, SeqrTurn, new_seqr, seqr_step, seqr_tick}
use Rattle.tg_protocol.specs.Clients.{Client, new_client}
use Rattle.tg_protocol.specs.ClientSteps.{ClientTurn, client_command, client_deliver, client_tick}

-- an answer goes to the node that asked, with its number
abbrev pub answer_to : NodeId → ℕ → Option Msg → List Out
answer_to from rid None = []
answer_to from rid (Some x) = out from rid x ∷ []

module _ (m : Meaning) where
  pub data Node : Type 0 where
    UnitNode : (unit : UnitState) → Node
    LayoutNode : (layout : LayoutState) → Node
    SeqrNode : (seqr : SeqrState) → Node
    ClientNode : (client : Client m) → Node

  -- a node after a step, what it sends, and what it replies, which only a client does
  pub record NodeTurn : Type 0 where
    pub now : Node
    pub sends : List Out
    pub notes : List (NoteOf m)

  -- the node of a header, before its first step
  abbrev pub begins : Header → ℕ → Role → Node
  begins h n role.Unit = UnitNode new_unit
  begins h n role.Layout = LayoutNode (new_layout (first_layout h))
  begins h n role.Seqr = SeqrNode (new_seqr n h.limit (first_layout h))
  begins h n role.Client = ClientNode (new_client m h n)

  abbrev pub node_start : Header → NodeId → Node
  node_start h n = begins h n.num n.role

  abbrev pub unit_turn : Packet → UnitTurn → NodeTurn
  unit_turn p t = record { now = UnitNode t.now; sends = answer_to p.from p.rid t.says; notes = [] }

  abbrev pub layout_turn : Packet → LayoutTurn → NodeTurn
  layout_turn p t = record { now = LayoutNode t.now; sends = answer_to p.from p.rid t.says; notes = [] }

  abbrev pub seqr_turn : SeqrTurn → NodeTurn
  seqr_turn t = record { now = SeqrNode t.now; sends = t.sends; notes = [] }

  abbrev pub client_turn : ClientTurn m → NodeTurn
  client_turn t = record { now = ClientNode t.now; sends = t.sends; notes = t.notes }

  abbrev pub still : Node → NodeTurn
  still n = record { now = n; sends = []; notes = [] }

  -- a packet comes to the node
  abbrev pub node_takes : Node → Packet → NodeTurn
  node_takes (UnitNode u) p = unit_turn p (unit_step u p.msg)
  node_takes (LayoutNode l) p = layout_turn p (layout_step l p.msg)
  node_takes (SeqrNode s) p = seqr_turn (seqr_step s p.from p.rid p.msg)
  node_takes (ClientNode c) p = client_turn (client_deliver m c p.from p.rid p.msg)

  -- units and layout servers do nothing at a tick
  abbrev pub node_ticks : Node → NodeTurn
  node_ticks (UnitNode u) = still (UnitNode u)
  node_ticks (LayoutNode l) = still (LayoutNode l)
  node_ticks (SeqrNode s) = seqr_turn (seqr_tick s)
  node_ticks (ClientNode c) = client_turn (client_tick m c)

  -- only a client takes a command
  abbrev pub node_commands : Node → CommandOf m → NodeTurn
  node_commands (UnitNode u) x = still (UnitNode u)
  node_commands (LayoutNode l) x = still (LayoutNode l)
  node_commands (SeqrNode s) x = still (SeqrNode s)
  node_commands (ClientNode c) x = client_turn (client_command m c x)

  -- a tick, a packet or a command
  abbrev pub InputOf : Type 0
  InputOf = Input m.op m.ask

  unfoldable pub node_step : Node → InputOf → NodeTurn
  node_step n input.Tick = node_ticks n
  node_step n (input.Packet p) = node_takes n p
  node_step n (input.Command x) = node_commands n x
