-- Sessions of a run in which one client begins a transaction, and orders of other steps.
use Rattle.std.specs.Prelude.{◌≡◌, List, [], ◌∷◌, if◌then◌else◌}
use Rattle.tg_base.specs.Clusters.{Header, IsHeader}
use Rattle.tg_base.specs.declared.ids.NodeId.{NodeId}
use Rattle.tg_base.specs.declared.msg.Msg.TheVariants as msg
use Rattle.tg_model.specs.declared.command.Command.TheVariants as cmd
use Rattle.tg_base.specs.Orders.{node_eq}
use Rattle.tg_protocol.specs.Words.{client_id, unit_id}
use Rattle.tg_protocol.specs.Headline.{Holds}
use Rattle.tg_node_state.specs.Nodes.{InputOf}
use Rattle.tg_node_state.specs.declared.input.Input.TheVariants as input
use Rattle.tg_any.specs.AllKinds.{all_kinds}
use Rattle.tg_law_programs.specs.Sessions.Sessions.{Step, session, IsOrder}
use Rattle.tg_law_programs.specs.Sessions.Holding.{AreSessions, MakesARunWhere}

abbrev pub Steps : Type 0
Steps = List (Step all_kinds)

abbrev pub Sessions : Type 0
Sessions = NodeId → List (InputOf all_kinds)

-- what `SessionsHold` asks of sessions and of an order of their steps, and what it says of them
pub record Hold (h : Header) (sessions : Sessions) (steps : Steps) : Type 0 where
  pub header : IsHeader h
  pub lawful : AreSessions all_kinds sessions
  pub kept : (n : NodeId) → session all_kinds n steps ≡ sessions n
  pub order : IsOrder all_kinds h steps
  pub run : MakesARunWhere all_kinds (Holds all_kinds) h sessions steps

abbrev pub begins : InputOf all_kinds
begins = input.Command cmd.Begin

-- the client's session is one command, and no other node takes anything
abbrev pub one_begins : Sessions
one_begins n = if node_eq n (client_id 0) then begins ∷ [] else []

abbrev pub in_order : Steps
in_order = record { node = client_id 0; input = begins } ∷ []

-- no node takes anything
abbrev pub idle : Sessions
idle n = []

-- a unit takes a packet that nobody sent
abbrev pub takes_unsent : Steps
takes_unsent = record { node = unit_id 0; input = input.Packet (record { from = client_id 0; to = unit_id 0; rid = 1; msg = msg.AskLatest }) } ∷ []

-- a client takes a command that the header doesn't declare
abbrev pub stranger_begins : Steps
stranger_begins = record { node = client_id 1; input = begins } ∷ []
