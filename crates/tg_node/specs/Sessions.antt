-- A session of one node: what comes to it, what it sends, and what it replies.
use Rattle.std.specs.Prelude.{◌≡◌, ℕ, suc, ◌+◌, List, [], ◌∷◌, ◌++◌, length, Option, Some, None}
use Rattle.std.specs.List.{flat_map}
use Rattle.tg_base.specs.Clusters.{Header}
use Rattle.tg_base.specs.declared.ids.NodeId.{NodeId}
use Rattle.tg_base.specs.declared.packet.Packet.{Packet}
use Rattle.tg_io.specs.declared.link.Arrival.{Arrival}
use Rattle.tg_model.specs.declared.command.Command.TheVariants as cmd
use Rattle.tg_link_packets.specs.Mail.{came_to, packets_from}
use Rattle.tg_link_packets.specs.declared.receiving.Came.{Came}
use Rattle.tg_link_packets.specs.declared.receiving.Came.TheVariants as came
use Rattle.tg_node.specs.Replies.{replies_in}
use Rattle.tg_node.specs.declared.asked.Asked.{Asked}
use Rattle.tg_node.specs.declared.asked.Asked.TheVariants.{Tick, Wait, Given, Update}
use Rattle.tg_node_state.specs.Nodes.{Node, NodeTurn, InputOf, node_start, node_step}
use Rattle.tg_node_state.specs.declared.input.Input.TheVariants as input
use Rattle.tg_trace.specs.Transcripts.{Reply}
use Rattle.tg_any.specs.AllKinds.{all_kinds}

abbrev pub AnyInput : Type 0
AnyInput = InputOf all_kinds

-- What a line asked, and the answers of the link's `recv` that it took.
pub record Deed : Type 0 where
  pub asked : Asked
  pub answers : List (Option Arrival)

-- What comes to the node.

abbrev pub input_of : Came → List AnyInput
input_of (came.Taken p) = input.Packet p ∷ []
input_of c = []

-- the packets for the node that came with these answers; other datagrams are passed by
abbrev pub packets_in : NodeId → List (Option Arrival) → List AnyInput
packets_in n [] = []
packets_in n (a ∷ more) = input_of (came_to n a) ++ packets_in n more

-- a wait takes what comes to the node, and no other line takes an answer
abbrev pub inputs_by : NodeId → Asked → List (Option Arrival) → List AnyInput
inputs_by n Tick answers = input.Tick ∷ []
inputs_by n (Wait calls) answers = packets_in n answers
inputs_by n (Given c) answers = input.Command c ∷ []
inputs_by n (Update oid op) answers = input.Command cmd.Begin ∷ input.Command (cmd.Put oid op) ∷ input.Command cmd.End ∷ []

abbrev pub inputs_of : NodeId → Deed → List AnyInput
inputs_of n d = inputs_by n d.asked d.answers

-- a wait has had all its answers
abbrev pub IsWhole : Asked → List (Option Arrival) → Type 0
IsWhole (Wait calls) answers = length answers ≡ calls
IsWhole a answers = answers ≡ []

-- What is counted.

abbrev pub datagrams_by : Option Arrival → ℕ → ℕ
datagrams_by None k = k
datagrams_by (Some a) k = suc k

abbrev pub datagrams_in : List (Option Arrival) → ℕ
datagrams_in [] = 0
datagrams_in (a ∷ more) = datagrams_by a (datagrams_in more)

abbrev pub answers_of : List Deed → List (Option Arrival)
answers_of [] = []
answers_of (d ∷ ds) = d.answers ++ answers_of ds

-- each input is a step
abbrev pub steps_of : NodeId → List Deed → ℕ
steps_of n [] = 0
steps_of n (d ∷ ds) = length (inputs_of n d) + steps_of n ds

abbrev pub datagrams_of : List Deed → ℕ
datagrams_of ds = datagrams_in (answers_of ds)

-- The session.

pub record Session : Type 0 where
  pub node : Node all_kinds
  pub sent : List Packet
  pub replies : List Reply

-- the node of a header, before its first step
abbrev pub opening : Header → NodeId → Session
opening h n = record { node = node_start all_kinds h n; sent = []; replies = [] }

-- a step of the node in an event
abbrev pub turned : NodeId → ℕ → Session → NodeTurn all_kinds → Session
turned n event s t = record { node = t.now; sent = s.sent ++ packets_from n t.sends; replies = s.replies ++ replies_in event n.num t.notes }

abbrev pub steps : NodeId → ℕ → AnyInput → Session → Session
steps n event i s = turned n event s (node_step all_kinds s.node i)

abbrev pub plays : NodeId → ℕ → List AnyInput → Session → Session
plays n event [] s = s
plays n event (i ∷ is) s = plays n event is (steps n event i s)

-- each line is an event
abbrev pub plays_lines : NodeId → ℕ → List Deed → Session → Session
plays_lines n event [] s = s
plays_lines n event (d ∷ ds) s = plays_lines n (suc event) ds (plays n event (inputs_of n d) s)

-- the lines after the header are numbered from 1
abbrev pub session : Header → NodeId → List Deed → Session
session h n ds = plays_lines n 1 ds (opening h n)
