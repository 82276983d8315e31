-- Packets as datagrams: what a node sends over a link, and which packet has come to it.
use Rattle.std.specs.Prelude.{◌≡◌, ◌⊎◌, ℕ, Bool, true, false, ◌&&◌, List, ◌∷◌, ◌++◌, map, Option, Some, None, Result, Ok, Err}
use Rattle.tg_base.specs.declared.ids.NodeId.{NodeId}
use Rattle.tg_base.specs.declared.packet.Out.{Out}
use Rattle.tg_base.specs.declared.packet.Packet.{Packet}
use Rattle.tg_codec.specs.Whole.{whole}
use Rattle.tg_wire.specs.Packets.{packet}
use Rattle.tg_base.specs.Orders.{node_eq}
use Rattle.tg_io.specs.Acts.{Act, Goes, Comes}
use Rattle.tg_io.specs.Bytes.{Grows}
use Rattle.tg_io.specs.Links.{Adds}
use Rattle.tg_io.specs.declared.link.Arrival.{Arrival}
use Rattle.tg_io.specs.declared.link.Sent.{Sent}
use Rattle.tg_link_packets.specs.declared.receiving.Came.{Came}
use Rattle.tg_link_packets.specs.declared.receiving.Came.TheVariants.{Nothing, Stranger, Taken}

-- a packet on a link: its spelling, from the node that sends it to the node that it is for
abbrev pub sent_of : Packet → Sent
sent_of p = record { from = p.from; to = p.to; datagram = packet.spell p }

abbrev pub all_sent : List Packet → List Sent
all_sent ps = map sent_of ps

-- what a node sends, as packets
abbrev pub packet_from : NodeId → Out → Packet
packet_from n o = record { from = n; to = o.to; rid = o.rid; msg = o.msg }

abbrev pub packets_from : NodeId → List Out → List Packet
packets_from n outs = map (packet_from n) outs

abbrev pub taken_if : Bool → Packet → Came
taken_if true p = Taken p
taken_if false p = Stranger

abbrev pub taken_by : NodeId → NodeId → Result Packet ℕ → Came
taken_by n to (Ok p) = taken_if (node_eq p.to n && node_eq to n) p
taken_by n to (Err at) = Stranger

-- What comes to a node: nothing; the packet that a datagram spells, where the packet is for the node and the datagram came
-- to it; or another datagram, which is passed by.
abbrev pub came_to : NodeId → Option Arrival → Came
came_to n None = Nothing
came_to n (Some a) = taken_by n a.to (whole packet a.datagram)

-- packets that go out one after another, as what a program does with a link
abbrev pub all_gone : List Packet → List Act
all_gone ps = map (λ p. Goes (sent_of p)) ps

-- What a link is sent, and what a program does with it, before a call and after it.
pub record Outgoing : Type 0 where
  pub sent : Option (List Sent)
  pub acts : Option (List Act)

-- these packets went out, in order, and nothing else was done
pub record GoesOut (before : Outgoing) (ps : List Packet) (after : Outgoing) : Type 0 where
  pub sent : Grows before.sent (all_sent ps) after.sent
  pub acts : Grows before.acts (all_gone ps) after.acts

-- Of what a node has to send, all before the one that failed went out, and nothing after it.
pub record IsCutOff (node : NodeId) (outs : List Out) (before after : Outgoing) : Type 0 where
  pub done : List Out
  pub failed : Out
  pub rest : List Out
  pub split : outs ≡ done ++ failed ∷ rest
  pub gone : GoesOut before (packets_from node done) after

-- at most one answer was handed
abbrev pub HandsOne : Option (List Act) → Option (List Act) → Type 0
HandsOne before after = (after ≡ before) ⊎ ((a : Option Arrival) × Adds before (Comes a) after)
