-- All packets that were ever sent, and which of them were delivered or lost.
use Rattle.std.specs.Prelude.{◌≡◌, ℕ, ◌+◌, ◌-◌, ◌^◌, not, ◌==◌, min, List, [], ◌∷◌, ◌++◌, filter, map, length, Option, Some, None}
use Rattle.tg_base.specs.declared.ids.NodeId.{NodeId}
use Rattle.tg_base.specs.declared.msg.Msg.{Msg}
use Rattle.tg_base.specs.declared.packet.Out.{Out}
use Rattle.tg_base.specs.declared.packet.Packet.{Packet}
use Rattle.tg_protocol.specs.Words.{numbers}
use Rattle.tg_protocol.specs.Entries.{sum_of}
use Rattle.tg_protocol.specs.Sizes.{packet_size}

-- packets are numbered from 0, in the order in which they were sent
pub record PostState : Type 0 where
  pub packets : List Packet
  pub waiting : List ℕ  -- those that were neither delivered nor lost, rising
  pub delivered : List ℕ  -- the last one first; a packet may be delivered again
  pub bytes : ℕ  -- of all packets

abbrev pub new_post : PostState
new_post = record { packets = []; waiting = []; delivered = []; bytes = 0 }

-- what a node sends, as a packet
abbrev pub packet_from : NodeId → Out → Packet
packet_from from o = record { from = from; to = o.to; rid = o.rid; msg = o.msg }

-- the packet of an answer, if there is one
abbrev pub answer_from : NodeId → NodeId → ℕ → Option Msg → List Packet
answer_from from to rid None = []
answer_from from to rid (Some x) = record { from = from; to = to; rid = rid; msg = x } ∷ []

abbrev pub bytes_of : List Packet → ℕ
bytes_of ps = sum_of (map packet_size ps)

-- these packets are sent
abbrev pub posted : PostState → List Packet → PostState
posted s ps = record s {
  packets = s.packets ++ ps;
  waiting = s.waiting ++ numbers (length ps) (length s.packets);
  bytes = s.bytes + bytes_of ps;
}

abbrev pub without : ℕ → List ℕ → List ℕ
without i xs = filter (λ j. not (i == j)) xs

-- a packet is delivered, for the first time or again
abbrev pub handed : PostState → ℕ → PostState
handed s i = record s { waiting = without i s.waiting; delivered = i ∷ s.delivered }

-- a packet is lost
abbrev pub lost : PostState → ℕ → PostState
lost s i = record s { waiting = without i s.waiting }

abbrev pub first_of : List ℕ → Option ℕ
first_of [] = None
first_of (i ∷ is) = Some i

-- a number as 64 bits count it: no further than to the greatest
abbrev pub capped : ℕ → ℕ
capped n = min n (2 ^ 64 - 1)

-- the row of those that wait has a place for each packet, and the bytes are counted
pub record IsCounted (packets : List Packet) (sent bytes : ℕ) : Type 0 where
  pub all : sent ≡ length packets
  pub counted : bytes ≡ capped (bytes_of packets)
