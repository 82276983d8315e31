-- Clients that reconfigure one layout at once, the layout servers, and all packets between them.
use Rattle.std.specs.Prelude.{ℕ, ◌+◌, Bool, true, false, ◌&&◌, nat_lt, List, [], ◌∷◌, ◌++◌, map, length, slice_get, slice_set, Option, Some, None}
use Rattle.tg_base.specs.Layouts.{Layout}
use Rattle.tg_base.specs.Changes.{Changed}
use Rattle.tg_base.specs.declared.ids.NodeId.{NodeId}
use Rattle.tg_base.specs.declared.ids.Role.{Role}
use Rattle.tg_base.specs.declared.ids.Role.TheVariants as role
use Rattle.tg_base.specs.declared.msg.Msg.{Msg}
use Rattle.tg_base.specs.declared.packet.Out.{Out}
use Rattle.tg_base.specs.declared.packet.Packet.{Packet}
use Rattle.tg_base.specs.Orders.{node_eq}
use Rattle.tg_protocol.specs.Words.{layout_id, client_id, unit_id}
use Rattle.tg_protocol.specs.Requests.{awaits, drawn_from, Next, Goes, Learns, Ends}
use Rattle.tg_protocol.specs.Replies.{Reply, IsLatest, reply}
use Rattle.tg_protocol.specs.LayoutServers.{LayoutState, LayoutTurn, layout_step}
use Rattle.tg_protocol.specs.Reconfiguring.{Reconf, ReconfEnd, ReconfTurn, reconf_start, reconf_asks, reconf_awaited, reconf_again_asks, reconf_feed, reconf_latest}

-- A client, and what it works at; its number is its place. One that has ended, or never began, works at nothing.
pub record Proposer : Type 0 where
  pub next : ℕ  -- its next request number
  pub work : Option Reconf

pub record Contest : Type 0 where
  pub servers : List LayoutState
  pub proposers : List Proposer
  pub packets : List Packet  -- all that were ever sent

-- what may happen, in any order and any number of times
pub data Event : Type 0 where
  Arrives : (at : ℕ) → Event  -- a packet that was sent, for the first time or again
  Answers : (unit to rid : ℕ) → (msg : Msg) → Event  -- a unit answers a client, whatever it likes
  Ticks : (client : ℕ) → Event

-- Sending.

abbrev pub packet_of : NodeId → Out → Packet
packet_of from o = record { from = from; to = o.to; rid = o.rid; msg = o.msg }

abbrev pub packets_of : NodeId → List Out → List Packet
packets_of from outs = map (packet_of from) outs

-- A client's step.

-- one that has to learn a newer layout first stays at its work
abbrev pub goes_on : Next Reconf ReconfEnd → Option Reconf
goes_on (Goes r) = Some r
goes_on (Learns r) = Some r
goes_on (Ends e) = None

abbrev pub asks_of : Option Reconf → List Out
asks_of None = []
asks_of (Some r) = reconf_asks r

abbrev pub resent : Option Reconf → List Out
resent None = []
resent (Some r) = reconf_again_asks r

-- the client after a turn
abbrev pub turned : ReconfTurn → Proposer
turned t = record { next = t.next; work = goes_on t.to }

-- what it sends by a turn: its new requests; those of a round that a `Nack` has set wait for a tick
abbrev pub sent_by : ℕ → ReconfTurn → List Out
sent_by next t = drawn_from next (asks_of (goes_on t.to))

pub record ProposerTurn : Type 0 where
  pub now : Proposer
  pub sends : List Out

abbrev pub rests : Proposer → ProposerTurn
rests p = record { now = p; sends = [] }

abbrev pub after : Proposer → ReconfTurn → ProposerTurn
after p t = record { now = turned t; sends = sent_by p.next t }

abbrev pub fed_if : Bool → Proposer → ReconfTurn → ProposerTurn
fed_if true p t = after p t
fed_if false p t = rests p

-- a newer layout is taken of any layout server, and else only an awaited answer
abbrev pub hears_reply : Proposer → Reconf → NodeId → ℕ → Reply → ProposerTurn
hears_reply p r from rid (IsLatest q) =
    fed_if (node_eq from (layout_id from.num) && nat_lt r.stand.epoch q.epoch) p (reconf_latest r r.work from.num rid q p.next)
hears_reply p r from rid x = fed_if (awaits (reconf_awaited r) from rid) p (reconf_feed r r.work from.num rid x p.next)

abbrev pub hears_at : Proposer → Option Reconf → NodeId → ℕ → Msg → ProposerTurn
hears_at p None from rid m = rests p
hears_at p (Some r) from rid m = hears_reply p r from rid (reply m)

unfoldable pub hears : Proposer → NodeId → ℕ → Msg → ProposerTurn
hears p from rid m = hears_at p p.work from rid m

-- One step of a contest.

abbrev pub client_turned : Contest → ℕ → ProposerTurn → Contest
client_turned w k t = record w { proposers = slice_set w.proposers k t.now; packets = w.packets ++ packets_of (client_id k) t.sends }

abbrev pub to_client : Contest → ℕ → NodeId → ℕ → Msg → Option Proposer → Contest
to_client w k from rid m None = w
to_client w k from rid m (Some p) = client_turned w k (hears p from rid m)

abbrev pub answer_to : Packet → Option Msg → List Packet
answer_to p None = []
answer_to p (Some x) = record { from = p.to; to = p.from; rid = p.rid; msg = x } ∷ []

abbrev pub server_turned : Contest → Packet → LayoutTurn → Contest
server_turned w p t = record w { servers = slice_set w.servers p.to.num t.now; packets = w.packets ++ answer_to p t.says }

abbrev pub to_server : Contest → Packet → Option LayoutState → Contest
to_server w p None = w
to_server w p (Some s) = server_turned w p (layout_step s p.msg)

-- packets to units go out of sight, and come back as answers
abbrev pub comes : Contest → Packet → Role → Contest
comes w p role.Layout = to_server w p (slice_get w.servers p.to.num)
comes w p role.Client = to_client w p.to.num p.from p.rid p.msg (slice_get w.proposers p.to.num)
comes w p _ = w

abbrev pub arrives : Contest → Option Packet → Contest
arrives w None = w
arrives w (Some p) = comes w p p.to.role

abbrev pub ticks : Contest → ℕ → Option Proposer → Contest
ticks w k None = w
ticks w k (Some p) = record w { packets = w.packets ++ packets_of (client_id k) (resent p.work) }

unfoldable pub happens : Contest → Event → Contest
happens w (Arrives i) = arrives w (slice_get w.packets i)
happens w (Answers u k rid m) = to_client w k (unit_id u) rid m (slice_get w.proposers k)
happens w (Ticks k) = ticks w k (slice_get w.proposers k)

unfoldable pub run : Contest → List Event → Contest
run w [] = w
run w (e ∷ es) = run (happens w e) es

-- The beginning.

-- what a client wants: to make a change, with its next request number, or nothing
pub record Wish : Type 0 where
  pub change : Option Changed
  pub next : ℕ

abbrev pub begins_by : Layout → ℕ → ℕ → ℕ → Option Changed → ProposerTurn
begins_by p servers k next None = rests (record { next = next; work = None })
begins_by p servers k next (Some c) = after (record { next = next; work = None }) (reconf_start p servers c k next)

abbrev pub begins : Layout → ℕ → ℕ → Wish → ProposerTurn
begins p servers k x = begins_by p servers k x.next x.change

-- the clients from number k on
unfoldable pub proposers_from : Layout → ℕ → ℕ → List Wish → List Proposer
proposers_from p servers k [] = []
proposers_from p servers k (x ∷ xs) = (begins p servers k x).now ∷ proposers_from p servers (k + 1) xs

unfoldable pub packets_from : Layout → ℕ → ℕ → List Wish → List Packet
packets_from p servers k [] = []
packets_from p servers k (x ∷ xs) = packets_of (client_id k) (begins p servers k x).sends ++ packets_from p servers (k + 1) xs

-- all of these clients stand at one layout, and begin at once
unfoldable pub contest : Layout → List LayoutState → List Wish → Contest
contest p servers wishes = record {
  servers = servers;
  proposers = proposers_from p (length servers) 0 wishes;
  packets = packets_from p (length servers) 0 wishes;
}
