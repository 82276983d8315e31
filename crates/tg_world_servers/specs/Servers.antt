-- The servers of a world: units, layout servers and sequencers, with all packets, the archive, and which nodes have
-- stopped. Their moves are those of the world, of which they are the part that knows no client.
use Rattle.std.specs.Prelude.{ℕ, ◌+◌, Bool, true, false, not, ◌&&◌, nat_lt, nat_le, List, [], ◌∷◌, ◌++◌, length, map, replicate, slice_set, slice_index_or, Option, Some, None}
use Rattle.std.specs.List.{list_any}
use Rattle.tg_base.specs.Clusters.{Header}
use Rattle.tg_base.specs.Layouts.{Layout}
use Rattle.tg_base.specs.declared.fault.Which.{Which}
use Rattle.tg_base.specs.declared.fault.Which.TheVariants as which
use Rattle.tg_base.specs.declared.ids.NodeId.{NodeId}
use Rattle.tg_base.specs.declared.ids.Role.{Role}
use Rattle.tg_base.specs.declared.ids.Role.TheVariants as role
use Rattle.tg_base.specs.declared.packet.Out.{Out}
use Rattle.tg_base.specs.declared.packet.Packet.{Packet}
use Rattle.tg_base.specs.Orders.{node_eq}
use Rattle.tg_protocol.specs.Words.{numbers, seqr_id, first_some, where_true}
use Rattle.tg_protocol.specs.Layouts.{first_layout}
use Rattle.tg_protocol.specs.Units.{UnitState, UnitTurn, new_unit, unit_step}
use Rattle.tg_protocol.specs.LayoutServers.{LayoutState, LayoutTurn, new_layout, layout_step}
use Rattle.tg_protocol.specs.Sequencers.{SeqrState, SeqrTurn, new_seqr, seqr_step, seqr_tick}
use Rattle.tg_protocol.specs.Logs.{Log, newest, log_of}
use Rattle.tg_world_servers.specs.Posts.{PostState, new_post, posted, packet_from, answer_from, handed, lost}
use Rattle.tg_world_log.specs.Archives.{archived}

pub record ServersState : Type 0 where
  pub cluster : Header
  pub units : List UnitState
  pub layouts : List LayoutState
  pub seqrs : List SeqrState
  pub stopped : List NodeId  -- clients among them
  pub post : PostState
  pub archive : Log  -- cells of the log that were trimmed
  pub steps : ℕ

unfoldable pub servers_start : Header → ServersState
servers_start h = record {
  cluster = h;
  units = replicate h.units new_unit;
  layouts = replicate h.layouts (new_layout (first_layout h));
  seqrs = map (λ n. new_seqr n h.limit (first_layout h)) (numbers h.seqs 0);
  stopped = [];
  post = new_post;
  archive = [];
  steps = 0;
}

-- Nodes.

abbrev pub unit_at : ServersState → ℕ → UnitState
unit_at s n = slice_index_or s.units n new_unit

abbrev pub layout_at : ServersState → ℕ → LayoutState
layout_at s n = slice_index_or s.layouts n (new_layout (first_layout s.cluster))

abbrev pub seqr_at : ServersState → ℕ → SeqrState
seqr_at s n = slice_index_or s.seqrs n (new_seqr n s.cluster.limit (first_layout s.cluster))

abbrev pub has_stopped : ServersState → NodeId → Bool
has_stopped s n = list_any (node_eq n) s.stopped

abbrev pub count_of : ServersState → Role → ℕ
count_of s role.Unit = length s.units
count_of s role.Layout = length s.layouts
count_of s role.Seqr = length s.seqrs
count_of s role.Client = s.cluster.clients

-- the header declares the node, and it hasn't stopped
abbrev pub runs : ServersState → NodeId → Bool
runs s n = nat_lt n.num (count_of s n.role) && not (has_stopped s n)

-- a node of a role
abbrev pub node_of : Role → ℕ → NodeId
node_of r n = record { role = r; num = n }

-- all nodes
abbrev pub nodes : ServersState → List NodeId
nodes s = map (node_of role.Unit) (numbers (length s.units) 0) ++ map (node_of role.Layout) (numbers (length s.layouts) 0)
    ++ map (node_of role.Seqr) (numbers (length s.seqrs) 0) ++ map (node_of role.Client) (numbers s.cluster.clients 0)

-- The log.

abbrev pub latest : ServersState → Layout
latest s = newest (first_layout s.cluster) s.post.packets s.cluster.layouts

abbrev pub log : ServersState → Log
log s = log_of (latest s) s.units s.archive

-- Moves, each of which counts as a step.

abbrev pub counted : ServersState → ServersState
counted s = record s { steps = s.steps + 1 }

-- the archive after a unit's `low` rose, or didn't
abbrev pub archive_by : Layout → List UnitState → Log → UnitState → ℕ → Bool → Log
archive_by q us archive u low false = archive
archive_by q us archive u low true = archived (log_of q us archive) low (archived u.cells low archive)

abbrev pub unit_turned : ServersState → Packet → UnitTurn → Log → ServersState
unit_turned s p t archive = record s {
  units = slice_set s.units p.to.num t.now;
  post = posted s.post (answer_from p.to p.from p.rid t.says);
  archive = archive;
}

-- the unit that a packet names takes it
unfoldable pub unit_takes : ServersState → Packet → ServersState
unit_takes s p = unit_turned s p (unit_step (unit_at s p.to.num) p.msg)
    (archive_by (latest s) s.units s.archive (unit_at s p.to.num) (unit_step (unit_at s p.to.num) p.msg).now.low
    (nat_lt (unit_at s p.to.num).low (unit_step (unit_at s p.to.num) p.msg).now.low))

abbrev pub layout_turned : ServersState → Packet → LayoutTurn → ServersState
layout_turned s p t = record s {
  layouts = slice_set s.layouts p.to.num t.now;
  post = posted s.post (answer_from p.to p.from p.rid t.says);
}

unfoldable pub layout_takes : ServersState → Packet → ServersState
layout_takes s p = layout_turned s p (layout_step (layout_at s p.to.num) p.msg)

abbrev pub seqr_turned : ServersState → ℕ → SeqrTurn → ServersState
seqr_turned s n t = record s {
  seqrs = slice_set s.seqrs n t.now;
  post = posted s.post (map (packet_from (seqr_id n)) t.sends);
}

unfoldable pub seqr_takes : ServersState → Packet → ServersState
seqr_takes s p = seqr_turned s p.to.num (seqr_step (seqr_at s p.to.num) p.from p.rid p.msg)

unfoldable pub seqr_ticks : ServersState → ℕ → ServersState
seqr_ticks s n = seqr_turned s n (seqr_tick (seqr_at s n))

-- the server that a packet names takes it; a client is no server
abbrev pub takes : ServersState → Packet → Role → ServersState
takes s p role.Unit = unit_takes s p
takes s p role.Layout = layout_takes s p
takes s p role.Seqr = seqr_takes s p
takes s p role.Client = s

-- a server that runs takes it
abbrev pub taken : Bool → ServersState → Packet → ServersState
taken true s p = takes s p p.to.role
taken false s p = s

abbrev pub ticks : ServersState → ℕ → Role → ServersState
ticks s n role.Unit = s
ticks s n role.Layout = s
ticks s n role.Seqr = seqr_ticks s n
ticks s n role.Client = s

abbrev pub ticked : Bool → ServersState → NodeId → ServersState
ticked true s n = ticks s n.num n.role
ticked false s n = s

abbrev pub receiver_of : Option Packet → Option NodeId
receiver_of None = None
receiver_of (Some p) = Some p.to

abbrev pub stops : ServersState → NodeId → ServersState
stops s n = record s { stopped = n ∷ s.stopped }

abbrev pub sends : ServersState → NodeId → List Out → ServersState
sends s from outs = record s { post = posted s.post (map (packet_from from) outs) }

abbrev pub hands : ServersState → ℕ → ServersState
hands s i = record s { post = handed s.post i }

abbrev pub loses : ServersState → ℕ → ServersState
loses s i = record s { post = lost s.post i }

-- Limits.

unfoldable pub servers_limit : ServersState → Option Which
servers_limit s = first_some (where_true (nat_le 200000 s.steps) which.Steps ∷ where_true (nat_le 268435456 s.post.bytes) which.Bytes ∷ [])
