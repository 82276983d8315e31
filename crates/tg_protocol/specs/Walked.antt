-- Where a step brings a client to the end of its walks: what it has there, before it plays.
use Rattle.std.specs.Prelude.{ℕ, Bool, true, false, not, ◌&&◌, ◌==◌, nat_lt, List, [], ◌∷◌, Option, Some, None, slice_get, if◌then◌else◌}
use Rattle.tg_base.specs.declared.ids.NodeId.{NodeId}
use Rattle.tg_base.specs.declared.ids.Oid.{Oid}
use Rattle.tg_base.specs.declared.packet.Packet.{Packet}
use Rattle.tg_kind.specs.Meaning.{Meaning}
use Rattle.tg_model.specs.declared.command.Event.TheVariants.{Deliver}
use Rattle.tg_model.specs.Kinds.{EventOf}
use Rattle.tg_base.specs.Orders.{node_eq}
use Rattle.tg_protocol.specs.Words.{layout_id, client_id}
use Rattle.tg_protocol.specs.Requests.{awaits, Next, Goes, Learns, Ends}
use Rattle.tg_protocol.specs.Replies.{Reply, IsLatest, reply}
use Rattle.tg_protocol.specs.Syncing.{Sync, Confirmed, sync_feed}
use Rattle.tg_protocol.specs.Walking.{Walk, Members, walk_feed, walk_again}
use Rattle.tg_protocol.specs.Checkpoints.{trim_of}
use Rattle.tg_protocol.specs.Views.{Entries}
use Rattle.tg_protocol.specs.Clients.{Task, Syncing, Walking, Hand, Doing, Learning, Work, Client, positions_in, all_entries}
use Rattle.tg_protocol.specs.ClientSteps.{task_awaited, task_in, after_turn, met, takes_back, found_by, start_walk, knows, lo_for, stale, gives_up, given_up_if, stands}
use Rattle.tg_protocol.specs.Worlds.{World, client, runs}

module _ (m : Meaning) where
  -- a client that has walked all streams of its command
  pub record Walked : Type 0 where
    pub client : Client m
    pub work : Work m

  -- The end to which walks come in a step, None where they come to none: they read on, sync anew, or learn a newer
  -- layout.

  -- one stream after the other, each as far as known cells lead
  unfoldable pub walks_end : List Oid → Client m → Work m → Option Walked
  walks_end [] c w = Some (record { client = c; work = w })
  walks_end (o ∷ os) c w = elim ((start_walk m c w o).to) as (λ _. Option Walked) [
    | Goes x ↦ None
    | Learns x ↦ None
    | Ends x ↦ walks_end os (takes_back m c x) (found_by m w o x)
  ]

  -- a tail is confirmed
  abbrev pub sync_end : Client m → Work m → Next Sync Confirmed → Option Walked
  sync_end c w (Ends x) = walks_end w.oids (knows m c x.settled) (record w { tail = x.tail; lasts = x.lasts; lo = lo_for m c w.command })
  sync_end c w x = None

  -- a walk has met a trim: the tail is stale, or the view is given up and all is walked from 0, or the next streams
  -- follow
  abbrev pub trim_end : Client m → Work m → List Oid → Bool → Bool → Option Walked
  trim_end c w os true over = None
  trim_end c w os false true = walks_end w.oids c (record w { lo = 0; found = []; trims = [] })
  trim_end c w os false false = walks_end os c w

  abbrev pub walked_end : Client m → Work m → Oid → List Oid → Members → Option ℕ → Option Walked
  walked_end c w o os x None = walks_end os c w
  walked_end c w o os x (Some b) =
      trim_end (given_up_if m (gives_up m c w b) c) w os (stale m c w o x b) (gives_up m c w b && not (w.lo == 0))

  -- a walk has ended
  abbrev pub walk_end : Client m → Work m → Oid → List Oid → Next Walk Members → Option Walked
  walk_end c w o os (Ends x) = walked_end (takes_back m c x) (found_by m w o x) o os x x.gone
  walk_end c w o os x = None

  -- an awaited answer
  abbrev pub task_end : Client m → Work m → Task m → ℕ → Reply → Option Walked
  task_end c w (Syncing s) n x =
      sync_end (after_turn m c (sync_feed c.stand s s.work n x c.next)) (met m w (sync_feed c.stand s s.work n x c.next)) (sync_feed c.stand s s.work n x c.next).to
  task_end c w (Walking k os) n x =
      walk_end (after_turn m c (walk_feed c.stand k k.job n x c.next)) (met m w (walk_feed c.stand k k.job n x c.next)) k.oid os (walk_feed c.stand k k.job n x c.next).to
  task_end c w t n x = None

  -- a newer layout, in which a sync starts over, and a walk goes on where it was
  abbrev pub again_end : Client m → Work m → Task m → Option Walked
  again_end c w (Walking k os) = walk_end (after_turn m c (walk_again c.stand k c.next)) (met m w (walk_again c.stand k c.next)) k.oid os (walk_again c.stand k c.next).to
  again_end c w t = None

  abbrev pub hand_end : Client m → Work m → Hand m → NodeId → ℕ → Reply → Option Walked
  hand_end c w (Doing t) from rid x = if awaits (task_awaited m c.stand t) from rid then task_end c w t from.num x else None
  hand_end c w (Learning waits t) from rid x = None

  abbrev pub reply_end : Client m → Work m → NodeId → ℕ → Reply → Option Walked
  reply_end c w from rid (IsLatest q) =
      if node_eq from (layout_id from.num) && nat_lt c.stand.epoch q.epoch then again_end (stands m c q) w (task_in m w.hand) else None
  reply_end c w from rid x = hand_end c w w.hand from rid x

  abbrev pub work_end : Client m → Option (Work m) → NodeId → ℕ → Reply → Option Walked
  work_end c None from rid x = None
  work_end c (Some w) from rid x = reply_end c w from rid x

  -- a packet that is handed to this client
  abbrev pub packet_end : World m → ℕ → Option Packet → Option Walked
  packet_end w k None = None
  packet_end w k (Some p) =
      if node_eq p.to (client_id k) && runs m w p.to then work_end (client m w k) (client m w k).work p.from p.rid (reply p.msg) else None

  -- what a client has where a step ends its walks, which only a delivery does
  abbrev pub walked_in : World m → EventOf m → ℕ → Option Walked
  walked_in w (Deliver i) k = packet_end w k (slice_get w.packets i)
  walked_in w e k = None

  -- What it has there.

  -- from where a stream was walked: from the trim that its walk met, else from where the command walks
  abbrev pub from_trim : ℕ → Option ℕ → ℕ
  from_trim lo None = lo
  from_trim lo (Some b) = b

  abbrev pub walked_from : Walked → Oid → ℕ
  walked_from x o = from_trim x.work.lo (trim_of x.work.trims o)

  -- the positions that it found of a stream
  abbrev pub positions_found : Walked → Oid → List ℕ
  positions_found x o = positions_in m x.work.found o

  -- the entries that it has below the tail: those of the streams that it walked, and its own commit records
  abbrev pub entries_had : Walked → Entries
  entries_had x = all_entries m x.client x.work x.work.oids
