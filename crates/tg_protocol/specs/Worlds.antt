-- All nodes of a cluster, all packets that were ever sent, and one step of it.
use Rattle.std.specs.Prelude.{ℕ, zero, suc, ◌+◌, ◌-◌, Bool, true, false, not, ◌&&◌, ◌==◌, nat_lt, nat_le, List, [], ◌∷◌, ◌++◌, map, filter, length, replicate, slice_get, slice_set, slice_index_or, Option, Some, None, is_some, if◌then◌else◌}
use Rattle.std.specs.List.{list_any}
use Rattle.tg_base.specs.Layouts.{Layout}
use Rattle.tg_base.specs.Clusters.{Header}
use Rattle.tg_base.specs.declared.cell.Cell.{Cell}
use Rattle.tg_base.specs.declared.fault.Which.{Which}
use Rattle.tg_base.specs.declared.fault.Which.TheVariants as which
use Rattle.tg_base.specs.declared.ids.NodeId.{NodeId}
use Rattle.tg_base.specs.declared.ids.Oid.{Oid}
use Rattle.tg_base.specs.declared.ids.Role.{Role}
use Rattle.tg_base.specs.declared.ids.Role.TheVariants as role
use Rattle.tg_base.specs.declared.msg.Msg.{Msg}
use Rattle.tg_base.specs.declared.packet.Out.{Out}
use Rattle.tg_base.specs.declared.packet.Packet.{Packet}
use Rattle.tg_kind.specs.Meaning.{Meaning}
use Rattle.tg_base.specs.Orders.{node_eq}
use Rattle.tg_protocol.specs.Words.{unit_id, layout_id, seqr_id, client_id, with_cell, numbers, first_some, where_true}
use Rattle.tg_protocol.specs.Layouts.{first_layout}
use Rattle.tg_protocol.specs.Units.{UnitState, UnitTurn, new_unit, unit_step}
use Rattle.tg_protocol.specs.LayoutServers.{LayoutState, new_layout, layout_step}
use Rattle.tg_protocol.specs.Sequencers.{SeqrState, SeqrTurn, new_seqr, seqr_step, seqr_tick}
use Rattle.tg_protocol.specs.Entries.{sum_of}
use Rattle.tg_protocol.specs.Sizes.{packet_size}
use Rattle.tg_protocol.specs.Logs.{Log, newest, log_of, history_of}
use Rattle.tg_model.specs.declared.command.Command.TheVariants as cmd
use Rattle.tg_model.specs.declared.command.Event.TheVariants.{Command as Commands, Deliver, Lose, Tick, Stop}
use Rattle.tg_model.specs.Kinds.{CommandOf, EventOf, NoteOf, MarkOf, DoneOf}
use Rattle.tg_protocol.specs.Clients.{Client, new_client, upto}
use Rattle.tg_protocol.specs.ClientSteps.{ClientTurn, client_command, client_deliver, client_tick}

-- what a world notes of a client when it is given a command while none waits
pub record CommandStart : Type 0 where
  pub next : ℕ  -- its next request number: answers from there on are of this command
  pub epoch : ℕ
  pub upto : ℕ

module _ (m : Meaning) where
  -- a mark, with what was noted of its client
  pub record Told : Type 0 where
    pub mark : MarkOf m
    pub noted : CommandStart

  pub record World : Type 0 where
    pub cluster : Header
    pub units : List UnitState
    pub layouts : List LayoutState
    pub seqrs : List SeqrState
    pub clients : List (Client m)
    pub stopped : List NodeId
    pub packets : List Packet  -- in the order in which they were sent
    pub waiting : List ℕ  -- those that were neither delivered nor lost, rising
    pub delivered : List ℕ  -- the last one first; a packet may be delivered again
    pub archive : Log  -- cells of the log that were trimmed
    pub told : List Told
    pub noted : List CommandStart  -- by client
    pub event : ℕ
    pub steps : ℕ
    pub bytes : ℕ  -- of all packets

  -- Nodes.

  abbrev pub unit : World → ℕ → UnitState
  unit w n = slice_index_or w.units n new_unit

  abbrev pub layout : World → ℕ → LayoutState
  layout w n = slice_index_or w.layouts n (new_layout (first_layout w.cluster))

  abbrev pub seqr : World → ℕ → SeqrState
  seqr w n = slice_index_or w.seqrs n (new_seqr n w.cluster.limit (first_layout w.cluster))

  abbrev pub client : World → ℕ → Client m
  client w n = slice_index_or w.clients n (new_client m w.cluster n)

  abbrev pub noted_of : World → ℕ → CommandStart
  noted_of w n = slice_index_or w.noted n (record { next = 1; epoch = 1; upto = 0 })

  abbrev pub has_stopped : World → NodeId → Bool
  has_stopped w n = list_any (node_eq n) w.stopped

  abbrev pub count_of : World → Role → ℕ
  count_of w role.Unit = length w.units
  count_of w role.Layout = length w.layouts
  count_of w role.Seqr = length w.seqrs
  count_of w role.Client = length w.clients

  -- the header declares the node, and it hasn't stopped
  abbrev pub runs : World → NodeId → Bool
  runs w n = nat_lt n.num (count_of w n.role) && not (has_stopped w n)

  unfoldable pub start : Header → World
  start h = record {
    cluster = h;
    units = replicate h.units new_unit;
    layouts = replicate h.layouts (new_layout (first_layout h));
    seqrs = map (λ n. new_seqr n h.limit (first_layout h)) (numbers h.seqs 0);
    clients = map (new_client m h) (numbers h.clients 0);
    stopped = [];
    packets = [];
    waiting = [];
    delivered = [];
    archive = [];
    told = [];
    noted = replicate h.clients (record { next = 1; epoch = 1; upto = 0 });
    event = 0;
    steps = 0;
    bytes = 0;
  }

  -- What is told of a world.

  abbrev pub trace : World → List (MarkOf m)
  trace w = map (λ (t : Told). t.mark) w.told

  unfoldable pub latest : World → Layout
  latest w = newest (first_layout w.cluster) w.packets w.cluster.layouts

  unfoldable pub log : World → Log
  log w = log_of (latest w) w.units w.archive

  unfoldable pub history : World → List (DoneOf m)
  history w = history_of m (log w)

  -- Sending.

  abbrev pub packet_of : NodeId → Out → Packet
  packet_of from o = record { from = from; to = o.to; rid = o.rid; msg = o.msg }

  abbrev pub sends : World → List Packet → World
  sends w ps = record w {
    packets = w.packets ++ ps;
    waiting = w.waiting ++ numbers (length ps) (length w.packets);
    bytes = w.bytes + sum_of (map packet_size ps);
  }

  -- an answer goes to the node that asked, with its number
  abbrev pub answer_to : Packet → Option Msg → List Packet
  answer_to p None = []
  answer_to p (Some x) = record { from = p.to; to = p.from; rid = p.rid; msg = x } ∷ []

  abbrev pub mark_of : World → ℕ → NoteOf m → Told
  mark_of w k n = record { mark = record { event = w.event; client = k; tx = n.tx; what = n.what }; noted = noted_of w k }

  -- Moves of one node.

  -- the cells of the log below a unit's new `low`, and those that it drops
  abbrev pub archived : List (ℕ × Cell) → ℕ → Log → Log
  archived [] low archive = archive
  archived (x ∷ xs) low archive = if nat_lt x.0 low then with_cell (archived xs low archive) x.0 x.1 else archived xs low archive

  abbrev pub archive_after : World → UnitState → ℕ → Bool → Log
  archive_after w s low false = w.archive
  archive_after w s low true = archived (log w) low (archived s.cells low w.archive)

  abbrev pub unit_moved : World → ℕ → Packet → UnitTurn → Log → World
  unit_moved w n p t archive = sends (record w { units = slice_set w.units n t.now; archive = archive }) (answer_to p t.says)

  -- at a trim
  unfoldable pub unit_moves : World → ℕ → Packet → World
  unit_moves w n p = unit_moved w n p (unit_step (unit w n) p.msg)
      (archive_after w (unit w n) (unit_step (unit w n) p.msg).now.low (nat_lt (unit w n).low (unit_step (unit w n) p.msg).now.low))

  unfoldable pub layout_moves : World → ℕ → Packet → World
  layout_moves w n p = sends (record w { layouts = slice_set w.layouts n (layout_step (layout w n) p.msg).now }) (answer_to p (layout_step (layout w n) p.msg).says)

  abbrev pub seqr_turned : World → ℕ → SeqrTurn → World
  seqr_turned w n t = sends (record w { seqrs = slice_set w.seqrs n t.now }) (map (packet_of (seqr_id n)) t.sends)

  unfoldable pub seqr_moves : World → ℕ → Packet → World
  seqr_moves w n p = seqr_turned w n (seqr_step (seqr w n) p.from p.rid p.msg)

  unfoldable pub client_turned : World → ℕ → ClientTurn m → World
  client_turned w n t = sends (record w {
    clients = slice_set w.clients n t.now;
    told = w.told ++ map (mark_of w n) t.notes;
  }) (map (packet_of (client_id n)) t.sends)

  abbrev pub client_moves : World → ℕ → Packet → World
  client_moves w n p = client_turned w n (client_deliver m (client w n) p.from p.rid p.msg)

  abbrev pub moves : World → Packet → Role → World
  moves w p role.Unit = unit_moves w p.to.num p
  moves w p role.Layout = layout_moves w p.to.num p
  moves w p role.Seqr = seqr_moves w p.to.num p
  moves w p role.Client = client_moves w p.to.num p

  -- a packet comes to a node that runs
  abbrev pub comes : Bool → World → Packet → World
  comes true w p = moves w p p.to.role
  comes false w p = w

  abbrev pub without_num : ℕ → List ℕ → List ℕ
  without_num i xs = filter (λ j. not (i == j)) xs

  abbrev pub handed : World → ℕ → World
  handed w i = record w { waiting = without_num i w.waiting; delivered = i ∷ w.delivered }

  abbrev pub delivers : World → ℕ → Option Packet → World
  delivers w i None = w
  delivers w i (Some p) = comes (runs w p.to) (handed w i) p

  -- Commands and ticks.

  abbrev pub noted_if : Bool → World → ℕ → Client m → World
  noted_if true w n c = w
  noted_if false w n c = record w { noted = slice_set w.noted n (record { next = c.next; epoch = c.stand.epoch; upto = upto m c }) }

  abbrev pub commands : Bool → World → ℕ → CommandOf m → World
  commands true w n x = client_turned (noted_if (is_some (client w n).work) w n (client w n)) n (client_command m (client w n) x)
  commands false w n x = w

  abbrev pub ticks : World → ℕ → Role → World
  ticks w n role.Unit = w
  ticks w n role.Layout = w
  ticks w n role.Seqr = seqr_turned w n (seqr_tick (seqr w n))
  ticks w n role.Client = client_turned w n (client_tick m (client w n))

  abbrev pub ticks_if : Bool → World → NodeId → World
  ticks_if true w n = ticks w n.num n.role
  ticks_if false w n = w

  abbrev pub stops_if : Bool → World → NodeId → World
  stops_if true w n = record w { stopped = n ∷ w.stopped }
  stops_if false w n = w

  abbrev pub counted : World → World
  counted w = record w { steps = w.steps + 1 }

  abbrev pub effect : World → EventOf m → World
  effect w (Commands k x) = commands (runs w (client_id k)) w k x
  effect w (Deliver i) = delivers w i (slice_get w.packets i)
  effect w (Lose i) = record w { waiting = without_num i w.waiting }
  effect w (Tick n) = ticks_if (runs w n) w n
  effect w (Stop n) = stops_if (runs w n) w n

  -- one step: an event on a stopped node does nothing but count
  unfoldable pub happens : World → EventOf m → World
  happens w e = counted (effect w e)

  -- Limits.

  unfoldable pub limit_of : World → Option Which
  limit_of w = first_some (where_true (nat_le 200000 w.steps) which.Steps ∷ where_true (nat_le 268435456 w.bytes) which.Bytes ∷ [])

  -- a run of several steps, and the limit that stopped it
  pub record Ran : Type 0 where
    pub world : World
    pub stopped : Option Which

  abbrev pub ran : World → Option Which → Ran
  ran w s = record { world = w; stopped = s }

  -- the lowest packet that was neither delivered nor lost
  abbrev pub lowest : List ℕ → Option ℕ
  lowest [] = None
  lowest (i ∷ is) = Some i

  -- deliveries, until there is no such packet or a limit is reached; n is how many steps are left
  unfoldable pub drain_on : ℕ → World → Ran
  drain_on zero w = ran w (limit_of w)
  drain_on (suc n) w = elim (lowest w.waiting) as (λ _. Ran) [
    | None ↦ ran w None
    | Some i ↦ elim (limit_of w) as (λ _. Ran) [
      | Some x ↦ ran w (Some x)
      | None ↦ drain_on n (happens w (Deliver i))
    ]
  ]

  unfoldable pub drain : World → Ran
  drain w = drain_on (200001 - w.steps) w

  abbrev pub nodes : World → List NodeId
  nodes w = map unit_id (numbers (length w.units) 0) ++ map layout_id (numbers (length w.layouts) 0)
      ++ map seqr_id (numbers (length w.seqrs) 0) ++ map client_id (numbers (length w.clients) 0)

  -- one tick of each of these nodes that runs
  unfoldable pub tick_all : List NodeId → World → Ran
  tick_all [] w = ran w None
  tick_all (n ∷ ns) w = elim (runs w n) as (λ _. Ran) [
    | false ↦ tick_all ns w
    | true ↦ elim (limit_of w) as (λ _. Ran) [
      | Some x ↦ ran w (Some x)
      | None ↦ tick_all ns (happens w (Tick n))
    ]
  ]

  -- on where no limit was reached
  abbrev pub unless_stopped : Ran → (World → Ran) → Ran
  unless_stopped r f = elim (r.stopped) as (λ _. Ran) [ Some x ↦ r | None ↦ f r.world ]

  -- rounds of ticks and a drain, so many at most; a round whose ticks sent nothing is the last
  unfoldable pub rounds : ℕ → World → Ran
  rounds zero w = ran w None
  rounds (suc n) w = unless_stopped (tick_all (nodes w) w) (λ v.
      elim (length v.packets == length w.packets) as (λ _. Ran) [
        | true ↦ drain v
        | false ↦ unless_stopped (drain v) (λ u. rounds n u)
      ])

  unfoldable pub settle : World → Ran
  settle w = unless_stopped (drain w) (λ v. rounds 8 v)

  -- Scripts.

  pub data Line : Type 0 where
    Happens : (event : EventOf m) → Line
    Update : (client : ℕ) → (oid : Oid) → (op : m.op) → Line
    Drain : Line
    Settle : Line

  -- each line is one event; an update is begin, put and end in a row
  abbrev pub next_event : World → World
  next_event w = record w { event = w.event + 1 }

  abbrev pub updates : World → ℕ → Oid → m.op → World
  updates w k o op = happens (happens (happens w (Commands k cmd.Begin)) (Commands k (cmd.Put o op))) (Commands k cmd.End)

  unfoldable pub line : World → Line → World
  line w (Happens e) = happens (next_event w) e
  line w (Update k o op) = updates (next_event w) k o op
  line w Drain = (drain (next_event w)).world
  line w Settle = (settle (next_event w)).world

  unfoldable pub lines : List Line → World → World
  lines [] w = w
  lines (x ∷ xs) w = lines xs (line w x)

  -- the world that a script makes
  abbrev pub replay : Header → List Line → World
  replay h xs = lines xs (start h)
