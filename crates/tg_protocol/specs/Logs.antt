-- Decided layouts, the log over a cluster's units, its members and outcomes, and its history.
use Rattle.std.specs.Prelude.{ℕ, zero, suc, ◌+◌, Bool, true, false, ◌&&◌, ◌==◌, nat_lt, nat_le, List, [], ◌∷◌, slice_index_or, Option, Some, None, if◌then◌else◌}
use Rattle.std.specs.List.{list_any, list_all}
use Rattle.tg_base.specs.Layouts.{Layout}
use Rattle.tg_base.specs.declared.cell.Cell.{Cell}
use Rattle.tg_base.specs.declared.ids.Ballot.{Ballot}
use Rattle.tg_base.specs.declared.ids.Oid.{Oid}
use Rattle.tg_base.specs.declared.marks.Part.{Part}
use Rattle.tg_base.specs.declared.marks.ReadMark.{ReadMark}
use Rattle.tg_base.specs.declared.msg.Msg.{Msg}
use Rattle.tg_base.specs.declared.msg.Msg.TheVariants as msg
use Rattle.tg_base.specs.declared.packet.Packet.{Packet}
use Rattle.tg_entry.specs.declared.entry.WriteOp.{WriteOp}
use Rattle.tg_entry.specs.declared.entry.Entry.{Entry}
use Rattle.tg_kind.specs.Meaning.{Meaning}
use Rattle.tg_protocol.specs.Words.{layout_id, cell_eq, cell_at, with_nums, where_true, or_else}
use Rattle.tg_base.specs.Orders.{ballot_eq, node_eq}
use Rattle.tg_protocol.specs.Layouts.{chain_of}
use Rattle.tg_protocol.specs.Units.{UnitState, new_unit}
use Rattle.tg_entry.specs.Needs.{reads_of, writes_of}
use Rattle.tg_protocol.specs.Entries.{is_commit, lists}
use Rattle.tg_protocol.specs.Pages.{entry_in, cell_entry}
use Rattle.tg_protocol.specs.Walking.{Trail, trail, next_of_trail, trail_after, pointers_at}
use Rattle.tg_protocol.specs.Versions.{PartVersion, noted_or}
use Rattle.tg_protocol.specs.Views.{Entries, entry_if, touched}
use Rattle.tg_model.specs.Kinds.{DoneOf}

-- Decided layouts: over all packets that were ever sent.

abbrev pub is_acceptance : ℕ → Ballot → Msg → Bool
is_acceptance e b (msg.Accepted f c) = (e == f) && ballot_eq b c
is_acceptance e b _ = false

-- server n has sent that it accepted
abbrev pub has_accepted : List Packet → ℕ → Ballot → ℕ → Bool
has_accepted ps e b n = list_any (λ (p : Packet). node_eq p.from (layout_id n) && is_acceptance e b p.msg) ps

-- how many of the servers below n have
abbrev pub acceptances : List Packet → ℕ → Ballot → ℕ → ℕ
acceptances ps e b zero = 0
acceptances ps e b (suc n) = (if has_accepted ps e b n then 1 else 0) + acceptances ps e b n

abbrev pub by_majority : List Packet → ℕ → ℕ → Ballot → Bool
by_majority ps layouts e b = nat_lt layouts (acceptances ps e b layouts + acceptances ps e b layouts)

-- the layout that was proposed with this message and accepted by a majority
abbrev pub decided_by : List Packet → ℕ → Msg → Option Layout
decided_by ps layouts (msg.Accept e b q) = where_true (by_majority ps layouts e b) q
decided_by ps layouts _ = None

abbrev pub of_epoch : ℕ → Option Layout → Option Layout
of_epoch e None = None
of_epoch e (Some q) = where_true (q.epoch == e) q

abbrev pub decided_among : List Packet → ℕ → ℕ → List Packet → Option Layout
decided_among ps layouts e [] = None
decided_among ps layouts e (x ∷ xs) = or_else (of_epoch e (decided_by ps layouts x.msg)) (decided_among ps layouts e xs)

-- the layout of an epoch: the header's for epoch 1
unfoldable pub decided : Layout → List Packet → ℕ → ℕ → Option Layout
decided first ps layouts e = if e == 1 then Some first else decided_among ps layouts e ps

abbrev pub newer : Layout → Option Layout → Layout
newer p None = p
newer p (Some q) = if nat_lt p.epoch q.epoch then q else p

abbrev pub newest_among : List Packet → ℕ → Layout → List Packet → Layout
newest_among ps layouts p [] = p
newest_among ps layouts p (x ∷ xs) = newest_among ps layouts (newer p (decided_by ps layouts x.msg)) xs

-- the decided layout of the greatest epoch
unfoldable pub newest : Layout → List Packet → ℕ → Layout
newest first ps layouts = newest_among ps layouts first ps

-- The log.

abbrev pub Log : Type 0
Log = List (ℕ × Cell)

abbrev pub unit_cells : List UnitState → ℕ → List (ℕ × Cell)
unit_cells us u = (slice_index_or us u new_unit).cells

abbrev pub holds_it : Option Cell → Cell → Bool
holds_it None c = false
holds_it (Some x) c = cell_eq x c

-- every one of these units holds the cell
abbrev pub all_hold : List UnitState → ℕ → Cell → List ℕ → Bool
all_hold us p c [] = true
all_hold us p c (u ∷ rest) = holds_it (cell_at (unit_cells us u) p) c && all_hold us p c rest

abbrev pub if_all_hold : List UnitState → ℕ → List ℕ → Option Cell → Option Cell
if_all_hold us p units None = None
if_all_hold us p units (Some c) = where_true (all_hold us p c units) c

-- the cell that a whole chain holds
abbrev pub chain_cell : List UnitState → ℕ → List ℕ → Option Cell
chain_cell us p [] = None
chain_cell us p (u ∷ rest) = if_all_hold us p rest (cell_at (unit_cells us u) p)

abbrev pub log_cell : Layout → List UnitState → Log → ℕ → Option Cell
log_cell q us archive p = or_else (chain_cell us p (chain_of q p)) (cell_at archive p)

abbrev pub positions : List (ℕ × Cell) → List ℕ
positions [] = []
positions (x ∷ xs) = x.0 ∷ positions xs

abbrev pub all_positions : List UnitState → List ℕ
all_positions [] = []
all_positions (u ∷ us) = with_nums (positions u.cells) (all_positions us)

abbrev pub cell_if : ℕ → Option Cell → Log → Log
cell_if p None rest = rest
cell_if p (Some c) rest = (p, c) ∷ rest

abbrev pub cells_of : Layout → List UnitState → Log → List ℕ → Log
cells_of q us archive [] = []
cells_of q us archive (p ∷ ps) = cell_if p (log_cell q us archive p) (cells_of q us archive ps)

-- a position has the cell that every unit of its chain holds, or that the archive has
unfoldable pub log_of : Layout → List UnitState → Log → Log
log_of q us archive = cells_of q us archive (with_nums (positions archive) (all_positions us))

-- Entries of the log.

unfoldable pub entries_of : Log → Entries
entries_of [] = []
entries_of (x ∷ xs) = entry_if x.0 (entry_in x.1) (entries_of xs)

abbrev pub members_in : Entries → Oid → ℕ → ℕ → List ℕ
members_in [] o lo hi = []
members_in (x ∷ xs) o lo hi = if nat_le lo x.0 && nat_lt x.0 hi && lists x.1 o then x.0 ∷ members_in xs o lo hi else members_in xs o lo hi

-- the positions from lo on and below hi with an entry that lists the stream
unfoldable pub members : Log → Oid → ℕ → ℕ → List ℕ
members l o lo hi = members_in (entries_of l) o lo hi

abbrev pub entry_at : Log → ℕ → Option Entry
entry_at l p = cell_entry (cell_at l p)

-- The path of a walk.

-- the positions that a walk of a stream asks, from a trail on; n is past the first of them
unfoldable pub path_on : Log → Oid → ℕ → Trail → List ℕ
path_on l o zero t = []
path_on l o (suc n) t = elim (next_of_trail t) as (λ _. List ℕ) [
  | None ↦ []
  | Some q ↦ elim (cell_at l q) as (λ _. List ℕ) [
    | None ↦ q ∷ []
    | Some c ↦ q ∷ path_on l o n (trail_after t q (pointers_at o q c))
  ]
]

abbrev pub first_on : List ℕ → ℕ
first_on [] = 0
first_on (q ∷ qs) = q

-- from the last positions of a stream down by the entries' own pointers
unfoldable pub path : Log → Oid → List ℕ → List ℕ
path l o ps = path_on l o (first_on ps + 2) (trail ps 0)

-- Outcomes and history.

module _ (m : Meaning) where
  abbrev pub change_of : ℕ → WriteOp → PartVersion
  change_of p w = record { oid = w.oid; part = touched m (m.read w.oid w.op); version = p + 1 }

  -- the version of a part after these committed changes, the last one first
  abbrev pub version_after : List PartVersion → Oid → Part → ℕ
  version_after ns o k = noted_or None ns o k

  abbrev pub is_current : List PartVersion → ReadMark → Bool
  is_current ns r = version_after ns r.oid r.part == r.version

  -- a record is committed where each of its reads has the version that its part has below it
  abbrev pub commits_after : List PartVersion → Entry → Bool
  commits_after ns e = is_commit e && list_all (is_current ns) (reads_of e)

  abbrev pub with_changes : ℕ → List WriteOp → List PartVersion → List PartVersion
  with_changes p [] ns = ns
  with_changes p (w ∷ ws) ns = with_changes p ws (change_of p w ∷ ns)

  abbrev pub changes_after : List PartVersion → ℕ → Entry → List PartVersion
  changes_after ns p e = if commits_after ns e then with_changes p (writes_of e) ns else ns

  -- the committed changes of the entries below a position, the last one first
  unfoldable pub changes_below : List PartVersion → Entries → ℕ → List PartVersion
  changes_below ns [] p = ns
  changes_below ns (x ∷ xs) p = if nat_lt x.0 p then changes_below (changes_after ns x.0 x.1) xs p else ns

  unfoldable pub version : Log → Oid → Part → ℕ → ℕ
  version l o k p = version_after (changes_below [] (entries_of l) p) o k

  abbrev pub outcome_by : Log → ℕ → Option Entry → Bool
  outcome_by l p None = false
  outcome_by l p (Some e) = commits_after (changes_below [] (entries_of l) p) e

  unfoldable pub outcome : Log → ℕ → Bool
  outcome l p = outcome_by l p (entry_at l p)

  abbrev pub op_if : Oid → Option m.op → List (Oid × m.op) → List (Oid × m.op)
  op_if o None ws = ws
  op_if o (Some op) ws = (o, op) ∷ ws

  -- the ops that a record's writes spell
  abbrev pub ops_of : List WriteOp → List (Oid × m.op)
  ops_of [] = []
  ops_of (w ∷ ws) = op_if w.oid (m.read w.oid w.op) (ops_of ws)

  abbrev pub done_at : ℕ → Entry → DoneOf m
  done_at p e = record { stamp = p; client = e.head.client; number = e.head.number; writes = ops_of (writes_of e) }

  abbrev pub done_if : Bool → ℕ → Entry → List (DoneOf m) → List (DoneOf m)
  done_if true p e ds = done_at p e ∷ ds
  done_if false p e ds = ds

  abbrev pub history_after : List PartVersion → Entries → List (DoneOf m)
  history_after ns [] = []
  history_after ns (x ∷ xs) = done_if (commits_after ns x.1) x.0 x.1 (history_after (changes_after ns x.0 x.1) xs)

  -- the committed transactions of a log, by position
  unfoldable pub history_of : Log → List (DoneOf m)
  history_of l = history_after [] (entries_of l)
