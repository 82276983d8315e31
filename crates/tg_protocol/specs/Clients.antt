-- A client: its state, and the tests that a command has to pass before any work.
use Rattle.std.specs.Prelude.{ℕ, Bool, not, ◌&&◌, nat_lt, nat_le, List, [], ◌∷◌, filter, length, Option, Some, None, is_some, if◌then◌else◌}
use Rattle.tg_base.specs.Layouts.{Layout}
use Rattle.tg_base.specs.Clusters.{Header}
use Rattle.tg_base.specs.declared.cell.Cell.{Cell}
use Rattle.tg_base.specs.declared.fault.Many.TheVariants as many
use Rattle.tg_base.specs.declared.ids.Oid.{Oid}
use Rattle.tg_base.specs.declared.marks.Part.{Part}
use Rattle.tg_base.specs.declared.marks.StreamLink.{StreamLink}
use Rattle.tg_entry.specs.declared.entry.WriteOp.{WriteOp}
use Rattle.tg_entry.specs.declared.entry.Entry.{Entry}
use Rattle.tg_kind.specs.Meaning.{Meaning}
use Rattle.tg_protocol.specs.Words.{has_oid, with_nums, cell_at, directory, first_some, where_true}
use Rattle.tg_base.specs.Orders.{oid_eq, oid_lt}
use Rattle.tg_proj.specs.declared.fault.ProjFault.{ProjFault}
use Rattle.tg_proj.specs.declared.fault.ProjFault.TheVariants as layout
use Rattle.tg_protocol.specs.Layouts.{first_layout, change_fault, spare_fault}
use Rattle.tg_protocol.specs.Pages.{cell_entry}
use Rattle.tg_protocol.specs.Requests.{Waits}
use Rattle.tg_protocol.specs.Appending.{Append}
use Rattle.tg_protocol.specs.Syncing.{Sync}
use Rattle.tg_protocol.specs.Walking.{Walk}
use Rattle.tg_protocol.specs.Trimming.{Trims, Copying}
use Rattle.tg_protocol.specs.Reconfiguring.{Reconf}
use Rattle.tg_protocol.specs.Views.{Entries, View, entry_if}
use Rattle.tg_protocol.specs.Transactions.{Tx, TxFault, read_fault, write_fault}
use Rattle.tg_protocol.specs.Transactions as tx
use Rattle.tg_model.specs.declared.command.Command.TheVariants as cmd
use Rattle.tg_model.specs.declared.refusal.Refusal.{Refusal}
use Rattle.tg_model.specs.declared.refusal.Refusal.TheVariants as cause
use Rattle.tg_model.specs.Kinds.{CommandOf, WhatOf}
use Rattle.tg_model.specs.Words.{word_of}

module _ (m : Meaning) where
  -- what an append of a client is for
  pub data Purpose : Type 0 where
    Writes : Purpose  -- the record of a transaction without reads
    Judged : Purpose  -- the record of one with reads, which is decided afterwards
    Decides : (answer : WhatOf m) → Purpose  -- a decision record, and the answer that is given in any case
    Rescues : (answer : WhatOf m) → Purpose  -- the decision record of a rescue
    Saves : (oid : Oid) → (upto : ℕ) → Purpose
    Marks : (number : ℕ) → (oid : Oid) → (mark : ℕ) → Purpose

  -- the machine that a client runs
  pub data Task : Type 0 where
    Syncing : (sync : Sync) → Task
    Walking : (walk : Walk) → (rest : List Oid) → Task  -- and the streams to be walked after it
    Appending : (append : Append) → (purpose : Purpose) → Task
    Trimming : (trims : Trims) → Task
    Copying' : (copying : Copying) → Task
    Reconfiguring : (reconf : Reconf) → Task

  pub data Hand : Type 0 where
    Doing : (task : Task) → Hand
    Learning : (waits : Waits) → (task : Task) → Hand  -- a newer layout, and then the task goes on

  -- a command that waits for its reply
  pub record Work : Type 0 where
    pub command : CommandOf m
    pub hand : Hand
    pub gone : ℕ  -- the greatest `Gone` that was answered to this command
    pub gone_before : ℕ  -- and what it was when the sync began
    pub tail : ℕ  -- as the last sync confirmed it
    pub lasts : List StreamLink
    pub oids : List Oid  -- the streams that are walked, rising
    pub lo : ℕ  -- from where on
    pub found : List (Oid × List ℕ)  -- their members
    pub trims : List (Oid × ℕ)  -- where their walks met a trim
    pub at : ℕ  -- the position of the record that `end` appended

  pub record Client : Type 0 where
    pub num : ℕ
    pub layouts : ℕ  -- how many layout servers there are
    pub objects : List Oid  -- the header's
    pub calls : ℕ  -- steps taken
    pub next : ℕ  -- the next request number
    pub stand : Layout
    pub cells : List (ℕ × Cell)  -- known ones, while no stream is walked
    pub hosted : List Oid  -- rising, the directory first
    pub view : Option (View m)  -- the kept one
    pub own : List ℕ  -- positions of its own commit records
    pub dir : m.state  -- the directory as last played
    pub played : ℕ  -- and the position to which that play came
    pub tx : Option Tx
    pub begun : ℕ  -- how many transactions
    pub decisions : ℕ  -- how many decision records it has begun
    pub checkpoints : ℕ  -- likewise
    pub work : Option Work

  unfoldable pub new_client : Header → ℕ → Client
  new_client h num = record {
    num = num;
    layouts = h.layouts;
    objects = h.objects;
    calls = 0;
    next = 1;
    stand = first_layout h;
    cells = [];
    hosted = directory ∷ [];
    view = None;
    own = [];
    dir = m.fresh directory h.objects;
    played = 0;
    tx = None;
    begun = 0;
    decisions = 0;
    checkpoints = 0;
    work = None;
  }

  -- Small words.

  abbrev pub upto_in : Option (View m) → ℕ
  upto_in None = 0
  upto_in (Some v) = v.upto

  -- the `upto` of the kept view, 0 where none is kept
  abbrev pub upto : Client → ℕ
  upto c = upto_in c.view

  -- a walk has the known cells while it walks

  abbrev pub task_cells : Task → List (ℕ × Cell) → List (ℕ × Cell)
  task_cells (Walking w os) cells = w.cells
  task_cells t cells = cells

  abbrev pub hand_cells : Hand → List (ℕ × Cell) → List (ℕ × Cell)
  hand_cells (Doing t) cells = task_cells t cells
  hand_cells (Learning waits t) cells = task_cells t cells

  abbrev pub work_cells : Option Work → List (ℕ × Cell) → List (ℕ × Cell)
  work_cells None cells = cells
  work_cells (Some w) cells = hand_cells w.hand cells

  abbrev pub known : Client → ℕ → Option Cell
  known c p = cell_at (work_cells c.work c.cells) p

  abbrev pub hosts_oid : Client → Oid → Bool
  hosts_oid c o = has_oid o c.hosted

  -- positions by stream
  abbrev pub positions_in : List (Oid × List ℕ) → Oid → List ℕ
  positions_in [] o = []
  positions_in (x ∷ xs) o = if oid_eq x.0 o then x.1 else positions_in xs o

  -- a stream's positions are united with further ones, and none is taken away; streams and positions rise
  abbrev pub with_positions : List (Oid × List ℕ) → Oid → List ℕ → List (Oid × List ℕ)
  with_positions [] o ps = (o, with_nums ps []) ∷ []
  with_positions (x ∷ xs) o ps =
      if oid_eq x.0 o then (x.0, with_nums ps x.1) ∷ xs else (if oid_lt o x.0 then (o, with_nums ps []) ∷ x ∷ xs else x ∷ with_positions xs o ps)

  -- Entries that a client has.

  -- the entries at these positions, as far as their pages are known
  unfoldable pub entries_at : List (ℕ × Cell) → List ℕ → Entries
  entries_at cells [] = []
  entries_at cells (p ∷ ps) = entry_if p (cell_entry (cell_at cells p)) (entries_at cells ps)

  abbrev pub positions_of : List (Oid × List ℕ) → List Oid → List ℕ
  positions_of xs [] = []
  positions_of xs (o ∷ os) = with_nums (positions_in xs o) (positions_of xs os)

  -- the positions of the members of these streams, as far as this command's own walks found them
  abbrev pub member_positions : Work → List Oid → List ℕ
  member_positions w os = positions_of w.found os

  abbrev pub below : ℕ → List ℕ → List ℕ
  below t ps = filter (λ p. nat_lt p t) ps

  -- the entries below the tail: the members of these streams, and the client's own commit records
  abbrev pub all_entries : Client → Work → List Oid → Entries
  all_entries c w os = entries_at c.cells (below w.tail (with_nums c.own (member_positions w os)))

  -- those without its own records
  abbrev pub member_entries : Client → Work → List Oid → Entries
  member_entries c w os = entries_at c.cells (below w.tail (member_positions w os))

  -- Refusals before any work, each command's in the order in which they are tested.

  abbrev pub layout_refusal : ProjFault → Refusal
  layout_refusal (layout.TooMany x) = cause.TooMany x
  layout_refusal (layout.NotClosed r) = cause.NotClosed r
  layout_refusal (layout.NoStripe r s) = cause.NoStripe r s
  layout_refusal (layout.InChain u) = cause.InChain u
  layout_refusal (layout.Returned u) = cause.Returned u
  layout_refusal (layout.NoReplica r s) = cause.NoReplica r s
  layout_refusal (layout.NotAcked u) = cause.Returned u

  abbrev pub by_layout : Option ProjFault → Option Refusal
  by_layout None = None
  by_layout (Some f) = Some (layout_refusal f)

  abbrev pub tx_refusal : TxFault → Refusal
  tx_refusal (tx.TooMany x) = cause.TooMany x
  tx_refusal (tx.TooLarge n) = cause.TooLarge n

  abbrev pub by_tx : Option TxFault → Option Refusal
  by_tx None = None
  by_tx (Some f) = Some (tx_refusal f)

  abbrev pub busy : Option Work → Option Refusal
  busy None = None
  busy (Some w) = Some (cause.Busy (word_of w.command))

  abbrev pub no_tx : Client → Option Refusal
  no_tx c = where_true (not (is_some c.tx)) cause.NoTx

  abbrev pub tx_open : Client → Option Refusal
  tx_open c = where_true (is_some c.tx) cause.TxOpen

  abbrev pub wrong_kind : Bool → Oid → Option Refusal
  wrong_kind allowed o = where_true (not allowed) (cause.WrongKind o)

  abbrev pub not_registered : Client → Oid → Option Refusal
  not_registered c o = where_true (not (m.registered c.dir o)) (cause.NotRegistered o)

  abbrev pub not_hosted : Client → Oid → Option Refusal
  not_hosted c o = where_true (not (hosts_oid c o)) (cause.NotHosted o)

  abbrev pub too_many_hosted : Client → Oid → Option Refusal
  too_many_hosted c o = where_true (not (hosts_oid c o) && nat_le 128 (length c.hosted)) (cause.TooMany many.Hosted)

  abbrev pub put_fault : Option Tx → WriteOp → Option Refusal
  put_fault None w = None
  put_fault (Some t) w = by_tx (write_fault t w)

  abbrev pub ask_fault : Option Tx → Oid → Part → Option Refusal
  ask_fault None o k = None
  ask_fault (Some t) o k = by_tx (read_fault t o k)

  abbrev pub write_of : Oid → m.op → WriteOp
  write_of o op = record { oid = o; op = m.spell op }

  -- `copy`, in the layout at which the client stands
  unfoldable pub copy_fault : Layout → ℕ → ℕ → ℕ → Option Refusal
  copy_fault p u r s = by_layout (spare_fault p (record { unit = u; range = r; stripe = s }))

  unfoldable pub tests : Client → CommandOf m → List (Option Refusal)
  tests c (cmd.Host o) = tx_open c ∷ not_registered c o ∷ too_many_hosted c o ∷ []
  tests c cmd.Begin = tx_open c ∷ []
  tests c (cmd.Put o op) = no_tx c ∷ wrong_kind (m.allows o op) o ∷ not_registered c o ∷ put_fault c.tx (write_of o op) ∷ []
  tests c (cmd.Ask o q) = no_tx c ∷ wrong_kind (m.allows_ask o q) o ∷ not_hosted c o ∷ ask_fault c.tx o (m.look q) ∷ []
  tests c cmd.End = no_tx c ∷ []
  tests c cmd.Drop = no_tx c ∷ []
  tests c (cmd.Fate p) = tx_open c ∷ []
  tests c (cmd.Decide p) = tx_open c ∷ []
  tests c (cmd.Checkpoint o) = tx_open c ∷ not_hosted c o ∷ []
  tests c (cmd.Forget o n) = tx_open c ∷ not_hosted c o ∷ []
  tests c cmd.Trim = tx_open c ∷ []
  tests c (cmd.Reconf x) = tx_open c ∷ by_layout (change_fault c.stand x) ∷ []
  tests c (cmd.Copy u r s) = tx_open c ∷ copy_fault c.stand u r s ∷ []
  tests c (cmd.AskAt p o q) = tx_open c ∷ wrong_kind (m.allows_ask o q) o ∷ not_hosted c o ∷ []
  tests c (cmd.Rescue p) = tx_open c ∷ []

  -- why a command is refused in the step that takes it
  unfoldable pub refusal : Client → CommandOf m → Option Refusal
  refusal c x = first_some (busy c.work ∷ tests c x)

  abbrev pub tx_number : Option Tx → ℕ
  tx_number None = 0
  tx_number (Some t) = t.number

  -- the number of the transaction that a mark speaks of: 0 on `busy`, `no-tx` and `tx-open`, and on other commands' marks
  abbrev pub number_on : Client → Refusal → ℕ
  number_on c (cause.Busy x) = 0
  number_on c cause.NoTx = 0
  number_on c cause.TxOpen = 0
  number_on c _ = tx_number c.tx
