-- A client that waits for a sync and walks.
use Rattle.std.specs.Prelude.{◌≡◌, ◌⊎◌, ℕ, zero, suc, ◌+◌, ◌^◌, ◌<◌, ◌≤◌, nat_lt, true, false, List, length, Some, None, ⊤}
use Rattle.tg_base.specs.Layouts.{Layout}
use Rattle.tg_base.specs.declared.cell.Cell.{Cell}
use Rattle.tg_base.specs.declared.cell.Cell.TheVariants.{Data}
use Rattle.tg_base.specs.declared.ids.Oid.{Oid}
use Rattle.tg_base.specs.declared.marks.StreamLink.{StreamLink}
use Rattle.tg_base.specs.declared.packet.Out.{Out}
use Rattle.tg_entry.specs.declared.entry.Entry.{Entry}
use Rattle.tg_kind.specs.Meaning.{Meaning}
use Rattle.tg_protocol.specs.Words.{cell_at, too_far}
use Rattle.tg_model.specs.declared.command.Command.TheVariants as cmd
use Rattle.tg_protocol.specs.Entries.{streams_of, link_of, backs_of}
use Rattle.tg_protocol.specs.Layouts.{chain_of, units_of}
use Rattle.tg_protocol.specs.Sequencers.{links_of, with_positions}
use Rattle.tg_protocol.specs.Appending.{Append, AppendWork, Asking, Putting, Judging, Token, append_asks, names_all}
use Rattle.tg_protocol.specs.Cells.{CellWork, Puts, Gets, Fills, Copies, Probes, CellJob, place_in}
use Rattle.tg_protocol.specs.Requests.{Waits}
use Rattle.tg_protocol.specs.Syncing.{SyncWork, Checking, Settling, Probing}
use Rattle.tg_protocol.specs.Trimming.{Trims, trim_asks, CopyWork, Reading, Storing}
use Rattle.tg_protocol.specs.Walking.{Walk}
use Rattle.tg_protocol.specs.Clients.{Judged, Task, Appending, Syncing, Walking, Trimming, Copying', Reconfiguring, Doing, Work}
use Rattle.tg_protocol.specs.ClientSteps.{task_awaited}
use Rattle.tg_protocol.specs.Worlds.{World, unit, seqr, client}
use Rattle.tg_law_layouts.proofs.Moves.Members.{Has}
use Rattle.tg_law_headline.proofs.Issues.Bounds.{AllBelow}
use Rattle.tg_law_finish.specs.Finish.Queues.{RisesWithin}
use Rattle.tg_law_finish.proofs.Finish.Askers.{Distinct}
use Rattle.tg_law_finish.proofs.Finish.Probes.{Asked}
use Rattle.tg_law_finish.proofs.Finish.Stripes.{InStripe}
use Rattle.tg_law_finish.proofs.Finish.Working.{at_chain}

module _ (m : Meaning) where
  -- where a unit of a chain has trimmed a position, each of the others has the one cell that is settled there, or
  -- has trimmed it
  abbrev pub HeldWhereTrimmed : World m → Layout → Type 0
  HeldWhereTrimmed w p = (pos j : ℕ) → j < length (chain_of p pos) → nat_lt pos (unit m w (at_chain m p pos j)).low ≡ true
      → (c : Cell) × ((i : ℕ) → i < length (chain_of p pos) → (cell_at (unit m w (at_chain m p pos i)).cells pos ≡ Some c) ⊎ (nat_lt pos (unit m w (at_chain m p pos i)).low ≡ true))

  -- what a client walks: lists name positions that were issued, and no unit stands twice in a chain, or twice among all
  pub record Walkable (w : World m) (p : Layout) : Type 0 where
    pub near : too_far (seqr m w p.seq).next ≡ false
    pub backs : (o : Oid) (os : List Oid) → AllBelow (seqr m w p.seq).next (backs_of (link_of o (links_of (seqr m w p.seq).lists os)))
    pub once : (pos : ℕ) → Distinct (chain_of p pos)
    pub units : RisesWithin 0 (units_of p) (length w.units)
    pub some_unit : 0 < length (units_of p)
    pub held : HeldWhereTrimmed w p

  -- the next position can be issued to a draft's streams: the lists can grow by it, and no unit has a cell there or
  -- past it
  pub record Grows (w : World m) (p : Layout) (d : Entry) : Type 0 where
    pub limit : (seqr m w p.seq).limit < 2 ^ 62
    pub ahead : (pos j : ℕ) → (seqr m w p.seq).next ≤ pos → j < length (chain_of p pos) → cell_at (unit m w (at_chain m p pos j)).cells pos ≡ None
    pub named : too_far ((seqr m w p.seq).next + 1) ≡ false → (ts : List Oid) → names_all ts (links_of (with_positions (seqr m w p.seq).next (streams_of d) (seqr m w p.seq).lists) ts) ≡ true
    pub lasts : (o : Oid) (ts : List Oid) → AllBelow ((seqr m w p.seq).next + 1) (backs_of (link_of o (links_of (with_positions (seqr m w p.seq).next (streams_of d) (seqr m w p.seq).lists) ts)))

  -- a transaction's record asks for its token
  pub record Owns (w : World m) (k : ℕ) (p : Layout) : Type 0 where
    pub work : Work m
    pub waits : (client m w k).work ≡ Some work
    pub command : work.command ≡ cmd.End
    pub append : Append
    pub rid : ℕ
    pub hand : work.hand ≡ Doing (Appending append Judged)
    pub first : append.work ≡ Asking rid
    pub below : rid < (client m w k).next
    pub hosted : length (client m w k).hosted ≤ 128
    pub grows : Grows w p append.draft

  -- the client waits for units to trim
  pub record Trims' (w : World m) (k : ℕ) (p : Layout) : Type 0 where
    pub work : Work m
    pub waits : (client m w k).work ≡ Some work
    pub trims : Trims
    pub hand : work.hand ≡ Doing (Trimming trims)
    pub asked : Asked (units_of p) trims.waits
    pub below : (o : Out) → Has (trim_asks p trims) o → o.rid < (client m w k).next

  -- A client in a sync or in a walk.

  -- a cell goes down a chain: the first unit has it, or has trimmed it; and where a unit has trimmed it, so has
  -- each other one
  pub record CarriesDown (w : World m) (p : Layout) (pos : ℕ) (c : Cell) : Type 0 where
    pub first : nat_lt pos (unit m w (at_chain m p pos 0)).low ≡ false → cell_at (unit m w (at_chain m p pos 0)).cells pos ≡ Some c
    pub held : (j : ℕ) → j < length (chain_of p pos) → nat_lt pos (unit m w (at_chain m p pos j)).low ≡ true
        → (i : ℕ) → i < length (chain_of p pos) → (cell_at (unit m w (at_chain m p pos i)).cells pos ≡ Some c) ⊎ (nat_lt pos (unit m w (at_chain m p pos i)).low ≡ true)

  abbrev pub CellStands : World m → Layout → ℕ → CellWork → Type 0
  CellStands w p pos (Gets r) = ⊤
  CellStands w p pos (Fills r) = ⊤
  CellStands w p pos (Copies r c i) = (i < length (chain_of p pos)) × CarriesDown w p pos c
  CellStands w p pos (Puts r d i) = ⊥
  CellStands w p pos (Probes ws) = ⊥

  -- an issued position is read
  pub record JobStands (w : World m) (p : Layout) (j : CellJob) : Type 0 where
    pub place : j.place ≡ place_in p j.place.pos
    pub less : j.place.pos < (seqr m w p.seq).next
    pub work : CellStands w p j.place.pos j.work

  -- what a copy reads and stores is of its stripe
  abbrev pub CopyStands : World m → Layout → ℕ → ℕ → CopyWork → Type 0
  CopyStands w p r s (Reading j) = JobStands w p j × InStripe p r s j.place.pos
  CopyStands w p r s (Storing i pos c) = InStripe p r s pos
  CopyStands w p r s y = ⊤

  -- a page goes down a chain, whose first unit has it, or has trimmed it, where another is asked
  abbrev pub PutStands : World m → Layout → ℕ → CellWork → Type 0
  PutStands w p pos (Puts r d zero) = ⊤
  PutStands w p pos (Puts r d (suc i)) = (suc i < length (chain_of p pos)) × CarriesDown w p pos (Data d)
  PutStands w p pos (Gets r) = ⊥
  PutStands w p pos (Fills r) = ⊥
  PutStands w p pos (Copies r c i) = ⊥
  PutStands w p pos (Probes ws) = ⊥

  pub record PageStands (w : World m) (p : Layout) (j : CellJob) : Type 0 where
    pub place : j.place ≡ place_in p j.place.pos
    pub less : j.place.pos < (seqr m w p.seq).next
    pub work : PutStands w p j.place.pos j.work

  -- with a token, whose position was issued
  abbrev pub TokenStands : World m → Layout → AppendWork → Type 0
  TokenStands w p (Asking r) = ⊥
  TokenStands w p (Putting j) = PageStands w p j
  TokenStands w p (Judging j) = JobStands w p j

  -- a transaction's record has its token
  pub record Holds (w : World m) (k : ℕ) (p : Layout) : Type 0 where
    pub work : Work m
    pub waits : (client m w k).work ≡ Some work
    pub command : work.command ≡ cmd.End
    pub append : Append
    pub hand : work.hand ≡ Doing (Appending append Judged)
    pub token : Token
    pub has : append.token ≡ Some token
    pub stands : TokenStands w p append.work
    pub below : (o : Out) → Has (append_asks p append) o → o.rid < (client m w k).next
    pub hosted : length (client m w k).hosted ≤ 128
    pub grows : Grows w p append.draft

  pub record ProbeStands (p : Layout) (j : CellJob) : Type 0 where
    pub place : j.place ≡ place_in p j.place.pos
    pub waits : Waits
    pub work : j.work ≡ Probes waits
    pub asked : Asked j.place.chain waits

  -- the last positions of each stream were issued
  abbrev pub LastsBelow : World m → Layout → List StreamLink → Type 0
  LastsBelow w p ls = (o : Oid) → AllBelow (seqr m w p.seq).next (backs_of (link_of o ls))

  abbrev pub SyncStands : World m → Layout → SyncWork → Type 0
  SyncStands w p (Checking r) = ⊤
  SyncStands w p (Settling a j) = LastsBelow w p a.lasts × JobStands w p j
  SyncStands w p (Probing a j) = LastsBelow w p a.lasts × ProbeStands p j

  pub record WalkStands (w : World m) (p : Layout) (v : Work m) (x : Walk) (os : List Oid) : Type 0 where
    pub lasts : LastsBelow w p v.lasts
    pub pointers : AllBelow (seqr m w p.seq).next x.trail.pointers
    pub last : x.trail.last ≤ (seqr m w p.seq).next
    pub job : CellJob
    pub has : x.job ≡ Some job
    pub stands : JobStands w p job
    pub fewer : length os < length v.oids

  abbrev pub TaskStands : World m → Layout → Work m → Task m → Type 0
  TaskStands w p v (Syncing s) = SyncStands w p s.work
  TaskStands w p v (Walking x os) = WalkStands w p v x os
  TaskStands w p v (Appending a y) = ⊥
  TaskStands w p v (Trimming t) = ⊥
  TaskStands w p v (Copying' x) = ⊥
  TaskStands w p v (Reconfiguring x) = ⊥

  -- where the client's sync or walk stands
  pub record Reads (w : World m) (k : ℕ) (p : Layout) : Type 0 where
    pub work : Work m
    pub waits : (client m w k).work ≡ Some work
    pub task : Task m
    pub hand : work.hand ≡ Doing task
    pub stands : TaskStands w p work task
    pub below : (o : Out) → Has (task_awaited m p task) o → o.rid < (client m w k).next
