-- One log over all reconfigurations: what holds of its cells and its entries.
use Rattle.std.specs.Prelude.{◌≡◌, ◌≢◌, ℕ, ◌<◌, ◌≤◌, ◌⊎◌, true, List, [], ◌∷◌, ◌++◌, map, Option, Some, None, Contains}
use Rattle.tg_base.specs.Clusters.{Header}
use Rattle.tg_base.specs.declared.cell.Cell.{Cell}
use Rattle.tg_base.specs.declared.ids.Oid.{Oid}
use Rattle.tg_base.specs.declared.marks.Part.{Part}
use Rattle.tg_base.specs.declared.marks.ReadMark.{ReadMark}
use Rattle.tg_base.specs.declared.marks.StreamLink.{StreamLink}
use Rattle.tg_base.specs.declared.msg.Msg.TheVariants as msg
use Rattle.tg_entry.specs.declared.entry.Body.TheVariants.{Checkpoint}
use Rattle.tg_entry.specs.declared.entry.Entry.{Entry}
use Rattle.tg_entry.specs.Format.{tag_of}
use Rattle.tg_kind.specs.Meaning.{Meaning}
use Rattle.tg_model.specs.declared.trace.What.TheVariants as told
use Rattle.tg_model.specs.Kinds.{MarkOf, WhatOf}
use Rattle.tg_model.specs.Stores.{state_at}
use Rattle.tg_model.specs.Traces.{Trace, Tells, puts_of, point_of}
use Rattle.tg_model.specs.Legal.{AnswersRight, CommitsRight, EntriesRight, HasNoAsk, InOrder}
use Rattle.tg_protocol.specs.Words.{directory}
use Rattle.tg_entry.specs.Needs.{needs_decision, reads_of, writes_of}
use Rattle.tg_protocol.specs.Entries.{is_commit, lists, streams_of}
use Rattle.tg_entry.specs.Records.{linked}
use Rattle.tg_protocol.specs.Appending.{Append}
use Rattle.tg_protocol.specs.Checkpoints.{base_at}
use Rattle.tg_protocol.specs.Views.{Base}
use Rattle.tg_protocol.specs.Clients.{Task, Appending, Work, write_of}
use Rattle.tg_protocol.specs.ClientSteps.{task_in}
use Rattle.tg_protocol.specs.Worlds.{World, Told, unit, client, trace, log, history}
use Rattle.tg_protocol.specs.Runs.{Moves, Passes}
use Rattle.tg_protocol.specs.Alike.{SentTo, HasEntry, HasRecord, HasDecision}

module _ (m : Meaning) where
  -- the log has some cell at a position
  abbrev pub HasCell : World m → ℕ → Type 0
  HasCell w p = (c : Cell) × Contains (log m w) (p, c)

  -- Cells stay: what the log has, it has in every later world.
  abbrev pub LogStays : World m → World m → Type 0
  LogStays w v = (p : ℕ) (c : Cell) → Contains (log m w) (p, c) → Contains (log m v) (p, c)

  -- Once: no two entries have the same client, kind of body and number.
  abbrev pub EntriesOnce : World m → Type 0
  EntriesOnce w = (p q : ℕ) (e f : Entry) → HasEntry m w p e → HasEntry m w q f →
      e.head.client ≡ f.head.client → tag_of e.body ≡ tag_of f.body → e.head.number ≡ f.head.number → p ≡ q

  -- Issued and linked: an entry has exactly the links that were issued to its client with its position.

  pub record IssuedTo (w : World m) (k p : ℕ) (links : List StreamLink) : Type 0 where
    pub rid : ℕ
    pub sent : SentTo m w k rid (msg.Issued p links)

  abbrev pub EntriesLinked : World m → Type 0
  EntriesLinked w = (p : ℕ) (e : Entry) → HasEntry m w p e → IssuedTo w e.head.client p e.head.streams

  -- Own records: an entry is the draft of an append that its client began, with other links.

  abbrev pub append_of : Task m → Option Append
  append_of (Appending a x) = Some a
  append_of t = None

  -- what a client appends
  abbrev pub append_by : Option (Work m) → Option Append
  append_by None = None
  append_by (Some v) = append_of (task_in m v.hand)

  pub record WasBegun (h : Header) (ms : Moves m) (e : Entry) : Type 0 where
    pub at : World m
    pub passed : Passes m h ms at
    pub append : Append
    pub begun : append_by (client m at e.head.client).work ≡ Some append
    pub draft : e ≡ linked append.draft e.head.streams
    pub streams : streams_of e ≡ streams_of append.draft

  abbrev pub EntriesOwn : Header → Moves m → World m → Type 0
  EntriesOwn h ms w = (p : ℕ) (e : Entry) → HasEntry m w p e → WasBegun h ms e

  -- A commit record is that of a transaction which was ended: its writes spell what was put, in order, and its reads
  -- name what was asked.

  pub record AskedOf (w : World m) (k x : ℕ) (o : Oid) (part : Part) : Type 0 where
    pub ask : m.ask
    pub at : ℕ
    pub answer : m.answer
    pub asked : Tells m (trace m w) k x (told.Asked o ask at answer)
    pub looks : m.look ask ≡ part

  pub record ReadsOf (e : Entry) (o : Oid) (part : Part) : Type 0 where
    pub read : ReadMark
    pub here : Contains (reads_of e) read
    pub oid : read.oid ≡ o
    pub of_part : read.part ≡ part

  pub record IsRecord (w : World m) (e : Entry) : Type 0 where
    pub ended : Tells m (trace m w) e.head.client e.head.number told.End
    pub writes : writes_of e ≡ map (λ (x : Oid × m.op). write_of m x.0 x.1) (puts_of m (trace m w) e.head.client e.head.number)
    pub asked : (o : Oid) (k : Part) → ReadsOf e o k → AskedOf w e.head.client e.head.number o k
    pub read : (o : Oid) (k : Part) → AskedOf w e.head.client e.head.number o k → ReadsOf e o k

  abbrev pub RecordsOwn : World m → Type 0
  RecordsOwn w = (p : ℕ) (e : Entry) → HasEntry m w p e → is_commit e ≡ true → IsRecord w e

  -- What is told of a transaction's record, or of a checkpoint, stands in the log.

  pub record HasCheckpoint (w : World m) (p k : ℕ) (o : Oid) : Type 0 where
    pub entry : Entry
    pub here : HasEntry m w p entry
    pub by : entry.head.client ≡ k
    pub upto : ℕ
    pub version : ℕ
    pub whole : ℕ
    pub keys : List (Part × ℕ)
    pub state : List ℕ
    pub saves : entry.body ≡ Checkpoint o upto version whole keys state

  -- which reply tells of what
  abbrev pub HasItsRecord : World m → ℕ → ℕ → WhatOf m → Type 0
  HasItsRecord w k x (told.Committed p) = puts_of m (trace m w) k x ≢ [] → HasRecord m w p k x
  HasItsRecord w k x (told.Aborted p o part seen now) = HasRecord m w p k x
  HasItsRecord w k x (told.Unsure p q) = HasRecord m w p k x
  HasItsRecord w k x (told.Saved o p u) = HasCheckpoint w p k o
  HasItsRecord w k x what = Unit {0}

  abbrev pub RepliesHaveRecords : World m → Type 0
  RepliesHaveRecords w = (t : Told m) → Contains w.told t → HasItsRecord w t.mark.client t.mark.tx t.mark.what

  -- Order: no place of a transaction precedes a reply that came before its `begin`; nor does its record, committed or
  -- not.
  pub record RecordsInOrder (w : World m) : Type 0 where
    pub places : InOrder m (history m w) (trace m w)
    pub records : (before after : Trace m) (b r : MarkOf m) (p n : ℕ) → trace m w ≡ before ++ b ∷ after → b.what ≡ told.Begin → 0 < b.tx →
        Contains before r → point_of m (trace m w) r ≡ Some p → HasRecord m w n b.client b.tx → p ≤ n

  -- Where each transaction has only asks, or only puts, its answers and its places are right.

  abbrev pub IsSerial : World m → Type 0
  IsSerial w = (k x : ℕ) → (puts_of m (trace m w) k x ≡ []) ⊎ HasNoAsk m (trace m w) k x

  pub record IsRight (w : World m) : Type 0 where
    pub answers : AnswersRight m w.cluster.objects (history m w) (trace m w)
    pub commits : CommitsRight m w.cluster.objects (history m w) (trace m w)
    pub entries : EntriesRight m w.cluster.objects (history m w) (trace m w)

  abbrev pub SerialFirst : World m → Type 0
  SerialFirst w = IsSerial w → IsRight w

  -- Forgetting: below the floor of the directory that a client has played, the log is whole.
  abbrev pub FloorsStay : World m → Type 0
  FloorsStay w = (k p : ℕ) → p < m.floor (state_at m w.cluster.objects (history m w) (client m w k).played directory) → HasCell w p

  -- an object has a checkpoint, at or past a position, that reaches it
  pub record HasBasePast (w : World m) (o : Oid) (n : ℕ) : Type 0 where
    pub at : ℕ
    pub later : n ≤ at
    pub entry : Entry
    pub here : HasEntry m w at entry
    pub base : Base m
    pub gives : base_at m o entry ≡ Some base
    pub reaches : n ≤ base.upto

  -- What a unit has trimmed is in the log for good, and nobody needs it: an object with an entry there has a later
  -- base.
  pub record TrimsSpare (w : World m) : Type 0 where
    pub whole : (u p : ℕ) → p < (unit m w u).low → HasCell w p
    pub based : (u p : ℕ) (e : Entry) (o : Oid) → p < (unit m w u).low → HasEntry m w p e → lists e o ≡ true → HasBasePast w o (unit m w u).low

  -- An object is marked only where it has a checkpoint that reaches the mark, and where each record of its stream below
  -- the mark that needs a decision record has one.
  pub record MarksRest (w : World m) : Type 0 where
    pub based : (t : Told m) (o : Oid) (n : ℕ) → Contains w.told t → t.mark.what ≡ told.Marked o n → HasBasePast w o n
    pub decided : (t : Told m) (o : Oid) (n p : ℕ) (e : Entry) → Contains w.told t → t.mark.what ≡ told.Marked o n →
        HasEntry m w p e → p < n → lists e o ≡ true → needs_decision e ≡ true → HasDecision m w p
