-- Why commands are refused: each refusal has its cause, and a refusal keeps what the client had.
use Rattle.std.specs.Prelude.{◌≡◌, ◌≢◌, ℕ, ◌+◌, ◌<◌, ◌≤◌, ◌⊎◌, ◌++◌, ◌==◌, Bool, true, false, List, [], ◌∷◌, length, Option, Some, None, is_some, if◌then◌else◌, Contains}
use Rattle.tg_base.specs.Layouts.{Layout}
use Rattle.tg_base.specs.declared.change.Join.{Join}
use Rattle.tg_base.specs.declared.fault.Many.{Many}
use Rattle.tg_base.specs.declared.fault.Many.TheVariants as many
use Rattle.tg_base.specs.declared.ids.Oid.{Oid}
use Rattle.tg_base.specs.declared.marks.Part.{Part}
use Rattle.tg_base.specs.declared.marks.ReadMark.{ReadMark}
use Rattle.tg_base.specs.declared.marks.StreamLink.{StreamLink}
use Rattle.tg_base.specs.declared.msg.Msg.{Msg}
use Rattle.tg_base.specs.declared.msg.Msg.TheVariants as msg
use Rattle.tg_entry.specs.declared.entry.Entry.{Entry}
use Rattle.tg_entry.specs.declared.entry.WriteOp.{WriteOp}
use Rattle.tg_kind.specs.Meaning.{Meaning}
use Rattle.tg_model.specs.declared.command.Command.TheVariants as cmd
use Rattle.tg_model.specs.declared.command.Event.TheVariants.{Command as Commands}
use Rattle.tg_model.specs.declared.refusal.Refusal.{Refusal}
use Rattle.tg_model.specs.declared.refusal.Refusal.TheVariants as cause
use Rattle.tg_model.specs.declared.trace.What.TheVariants as told
use Rattle.tg_model.specs.Kinds.{CommandOf, EventOf, WhatOf}
use Rattle.tg_model.specs.Stores.{state_at}
use Rattle.tg_model.specs.Words.{word_of}
use Rattle.tg_proj.specs.Places.{chain_at}
use Rattle.tg_base.specs.Orders.{with_oid}
use Rattle.tg_protocol.specs.Words.{client_id, unit_id, directory, or_else}
use Rattle.tg_protocol.specs.Layouts.{change_fault, next_of}
use Rattle.tg_entry.specs.Needs.{needs_decision, reads_of}
use Rattle.tg_protocol.specs.Entries.{is_commit, lists, entry_size}
use Rattle.tg_protocol.specs.Transactions.{Tx, read_before, with_read, tx_streams, record_size}
use Rattle.tg_protocol.specs.Logs.{version}
use Rattle.tg_protocol.specs.Checkpoints.{base_at, checkpoint}
use Rattle.tg_protocol.specs.Views.{Base, View, base_of, decision_in, unknown_by}
use Rattle.tg_protocol.specs.Clients.{Client, Work, hosts_oid, write_of, by_layout, copy_fault}
use Rattle.tg_protocol.specs.Worlds.{World, Told, client, runs, log, history, happens}
use Rattle.tg_protocol.specs.Chosen.{Sent}
use Rattle.tg_protocol.specs.Alike.{SentNow, HasEntry, OvertakenBy}
use Rattle.tg_protocol.specs.Stuck.{asks_for, command_in, WalkMetTrim}
use Rattle.tg_protocol.specs.Walked.{Walked, walked_in, entries_had}
use Rattle.tg_protocol.specs.Playing.{Replies, Answers}

-- how many there may be
abbrev pub most : Many → ℕ
most many.Streams = 16
most many.Reads = 64
most many.Writes = 64
most many.Hosted = 128
most many.Ranges = 32
most many.Units = 5

abbrev pub tx_reads : Option Tx → List ReadMark
tx_reads None = []
tx_reads (Some t) = t.reads

abbrev pub tx_writes : Option Tx → List WriteOp
tx_writes None = []
tx_writes (Some t) = t.writes

-- the chain that a unit joins
abbrev pub joined_chain : Layout → Option Join → List ℕ
joined_chain q None = []
joined_chain q (Some j) = chain_at q.ranges j.range j.stripe

-- the message is about the cell of a position
abbrev pub is_at : ℕ → Msg → Bool
is_at p (msg.Write e q d) = p == q
is_at p x = asks_for p x

module _ (m : Meaning) where
  -- the directory of a client is that of the history, at the position to which the client has played it
  abbrev pub DirectoryTrue : World m → Type 0
  DirectoryTrue w = (k : ℕ) → (client m w k).dir ≡ state_at m w.cluster.objects (history m w) (client m w k).played directory

  -- Causes that stand when a command is given.

  -- a command of a transaction wants one open, and any other wants none
  abbrev pub is_of_tx : CommandOf m → Bool
  is_of_tx (cmd.Put o op) = true
  is_of_tx (cmd.Ask o q) = true
  is_of_tx cmd.End = true
  is_of_tx cmd.Drop = true
  is_of_tx x = false

  -- its op or ask isn't one of the object's
  abbrev pub IsWrong : CommandOf m → Oid → Type 0
  IsWrong (cmd.Put p op) o = (p ≡ o) × (m.allows o op ≡ false)
  IsWrong (cmd.Ask p q) o = (p ≡ o) × (m.allows_ask o q ≡ false)
  IsWrong (cmd.AskAt at p q) o = (p ≡ o) × (m.allows_ask o q ≡ false)
  IsWrong x o = ⊥

  -- it wants the object registered
  abbrev pub Names : CommandOf m → Oid → Type 0
  Names (cmd.Host p) o = p ≡ o
  Names (cmd.Put p op) o = p ≡ o
  Names x o = ⊥

  -- it wants the object hosted
  abbrev pub AsksOf : CommandOf m → Oid → Type 0
  AsksOf (cmd.Ask p q) o = p ≡ o
  AsksOf (cmd.Checkpoint p) o = p ≡ o
  AsksOf (cmd.Forget p n) o = p ≡ o
  AsksOf (cmd.AskAt at p q) o = p ≡ o
  AsksOf x o = ⊥

  -- the reads and writes that the transaction would have with it
  abbrev pub reads_with : Option Tx → CommandOf m → List ReadMark
  reads_with t (cmd.Ask o q) = with_read (record { oid = o; part = m.look q; version = 0 }) (tx_reads t)
  reads_with t x = tx_reads t

  abbrev pub writes_with : Option Tx → CommandOf m → List WriteOp
  writes_with t (cmd.Put o op) = tx_writes t ++ write_of m o op ∷ []
  writes_with t x = tx_writes t

  abbrev pub hosted_with : List Oid → CommandOf m → List Oid
  hosted_with os (cmd.Host o) = with_oid o os
  hosted_with os x = os

  abbrev pub ranges_with : Layout → CommandOf m → ℕ
  ranges_with p (cmd.Reconf c) = length (next_of p c 0 0).ranges
  ranges_with p x = 0

  abbrev pub units_with : Layout → CommandOf m → ℕ
  units_with p (cmd.Reconf c) = length (joined_chain (next_of p c 0 0) c.join)
  units_with p x = 0

  -- how many there would be with it
  abbrev pub would_be : Client m → CommandOf m → Many → ℕ
  would_be c x many.Streams = length (tx_streams (writes_with c.tx x))
  would_be c x many.Reads = length (reads_with c.tx x)
  would_be c x many.Writes = length (writes_with c.tx x)
  would_be c x many.Hosted = length (hosted_with c.hosted x)
  would_be c x many.Ranges = ranges_with c.stand x
  would_be c x many.Units = units_with c.stand x

  -- why the layout may not change so, or the stripe not be copied
  abbrev pub layout_cause : Layout → CommandOf m → Option Refusal
  layout_cause p (cmd.Reconf c) = by_layout m (change_fault p c)
  layout_cause p (cmd.Copy u r s) = copy_fault m p u r s
  layout_cause p x = None

  abbrev pub CauseAtOnce : World m → ℕ → CommandOf m → Refusal → Type 0
  CauseAtOnce w k x (cause.Busy word) = (v : Work m) × ((client m w k).work ≡ Some v) × (word_of v.command ≡ word)
  CauseAtOnce w k x cause.NoTx = (is_of_tx x ≡ true) × ((client m w k).tx ≡ None)
  CauseAtOnce w k x cause.TxOpen = (is_of_tx x ≡ false) × (is_some (client m w k).tx ≡ true)
  CauseAtOnce w k x (cause.WrongKind o) = IsWrong x o
  CauseAtOnce w k x (cause.NotRegistered o) = Names x o × (m.registered (state_at m w.cluster.objects (history m w) (client m w k).played directory) o ≡ false)
  CauseAtOnce w k x (cause.NotHosted o) = AsksOf x o × (hosts_oid m (client m w k) o ≡ false)
  CauseAtOnce w k x (cause.TooMany what) = most what < would_be (client m w k) x what
  CauseAtOnce w k x (cause.TooLarge n) = (4096 < n) × (n ≡ record_size (reads_with (client m w k).tx x) (writes_with (client m w k).tx x))
  CauseAtOnce w k x (cause.NotClosed r) = layout_cause (client m w k).stand x ≡ Some (cause.NotClosed r)
  CauseAtOnce w k x (cause.NoStripe r s) = layout_cause (client m w k).stand x ≡ Some (cause.NoStripe r s)
  CauseAtOnce w k x (cause.InChain u) = layout_cause (client m w k).stand x ≡ Some (cause.InChain u)
  CauseAtOnce w k x (cause.Returned u) = layout_cause (client m w k).stand x ≡ Some (cause.Returned u)
  CauseAtOnce w k x (cause.NoReplica r s) = layout_cause (client m w k).stand x ≡ Some (cause.NoReplica r s)
  CauseAtOnce w k x why = ⊥

  -- Causes that are met at work.

  -- a commit record that reads something of an object
  pub record HasReadOf (w : World m) (p : ℕ) (o : Oid) : Type 0 where
    pub entry : Entry
    pub here : HasEntry m w p entry
    pub commit : is_commit entry ≡ true
    pub read : ReadMark
    pub reads : Contains (reads_of entry) read
    pub of : read.oid ≡ o

  -- a tail that was told for the command is above a position
  pub record IsBelowTail (w : World m) (t : Told m) (p : ℕ) : Type 0 where
    pub tail : ℕ
    pub links : List StreamLink
    pub synced : SentNow m w t (msg.Tail tail links)
    pub below : p < tail

  -- the entry is one for the client's view: it is a record of its own, whose append has ended, or stands in a stream
  -- that it hosts
  abbrev pub IsFor : Client m → ℕ → Entry → Type 0
  IsFor c p e = Contains c.own p ⊎ ((s : Oid) × (hosts_oid m c s ≡ true) × (lists e s ≡ true))

  -- the client's view doesn't know the version of what a record reads: the object isn't hosted, or begins later, with
  -- a later version
  pub record IsUnknown (w : World m) (t : Told m) (p : ℕ) (o : Oid) : Type 0 where
    pub reads : HasReadOf w p o
    pub seen : IsFor (client m w t.mark.client) p reads.entry
    pub below : IsBelowTail w t p
    pub view : View m
    pub is : (client m w t.mark.client).view ≡ Some view
    pub unknown : unknown_by m p (base_of m view o) reads.read ≡ true

  -- where this step ends the client's walks, it has no decision record for a position
  pub record LacksDecision (w : World m) (e : EventOf m) (t : Told m) (p : ℕ) : Type 0 where
    pub had : Walked m
    pub walked : walked_in m w e t.mark.client ≡ Some had
    pub none : decision_in (entries_had m had) p ≡ None

  -- the object isn't hosted, or its stream was walked as far as a trim
  abbrev pub IsOutOfReach : World m → Told m → Oid → Type 0
  IsOutOfReach w t o = (hosts_oid m (client m w t.mark.client) o ≡ false) ⊎ WalkMetTrim m w t o

  -- what a record reads is unknown to the client's view; for a record below a past position it is out of reach, and
  -- for one at or below that of a rescue its stream was walked as far as a trim
  abbrev pub CantKnow : CommandOf m → World m → Told m → ℕ → Oid → Type 0
  CantKnow (cmd.AskAt at p q) w t pos o = (pos < at) × HasReadOf w pos o × IsOutOfReach w t o
  CantKnow (cmd.Rescue at) w t pos o = (pos ≤ at) × HasReadOf w pos o × WalkMetTrim m w t o
  CantKnow x w t pos o = IsUnknown w t pos o

  -- no checkpoint of the object below the tail reaches the mark
  pub record HasNoBase (w : World m) (t : Told m) (o : Oid) (mark : ℕ) : Type 0 where
    pub tail : ℕ
    pub links : List StreamLink
    pub synced : SentNow m w t (msg.Tail tail links)
    pub none : (p : ℕ) (e : Entry) (b : Base m) → HasEntry m w p e → p < tail → base_at m o e ≡ Some b → mark ≤ b.upto → ⊥

  -- a record of the object's stream below the mark needs a decision record, and the client has none; it is the least
  -- such that it has
  pub record IsOpen (w : World m) (e : EventOf m) (t : Told m) (o : Oid) (mark p : ℕ) : Type 0 where
    pub entry : Entry
    pub here : HasEntry m (happens m w e) p entry
    pub in_stream : lists entry o ≡ true
    pub needs : needs_decision entry ≡ true
    pub below : p < mark
    pub lacks : LacksDecision w e t p
    pub least : (q : ℕ) (d : Entry) → Contains (entries_had m lacks.had) (q, d) → q < p → lists d o ≡ true → needs_decision d ≡ true →
        is_some (decision_in (entries_had m lacks.had) q) ≡ true

  -- a unit answered a request of this command
  pub record Answered (w : World m) (t : Told m) (asks : Msg → Type 0) (u : ℕ) (answer : Msg) : Type 0 where
    pub rid : ℕ
    pub now : t.noted.next ≤ rid
    pub request : Msg
    pub asked : asks request
    pub was_asked : Sent m w (record { from = client_id t.mark.client; to = unit_id u; rid = rid; msg = request })
    pub was_answered : Sent m w (record { from = unit_id u; to = client_id t.mark.client; rid = rid; msg = answer })

  -- the command names the position, and its walk was told that all is trimmed below another
  abbrev pub NamedTrimmed : CommandOf m → World m → Told m → ℕ → ℕ → Type 0
  NamedTrimmed (cmd.Fate p) w t at below = (p ≡ at) × (at < below) × SentNow m w t (msg.Gone below)
  NamedTrimmed (cmd.Decide p) w t at below = (p ≡ at) × (at < below) × SentNow m w t (msg.Gone below)
  NamedTrimmed (cmd.Rescue p) w t at below = (p ≡ at) × (at < below) × SentNow m w t (msg.Gone below)
  NamedTrimmed (cmd.AskAt p o q) w t at below = (p ≡ at) × SentNow m w t (msg.Gone below)
  NamedTrimmed x w t at below = ⊥

  -- its own record was at a position that is trimmed
  abbrev pub OwnTrimmed : World m → Told m → ℕ → ℕ → Type 0
  OwnTrimmed w t at below = (u : ℕ) × (at < below) × Answered w t (λ x. is_at at x ≡ true) u (msg.Gone below)

  abbrev pub IsLook : Msg → Type 0
  IsLook (msg.Has e lo hi step) = Unit {0}
  IsLook x = ⊥

  abbrev pub IsAhead : CommandOf m → World m → Told m → ℕ → Type 0
  IsAhead (cmd.AskAt p o q) w t tail = (tail < p) × ((links : List StreamLink) × SentNow m w t (msg.Tail tail links))
  IsAhead x w t tail = ⊥

  abbrev pub IsTooLarge : CommandOf m → World m → Told m → ℕ → Type 0
  IsTooLarge (cmd.Checkpoint o) w t n = (4096 < n) × ((v : View m) × ((client m w t.mark.client).view ≡ Some v) × (n ≡ entry_size (checkpoint m v o v.upto t.mark.client 1)))
  IsTooLarge x w t n = ⊥

  abbrev pub IsForget : CommandOf m → (Oid → ℕ → Type 0) → Type 0
  IsForget (cmd.Forget o n) P = P o n
  IsForget x P = ⊥

  -- a rescue has 128 objects in hand already
  abbrev pub IsWide : World m → ℕ → Type 0
  IsWide before k = (v : Work m) × ((client m before k).work ≡ Some v) × (128 ≤ length v.oids)

  abbrev pub IsRescue : CommandOf m → Type 0
  IsRescue (cmd.Rescue p) = Unit {0}
  IsRescue x = ⊥

  -- of a command that waited before this step; a copy is tried anew in each newer layout
  abbrev pub CauseLater : World m → EventOf m → Told m → CommandOf m → Refusal → Type 0
  CauseLater w e t x (cause.Undecided p o) = CantKnow x (happens m w e) t p o × LacksDecision w e t p
  CauseLater w e t x (cause.NoCheckpoint o) = IsForget x (λ p n. (p ≡ o) × HasNoBase (happens m w e) t o n)
  CauseLater w e t x (cause.OpenDecision p) = IsForget x (λ o n. IsOpen w e t o n p)
  CauseLater w e t x (cause.LogFull limit) = SentNow m (happens m w e) t (msg.Full limit)
  CauseLater w e t x (cause.Forgotten at below) = NamedTrimmed x (happens m w e) t at below ⊎ OwnTrimmed (happens m w e) t at below
  CauseLater w e t x (cause.Ahead tail) = IsAhead x (happens m w e) t tail
  CauseLater w e t x (cause.NotWhole u pos) = Answered (happens m w e) t IsLook u (msg.Missing pos)
  CauseLater w e t x (cause.Overtaken epoch) = OvertakenBy m (happens m w e) t epoch
  CauseLater w e t x (cause.TooLarge n) = IsTooLarge x (happens m w e) t n
  CauseLater w e t x (cause.TooMany many.Hosted) = IsRescue x × IsWide w t.mark.client
  CauseLater w e t x why = layout_cause (client m (happens m w e) t.mark.client).stand x ≡ Some why

  -- Each refusal has its cause.

  abbrev pub given_in : EventOf m → ℕ → Option (CommandOf m)
  given_in (Commands j x) k = if j == k then Some x else None
  given_in e k = None

  -- the command that a step answers: the one that it gives, or the one that waits
  abbrev pub command_at : World m → EventOf m → ℕ → Option (CommandOf m)
  command_at w e k = or_else (given_in e k) (command_in m (client m w k).work)

  pub record HasCause (w : World m) (e : EventOf m) (t : Told m) (why : Refusal) : Type 0 where
    pub command : CommandOf m
    pub answered : command_at w e t.mark.client ≡ Some command
    pub because : CauseAtOnce w t.mark.client command why ⊎ CauseLater w e t command why

  abbrev pub RefusalsTrue : World m → EventOf m → Type 0
  RefusalsTrue w e = (t : Told m) (why : Refusal) → Replies m w e t → t.mark.what ≡ told.Refused why → HasCause w e t why

  abbrev pub IsRefused : Told m → Type 0
  IsRefused t = (why : Refusal) × (t.mark.what ≡ told.Refused why)

  -- and a command for whose refusal there is a cause at once is refused
  abbrev pub CausesRefuse : World m → EventOf m → Type 0
  CausesRefuse w e = (k : ℕ) (x : CommandOf m) (why : Refusal) → e ≡ Commands k x → runs m w (client_id k) ≡ true → CauseAtOnce w k x why →
      Answers m w e k IsRefused

  -- `unsure`: a record at or below one's own isn't decided; of one's own a decision record may say no
  pub record IsUnsure (w : World m) (e : EventOf m) (t : Told m) (at p : ℕ) : Type 0 where
    pub upto : p ≤ at
    pub missing : Oid
    pub unknown : IsUnknown (happens m w e) t p missing
    pub lacks : p < at → LacksDecision w e t p

  abbrev pub UnsureTrue : World m → EventOf m → Type 0
  UnsureTrue w e = (t : Told m) (at p : ℕ) → Replies m w e t → t.mark.what ≡ told.Unsure at p → IsUnsure w e t at p

  -- `aborted` names the least of the reads whose versions differ
  abbrev pub AbortsLeast : World m → Type 0
  AbortsLeast w = (t : Told m) (p : ℕ) (o : Oid) (k : Part) (seen now : ℕ) (e : Entry) (r : ReadMark) → Contains w.told t → t.mark.what ≡ told.Aborted p o k seen now →
      HasEntry m w p e → Contains (reads_of e) r → read_before r (record { oid = o; part = k; version = seen }) ≡ true → version m (log m w) r.oid r.part p ≡ r.version

  -- `none`: no commit record that is for the client stands there, below a tail that it was told
  pub record IsNone (w : World m) (t : Told m) (p : ℕ) : Type 0 where
    pub tail : ℕ
    pub links : List StreamLink
    pub synced : SentNow m w t (msg.Tail tail links)
    pub none : (e : Entry) → HasEntry m w p e → is_commit e ≡ true → p < tail → IsFor (client m w t.mark.client) p e → ⊥

  abbrev pub SaysNone : WhatOf m → (ℕ → Type 0) → Type 0
  SaysNone (told.Fate p None) P = P p
  SaysNone (told.Decided p None) P = P p
  SaysNone (told.Rescued p None) P = P p
  SaysNone what P = Unit {0}

  abbrev pub NonesTrue : World m → EventOf m → Type 0
  NonesTrue w e = (t : Told m) → Replies m w e t → SaysNone t.mark.what (λ p. IsNone (happens m w e) t p)

  -- What a refusal keeps.

  -- the host list and the directory as played
  pub record KeepsHosts (c d : Client m) : Type 0 where
    pub hosted : d.hosted ≡ c.hosted
    pub dir : d.dir ≡ c.dir
    pub played : d.played ≡ c.played

  abbrev pub IsForgotten : Refusal → Type 0
  IsForgotten (cause.Forgotten at below) = Unit {0}
  IsForgotten why = ⊥

  -- the transaction, but that one whose record was trimmed is closed
  abbrev pub KeepsTx : Refusal → Client m → Client m → Type 0
  KeepsTx why c d = (d.tx ≡ c.tx) ⊎ (IsForgotten why × (d.tx ≡ None))

  abbrev pub IsSilent : World m → EventOf m → ℕ → Type 0
  IsSilent w e k = (t : Told m) → Replies m w e t → t.mark.client ≢ k

  pub record RefusalsKeep (w : World m) (e : EventOf m) : Type 0 where
    -- in the step that gives a command all but the count of steps
    pub at_once : (k : ℕ) (x : CommandOf m) → e ≡ Commands k x → Answers m w e k IsRefused →
        client m (happens m w e) k ≡ record (client m w k) { calls = (client m w k).calls + 1 }
    pub later : (t : Told m) (why : Refusal) → Replies m w e t → t.mark.what ≡ told.Refused why →
        KeepsHosts (client m w t.mark.client) (client m (happens m w e) t.mark.client) × KeepsTx why (client m w t.mark.client) (client m (happens m w e) t.mark.client)
    -- while a command waits, nothing of them changes
    pub waiting : (k : ℕ) → IsSilent w e k → KeepsHosts (client m w k) (client m (happens m w e) k) × ((client m (happens m w e) k).tx ≡ (client m w k).tx)
