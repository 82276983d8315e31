-- What is told of the log is true of it.
use Rattle.std.specs.Prelude.{◌≡◌, ℕ, ◌<◌, ◌≤◌, Bool, true, false, List, ◌∷◌, ◌++◌, Some, Contains, ◌⊎◌, ◌≢◌}
use Rattle.tg_base.specs.Layouts.{Layout}
use Rattle.tg_base.specs.declared.ids.Oid.{Oid}
use Rattle.tg_base.specs.declared.marks.Part.{Part}
use Rattle.tg_base.specs.declared.marks.Part.TheVariants.{All}
use Rattle.tg_base.specs.declared.marks.StreamLink.{StreamLink}
use Rattle.tg_base.specs.declared.msg.Msg.{Msg}
use Rattle.tg_base.specs.declared.msg.Msg.TheVariants as msg
use Rattle.tg_base.specs.declared.packet.Packet.{Packet}
use Rattle.tg_entry.specs.declared.entry.Body.TheVariants.{Decision, Checkpoint}
use Rattle.tg_entry.specs.declared.entry.Entry.{Entry}
use Rattle.tg_kind.specs.Meaning.{Meaning}
use Rattle.tg_protocol.specs.Words.{client_id, unit_id, seqr_id, directory}
use Rattle.tg_protocol.specs.Layouts.{units_of}
use Rattle.tg_protocol.specs.Trimming.{has_stripe}
use Rattle.tg_entry.specs.Needs.{needs_decision}
use Rattle.tg_protocol.specs.Entries.{is_commit}
use Rattle.tg_protocol.specs.Versions.{version_in}
use Rattle.tg_protocol.specs.Views.{View, fate_of}
use Rattle.tg_protocol.specs.Logs.{entries_of, version, outcome}
use Rattle.tg_model.specs.declared.refusal.Refusal.TheVariants as cause
use Rattle.tg_model.specs.declared.trace.What.TheVariants as told
use Rattle.tg_model.specs.Kinds.{WhatOf, DoneOf}
use Rattle.tg_model.specs.Stores.{state_at, answer_at, is_stamp}
use Rattle.tg_model.specs.Traces.{IsOf}
use Rattle.tg_protocol.specs.Worlds.{World, Told, client, unit, log, history}
use Rattle.tg_protocol.specs.Chosen.{Sent, IsDecided}

module _ (m : Meaning) where
  -- Messages that were sent.

  -- a node sent this client a message with this number
  pub record SentTo (w : World m) (k rid : ℕ) (x : Msg) : Type 0 where
    pub packet : Packet
    pub sent : Sent m w packet
    pub to : packet.to ≡ client_id k
    pub number : packet.rid ≡ rid
    pub says : packet.msg ≡ x

  -- a message that was sent to a client for the command that a note speaks of
  pub record SentNow (w : World m) (t : Told m) (x : Msg) : Type 0 where
    pub rid : ℕ
    pub now : t.noted.next ≤ rid
    pub sent : SentTo w t.mark.client rid x

  -- Entries of the log.

  abbrev pub HasEntry : World m → ℕ → Entry → Type 0
  HasEntry w p e = Contains (entries_of (log m w)) (p, e)

  -- the commit record of a client's transaction
  pub record HasRecord (w : World m) (p client number : ℕ) : Type 0 where
    pub record_at : Entry
    pub here : HasEntry w p record_at
    pub commit : is_commit record_at ≡ true
    pub of_client : record_at.head.client ≡ client
    pub of_number : record_at.head.number ≡ number

  -- some commit record
  pub record HasCommit (w : World m) (p : ℕ) : Type 0 where
    pub record_at : Entry
    pub here : HasEntry w p record_at
    pub commit : is_commit record_at ≡ true

  -- a commit record is there, and this is its outcome
  abbrev pub Outcome : World m → ℕ → Bool → Type 0
  Outcome w p b = HasCommit w p × (outcome m (log m w) p ≡ b)

  -- a decision record for a position
  pub record HasDecision (w : World m) (p : ℕ) : Type 0 where
    pub at : ℕ
    pub entry : Entry
    pub is_yes : Bool
    pub here : HasEntry w at entry
    pub decides : entry.body ≡ Decision p is_yes

  -- What marks tell.

  pub record SavedAt (w : World m) (t : Told m) (o : Oid) (p u : ℕ) : Type 0 where
    pub entry : Entry
    pub version : ℕ
    pub whole : ℕ
    pub keys : List (Part × ℕ)
    pub state : List ℕ
    pub here : HasEntry w p entry
    pub by : entry.head.client ≡ t.mark.client
    pub saves : entry.body ≡ Checkpoint o u version whole keys state
    pub issued_links : List StreamLink
    pub issued : SentNow w t (msg.Issued p issued_links)
    pub tail_links : List StreamLink
    pub tail : SentNow w t (msg.Tail u tail_links)

  -- every unit of some layout that was decided at or past an epoch has trimmed up to a position
  pub record UnitsTrimmed (w : World m) (e0 n : ℕ) : Type 0 where
    pub epoch : ℕ
    pub later : e0 ≤ epoch
    pub layout : Layout
    pub decided : IsDecided m w epoch layout
    pub units : (u : ℕ) → Contains (units_of layout) u → n ≤ (unit m w u).low

  pub record TrimmedTo (w : World m) (t : Told m) (n : ℕ) : Type 0 where
    pub tail : ℕ
    pub links : List StreamLink
    pub synced : SentNow w t (msg.Tail tail links)
    pub floor : n ≡ m.floor (state_at m w.cluster.objects (history m w) tail directory)
    pub units : UnitsTrimmed w t.noted.epoch n

  -- the layout of a later epoch, of this client or of another
  pub record DecidedBy (w : World m) (t : Told m) (e : ℕ) : Type 0 where
    pub proj : Layout
    pub is : IsDecided m w e proj
    pub later : t.noted.epoch < e

  -- a unit said that it has all of a stripe of the layout that was decided for the epoch in which it was asked
  pub record CopiedBy (w : World m) (t : Told m) (u r s : ℕ) : Type 0 where
    pub epoch : ℕ
    pub layout : Layout
    pub decided : IsDecided m w epoch layout
    pub asked : ℕ
    pub now : t.noted.next ≤ asked
    pub look : Sent m w (record { from = client_id t.mark.client; to = unit_id u; rid = asked; msg = has_stripe epoch layout r s })
    pub whole : Sent m w (record { from = unit_id u; to = client_id t.mark.client; rid = asked; msg = msg.Whole })

  -- The log agrees with what a reply tells of it. Other replies tell nothing of it here.
  abbrev pub LogAgrees : World m → Told m → WhatOf m → Type 0
  LogAgrees w t (told.Fate p (Some b)) = Outcome w p b
  LogAgrees w t (told.Decided p (Some b)) = Outcome w p b
  LogAgrees w t (told.Aborted p o k seen now) = HasRecord w p t.mark.client t.mark.tx × (outcome m (log m w) p ≡ false)
  LogAgrees w t (told.Unsure p q) = HasRecord w p t.mark.client t.mark.tx × HasCommit w q
  LogAgrees w t (told.Saved o p u) = SavedAt w t o p u
  LogAgrees w t (told.Trimmed n) = TrimmedTo w t n
  LogAgrees w t (told.Copied u r s) = CopiedBy w t u r s
  LogAgrees w t _ = Unit {0}

  -- a mark of a client's transaction
  pub record OfTx (w : World m) (k x : ℕ) (what : WhatOf m) : Type 0 where
    pub told : Told m
    pub here : Contains w.told told
    pub client : told.mark.client ≡ k
    pub number : told.mark.tx ≡ x
    pub says : told.mark.what ≡ what

  -- the client's last mark before this one is the `committed` of a transaction that marks the object
  pub record MarkedBy (w : World m) (before : List (Told m)) (k : ℕ) (o : Oid) (n : ℕ) : Type 0 where
    pub earlier : List (Told m)
    pub last : Told m
    pub between : List (Told m)
    pub split : before ≡ earlier ++ last ∷ between
    pub of_client : last.mark.client ≡ k
    pub others : (t : Told m) → Contains between t → t.mark.client ≢ k
    pub at : ℕ
    pub committed : last.mark.what ≡ told.Committed at
    pub done : DoneOf m
    pub in_history : Contains (history m w) done
    pub of : IsOf m done k last.mark.tx
    pub stamp : done.stamp ≡ at
    pub writes : Contains done.writes (directory, m.mark_op o n)

  -- the new sequencer's `Tail` of this command, or a later `Latest` that was sent to this client

  pub record HeardTail (w : World m) (t : Told m) (q : Layout) : Type 0 where
    pub packet : Packet
    pub sent : Sent m w packet
    pub from : packet.from ≡ seqr_id q.seq
    pub to : packet.to ≡ client_id t.mark.client
    pub now : t.noted.next ≤ packet.rid
    pub tail : ℕ
    pub links : List StreamLink
    pub says : packet.msg ≡ msg.Tail tail links

  pub record HeardLater (w : World m) (t : Told m) (e : ℕ) : Type 0 where
    pub proj : Layout
    pub rid : ℕ
    pub sent : SentTo w t.mark.client rid (msg.Latest proj)
    pub later : e < proj.epoch

  -- what is told of a reconfiguration
  pub record InstalledBy (w : World m) (t : Told m) (e : ℕ) : Type 0 where
    pub decided_for : DecidedBy w t e
    pub own : decided_for.proj.by ≡ t.mark.client
    pub heard : HeardTail w t decided_for.proj ⊎ HeardLater w t e

  pub record OvertakenBy (w : World m) (t : Told m) (e : ℕ) : Type 0 where
    pub decided_for : DecidedBy w t e
    pub other : decided_for.proj.by ≢ t.mark.client

  -- a record that needs a decision record has one, or the append of it met the log's end or a trim

  -- a `Full` after the `Issued` that brought the position, or a further `Issued` and then a `Gone`
  pub record MetEnd (w : World m) (k p : ℕ) : Type 0 where
    pub rid : ℕ
    pub links : List StreamLink
    pub issued : SentTo w k rid (msg.Issued p links)
    pub full_at : ℕ
    pub limit : ℕ
    pub full : SentTo w k full_at (msg.Full limit)
    pub later : rid < full_at

  pub record MetTrim (w : World m) (k p : ℕ) : Type 0 where
    pub rid : ℕ
    pub links : List StreamLink
    pub issued : SentTo w k rid (msg.Issued p links)
    pub again_at : ℕ
    pub pos : ℕ
    pub more : List StreamLink
    pub again : SentTo w k again_at (msg.Issued pos more)
    pub gone_at : ℕ
    pub below : ℕ
    pub gone : SentTo w k gone_at (msg.Gone below)
    pub order : (rid < again_at) × (again_at < gone_at)

  abbrev pub Recorded : World m → ℕ → ℕ → Type 0
  Recorded w k p = HasDecision w p ⊎ (MetEnd w k p ⊎ MetTrim w k p)

  -- the same for `decided`: all in this command
  pub record MetEndNow (w : World m) (t : Told m) : Type 0 where
    pub limit : ℕ
    pub full : SentNow w t (msg.Full limit)

  pub record MetTrimNow (w : World m) (t : Told m) : Type 0 where
    pub pos : ℕ
    pub links : List StreamLink
    pub issued : SentNow w t (msg.Issued pos links)
    pub below : ℕ
    pub gone : SentNow w t (msg.Gone below)
    pub order : issued.rid < gone.rid

  abbrev pub RecordedNow : World m → Told m → ℕ → Type 0
  RecordedNow w t p = HasDecision w p ⊎ (MetEndNow w t ⊎ MetTrimNow w t)

  -- decision records and the fates of kept views are true too
  pub record Alike (w : World m) : Type 0 where
    pub decisions : (at p : ℕ) (e : Entry) (b : Bool) → HasEntry w at e → e.body ≡ Decision p b → Outcome w p b
    pub fates : (k p : ℕ) (v : View m) (b : Bool) → (client m w k).view ≡ Some v → fate_of m v p ≡ Some b → Outcome w p b
    pub marks : (t : Told m) → Contains w.told t → LogAgrees w t t.mark.what
    pub committed : (t : Told m) (p : ℕ) (o : Oid) (op : m.op) → Contains w.told t → t.mark.what ≡ told.Committed p →
        OfTx w t.mark.client t.mark.tx (told.Put o op) → HasRecord w p t.mark.client t.mark.tx × (outcome m (log m w) p ≡ true)
    pub marked : (before after : List (Told m)) (t : Told m) (o : Oid) (n : ℕ) → w.told ≡ before ++ t ∷ after → t.mark.what ≡ told.Marked o n →
        MarkedBy w before t.mark.client o n
    pub installed : (t : Told m) (e : ℕ) → Contains w.told t → t.mark.what ≡ told.Installed e → InstalledBy w t e
    pub overtaken : (t : Told m) (e : ℕ) → Contains w.told t → t.mark.what ≡ told.Refused (cause.Overtaken e) → OvertakenBy w t e
    pub committed_recorded : (t : Told m) (p : ℕ) (e : Entry) → Contains w.told t → t.mark.what ≡ told.Committed p →
        HasRecord w p t.mark.client t.mark.tx → HasEntry w p e → needs_decision e ≡ true → Recorded w t.mark.client p
    pub aborted_recorded : (t : Told m) (p : ℕ) (o : Oid) (k : Part) (seen now : ℕ) (e : Entry) → Contains w.told t → t.mark.what ≡ told.Aborted p o k seen now →
        HasEntry w p e → needs_decision e ≡ true → Recorded w t.mark.client p
    pub decided_recorded : (t : Told m) (p : ℕ) (b : Bool) (e : Entry) → Contains w.told t → t.mark.what ≡ told.Decided p (Some b) →
        HasEntry w p e → needs_decision e ≡ true → RecordedNow w t p

  -- Checkpoints: the state and the versions of an object as the whole history has them.

  pub record IsCheckpoint (w : World m) (o : Oid) (u v whole : ℕ) (keys : List (Part × ℕ)) (state : List ℕ) : Type 0 where
    pub saved : state ≡ m.save (state_at m w.cluster.objects (history m w) u o)
    pub version_all : v ≡ version m (log m w) o All u
    pub parts : (k : Part) → version m (log m w) o k u ≡ version_in (record { oid = o; version = v; whole = whole; keys = keys }) k

  abbrev pub CheckpointsTrue : World m → Type 0
  CheckpointsTrue w = (p : ℕ) (e : Entry) (o : Oid) (u v whole : ℕ) (keys : List (Part × ℕ)) (state : List ℕ) →
      HasEntry w p e → e.head.format ≡ 2 → e.body ≡ Checkpoint o u v whole keys state → IsCheckpoint w o u v whole keys state

  -- Past answers: those of the whole history at that position.
  abbrev pub PastTrue : World m → Type 0
  PastTrue w = (t : Told m) (o : Oid) (q : m.ask) (p : ℕ) (a : m.answer) → Contains w.told t → t.mark.what ≡ told.Past o q p a →
      a ≡ answer_at m w.cluster.objects (history m w) p o q

  -- Rescues.
  pub record RescueTrue (w : World m) : Type 0 where
    pub yes_told : (t : Told m) (p : ℕ) → Contains w.told t → t.mark.what ≡ told.Rescued p (Some true) → is_stamp m (history m w) p ≡ true
    pub no_told : (t : Told m) (p : ℕ) → Contains w.told t → t.mark.what ≡ told.Rescued p (Some false) → HasCommit w p × (is_stamp m (history m w) p ≡ false)
    pub recorded : (t : Told m) (p : ℕ) (b : Bool) (e : Entry) → Contains w.told t → t.mark.what ≡ told.Rescued p (Some b) →
        HasEntry w p e → needs_decision e ≡ true → HasDecision w p
