-- What a log's floors rest on, so that what stands below them may be trimmed.
use Rattle.std.specs.Prelude.{◌≡◌, ℕ, ◌<◌, ◌≤◌, true, Bool, List, [], ◌∷◌, ◌++◌, Some, Contains}
use Rattle.tg_base.specs.Clusters.{Header}
use Rattle.tg_base.specs.Layouts.{Layout}
use Rattle.tg_base.specs.declared.ids.Oid.{Oid}
use Rattle.tg_base.specs.declared.marks.StreamLink.{StreamLink}
use Rattle.tg_entry.specs.declared.entry.WriteOp.{WriteOp}
use Rattle.tg_entry.specs.declared.entry.Entry.{Entry}
use Rattle.tg_kind.specs.Meaning.{Meaning}
use Rattle.tg_model.specs.declared.command.Command.TheVariants as cmd
use Rattle.tg_model.specs.declared.play.PlayEnd.TheVariants.{Played}
use Rattle.tg_model.specs.Kinds.{EventOf}
use Rattle.tg_protocol.specs.Words.{directory}
use Rattle.tg_entry.specs.Needs.{writes_of}
use Rattle.tg_protocol.specs.Views.{state_of}
use Rattle.tg_protocol.specs.Clients.{Work, Client}
use Rattle.tg_protocol.specs.Worlds.{World}
use Rattle.tg_protocol.specs.Chosen.{IsDecided}
use Rattle.tg_protocol.specs.Alike.{HasEntry}
use Rattle.tg_protocol.specs.Runs.{Moves, Takes, Reaches}
use Rattle.tg_law_cells.specs.Tokens.Issuing.{Issued}
use Rattle.tg_law_cells.specs.Order.Tails.{ConfirmedTail}
use Rattle.tg_law_cells.specs.Entries.Archive.{TrimsWereSafe}
use Rattle.tg_law_replies.specs.History.Logs.{state_below, commits}
use Rattle.tg_law_replies.specs.History.Worlds.{entries_in}
use Rattle.tg_law_replies.specs.History.Loading.{AreOpsOf}
use Rattle.tg_law_replies.specs.History.Floors.{IsDirectory}
use Rattle.tg_law_replies.specs.Replies.Ended.{AppendsEnd}
use Rattle.tg_law_replies.specs.Replies.Found.{Finds}
use Rattle.tg_law_replies.specs.Replies.Runs.{InEachStep}
use Rattle.tg_law_replies.specs.Replies.Steps.{EachEvent}
use Rattle.tg_law_walks.specs.Lists.Spared.{IsSaved, WasSettled}
use Rattle.tg_law_headline.specs.Trims.Spare.{IsSpare, own_play, WereSpare, TrimsAre}

module _ (m : Meaning) where
  -- The directory of a world's log, and its floor, below a position.

  abbrev pub directory_at : List Oid → World m → ℕ → m.state
  directory_at objects w n = state_below m objects (entries_in m w) n directory

  abbrev pub floor_at : List Oid → World m → ℕ → ℕ
  floor_at objects w n = m.floor (directory_at objects w n)

  -- the object is registered at or below a position
  pub record WasRegistered (objects : List Oid) (w : World m) (o : Oid) (pos : ℕ) : Type 0 where
    pub at : ℕ
    pub low : at ≤ pos
    pub registered : m.registered (directory_at objects w at) o ≡ true

  -- the position was issued in an epoch, to some stream
  pub record WasIssued (w : World m) (epoch pos : ℕ) : Type 0 where
    pub seqr : ℕ
    pub streams : List Oid
    pub links : List StreamLink
    pub issued : Issued m w seqr epoch pos streams links
    pub stream : Oid
    pub here : Contains streams stream

  -- A tail of an epoch: all below the start of the epoch's layout was settled by then, and from there on each position below
  -- the tail was issued.
  pub record IsWhole (w : World m) (epoch tail : ℕ) : Type 0 where
    pub layout : Layout
    pub decided : IsDecided m w epoch layout
    pub old : (q : ℕ) → q < layout.start → WasSettled m w epoch q
    pub new : (q : ℕ) → layout.start ≤ q → q < tail → WasIssued w epoch q

  -- An object is saved up to a position by an epoch: a tail was confirmed there, and whatever had been issued to the object
  -- below it was settled.
  pub record IsSettledFor (w : World m) (o : Oid) (upto last : ℕ) : Type 0 where
    pub epoch : ℕ
    pub up_to : epoch ≤ last
    pub tail : ConfirmedTail m w w epoch upto
    pub settled : (s q : ℕ) (os : List Oid) (ls : List StreamLink) → Issued m w s epoch q os ls → Contains os o → q < upto → WasSettled m w last q

  -- A mark at a position rests on a checkpoint of its object that stands below it and reaches the mark. The mark's token
  -- was issued in the epoch by which the checkpoint was settled, or later.
  pub record RestsOn (w : World m) (o : Oid) (mark pos : ℕ) : Type 0 where
    pub last : ℕ
    pub saved : IsSaved m w o last mark
    pub here : HasEntry m w saved.at saved.entry
    pub below : saved.at < pos
    pub earlier : saved.saves.base.upto ≤ saved.at
    pub layout : Layout
    pub decided : IsDecided m w last layout
    pub past : layout.start ≤ pos
    pub whole : IsSettledFor w o saved.saves.base.upto last

  -- What is to be known of a world's log. In the store it is so before each step of a run (`steps_hold` of tg_law_headline).
  pub record FloorsRest (is_object : Oid → Bool) (objects : List Oid) (w : World m) : Type 0 where
    -- by the scan of the epoch's sequencer, which goes up to the start before a tail is told
    pub tails : (epoch tail : ℕ) → ConfirmedTail m w w epoch tail → IsWhole w epoch tail
    -- by the tests of commands: a client puts into what its directory has registered, or hosts it, and asks for tokens past
    -- where its directory stands
    pub tokens : (s epoch pos : ℕ) (os : List Oid) (ls : List StreamLink) (o : Oid) → Issued m w s epoch pos os ls → Contains os o → WasRegistered objects w o pos
    -- by the test of `forget`, which alone makes marks, and by the walks before a checkpoint, which settle what they read
    pub marks : (pos : ℕ) (e : Entry) (x : WriteOp) (o : Oid) (mark : ℕ) → is_object o ≡ true → HasEntry m w pos e → commits m objects (entries_in m w) pos e ≡ true →
        Contains (writes_of e) x → x.oid ≡ directory → m.read directory x.op ≡ Some (m.mark_op o mark) → RestsOn w o mark pos

  -- Then the floor of the log's directory below a confirmed tail is spare.
  abbrev pub FloorsAreSpare : Type 0
  FloorsAreSpare = (is_object : Oid → Bool) (is_op : m.op → Bool) → IsDirectory m is_object is_op → (h : Header) (ms : Moves m) (w : World m) → Reaches m h ms w → TrimsWereSafe m h ms →
      AreOpsOf m is_op (entries_in m w) → FloorsRest is_object h.objects w → (epoch tail : ℕ) → ConfirmedTail m w w epoch tail → IsSpare m w epoch (floor_at h.objects w tail)

  -- A client that trims has confirmed its tail, in an epoch up to that in which it stands.
  pub record HasTail (w : World m) (c : Client m) (v : Work m) : Type 0 where
    pub epoch : ℕ
    pub up_to : epoch ≤ c.stand.epoch
    pub tail : ConfirmedTail m w w epoch v.tail

  abbrev pub ConfirmsTail : World m → Client m → Work m → Type 0
  ConfirmsTail w c v = v.command ≡ cmd.Trim → HasTail w c v

  -- And its view, once it has played, has the directory that the log has below it.
  abbrev pub SeesDirectory : List Oid → World m → Client m → Work m → Type 0
  SeesDirectory objects w c v = (t : ℕ) → v.command ≡ cmd.Trim → (own_play m c v).came ≡ Played t → state_of m (own_play m c v).view directory ≡ Some (directory_at objects w v.tail)

  -- What is to be known of a step.
  pub record StepRests (is_object : Oid → Bool) (is_op : m.op → Bool) (objects : List Oid) (w : World m) (e : EventOf m) : Type 0 where
    pub ops : AreOpsOf m is_op (entries_in m w)
    pub rest : FloorsRest is_object objects w
    pub tails : EachEvent m objects (entries_in m w) (ConfirmsTail w) w e
    pub sees : EachEvent m objects (entries_in m w) (SeesDirectory objects w) w e

  -- So trims are spare in each run over kinds with a directory, in each step of which, where trims were spare before, floors
  -- rest on checkpoints, and clients that trim have confirmed their tails and see the directory.
  abbrev pub TrimsAreSpareBySight : Type 0
  TrimsAreSpareBySight = (is_object : Oid → Bool) (is_op : m.op → Bool) → IsDirectory m is_object is_op → (h : Header) (ms : Moves m) (w : World m) → Reaches m h ms w →
      InEachStep m h ms (λ before u e. WereSpare m h before → StepRests is_object is_op h.objects u e) → TrimsAre m h ms w

  -- Clients see the directory in a step, where they have found what they need of the log before it, in this step and in each
  -- earlier one, and appends that ended stand there.

  abbrev pub FindSoFar : Header → Moves m → EventOf m → World m → Type 0
  FindSoFar h before e w = InEachStep m h (before ++ Takes e ∷ []) (λ b u x. EachEvent m h.objects (entries_in m w) (Finds m h (entries_in m w) b) u x)

  abbrev pub SightsByFinds : Type 0
  SightsByFinds = (h : Header) (before : Moves m) (e : EventOf m) (w : World m) → Reaches m h before w → FindSoFar h before e w → AppendsEnd m h before w →
      EachEvent m h.objects (entries_in m w) (SeesDirectory h.objects w) w e
