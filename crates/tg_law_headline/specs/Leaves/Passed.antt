-- What a client's kept view has gone past, by the trims that walks met.
use Rattle.std.specs.Prelude.{◌≡◌, ◌⊎◌, ℕ, ◌<◌, true, Bool, List, ◌∷◌, ◌++◌, Some, None, Contains}
use Rattle.tg_base.specs.Clusters.{Header}
use Rattle.tg_base.specs.declared.ids.Oid.{Oid}
use Rattle.tg_entry.specs.declared.entry.Entry.{Entry}
use Rattle.tg_kind.specs.Meaning.{Meaning}
use Rattle.tg_model.specs.declared.command.Command.TheVariants as cmd
use Rattle.tg_model.specs.Kinds.{CommandOf, EventOf}
use Rattle.tg_entry.specs.Needs.{reads_of, needs_decision}
use Rattle.tg_protocol.specs.Entries.{is_commit, lists, decides}
use Rattle.tg_protocol.specs.Views.{Entries, View, decision_in, fate_of, unknown_in}
use Rattle.tg_protocol.specs.Checkpoints.{trim_of}
use Rattle.tg_protocol.specs.Clients.{Work, Client}
use Rattle.tg_protocol.specs.Walked.{Walked, walked_in}
use Rattle.tg_protocol.specs.Worlds.{World, start, client}
use Rattle.tg_protocol.specs.Runs.{Moves, Takes, run}
use Rattle.tg_law_replies.specs.History.Worlds.{entries_in}
use Rattle.tg_law_replies.specs.Replies.Found.{mine}
use Rattle.tg_law_replies.specs.Replies.Runs.{InEachStep}
use Rattle.tg_law_replies.specs.Replies.Steps.{EachEvent}
use Rattle.tg_law_syncs.specs.Exact.Finds.{ViewsLeaveNone}
use Rattle.tg_law_walks.specs.Lists.Spared.{ByRunsOfSpareTrims}

module _ (m : Meaning) where
  -- a client has no work
  abbrev pub IsIdle : World m → ℕ → Type 0
  IsIdle u k = (client m u k).work ≡ None

  -- A step of the run came to this end of the walks of the client with a number.
  pub record Ended (h : Header) (ms : Moves m) (client : ℕ) (end : Walked m) : Type 0 where
    pub before : Moves m
    pub event : EventOf m
    pub after : Moves m
    pub split : ms ≡ before ++ Takes event ∷ after
    pub walked : walked_in m (run m before (start m h)) event client ≡ Some end

  -- A step of the run came to the end of the walks of the client with a number, of which that of this stream had met a trim above a
  -- position; and the run came through a world since in which this client had no work.
  pub record WasMet (h : Header) (ms : Moves m) (n : ℕ) (o : Oid) (p : ℕ) : Type 0 where
    pub client : ℕ
    pub end : Walked m
    pub came : Ended h ms client end
    pub of : end.client.num ≡ n
    pub below : ℕ
    pub met : trim_of end.work.trims o ≡ Some below
    pub above : p < below
    pub until : Moves m
    pub since : Moves m
    pub rest : came.after ≡ until ++ since
    pub idle : IsIdle (run m (came.before ++ Takes came.event ∷ until) (start m h)) client

  -- the world in which the client had no work
  abbrev pub idle_world : {h : Header} {ms : Moves m} {n : ℕ} {o : Oid} {p : ℕ} → WasMet h ms n o p → World m
  idle_world {h} {ms} {n} {o} {p} x = run m (x.came.before ++ Takes x.came.event ∷ x.until) (start m h)

  -- A record of a hosted stream that a view went past, of which it knows all reads there, has a fate, or stands below a trim
  -- that a walk of the stream had met.
  abbrev pub HasPassed : (Oid → ℕ → Type 0) → Entries → List Oid → View m → Type 0
  HasPassed G es hosted v = (p : ℕ) (e : Entry) (o : Oid) → Contains es (p, e) → is_commit e ≡ true → Contains hosted o → lists e o ≡ true → p < v.upto →
      unknown_in m v (reads_of e) p ≡ None → ((b : Bool) × (fate_of m v p ≡ Some b)) ⊎ G o p

  module _ (h : Header) (ms : Moves m) (w : World m) where
    -- so it is of kept views wherever a step of the run comes to the end of a command's walks, by the client's walks before it
    abbrev pub ViewsPass : Type 0
    ViewsPass = InEachStep m h ms (λ before v e. EachEvent m h.objects (entries_in m w)
        (λ c x. (k : View m) → c.view ≡ Some k → HasPassed (WasMet h before c.num) (entries_in m w) c.hosted k) v e)

  abbrev pub ViewsPassBySpareTrims : Type 0
  ViewsPassBySpareTrims = ByRunsOfSpareTrims m ViewsPass

  -- What kept views leave for `fate` and `decide`.

  abbrev pub TellsFates : CommandOf m → Type 0
  TellsFates (cmd.Fate p) = Unit {0}
  TellsFates (cmd.Decide p) = Unit {0}
  TellsFates x = ⊥

  -- a record of a hosted stream that the kept view went past without a fate, though it knows all reads there, and that stood below
  -- a trim which an earlier walk of the client met, has its decision among the entries, where it needs one
  abbrev pub HasRested : Header → Moves m → Client m → Work m → Type 0
  HasRested h before c x = (k : View m) (p : ℕ) (e : Entry) (o : Oid) → c.view ≡ Some k → Contains (mine m c x) (p, e) → is_commit e ≡ true → needs_decision e ≡ true → Contains c.hosted o → lists e o ≡ true → p < k.upto →
      fate_of m k p ≡ None → unknown_in m k (reads_of e) p ≡ None → WasMet h before c.num o p → decision_in (mine m c x) p ≡ None → ⊥

  -- a record of the client's own that the kept view went past has a fate, where all its reads are known
  abbrev pub HasOwn : Client m → Work m → Type 0
  HasOwn c x = (k : View m) (p : ℕ) (e : Entry) → c.view ≡ Some k → Contains c.own p → Contains (mine m c x) (p, e) → is_commit e ≡ true → p < k.upto →
      unknown_in m k (reads_of e) p ≡ None → (b : Bool) × (fate_of m k p ≡ Some b)

  module _ (h : Header) (ms : Moves m) (w : World m) where
    abbrev pub InFates : (Moves m → Client m → Work m → Type 0) → Type 0
    InFates P = InEachStep m h ms (λ before v e. EachEvent m h.objects (entries_in m w) (λ c x. TellsFates x.command → P before c x) v e)

    -- wherever a step comes to the end of the walks of `fate` or `decide`
    abbrev pub TrimsRest : Type 0
    TrimsRest = InFates (HasRested h)

    abbrev pub OwnsPass : Type 0
    OwnsPass = InFates (λ before c x. HasOwn c x)

  -- A record has its decision above it, in each of its streams, and below a tail.
  pub record IsDecidedBelow (es : Entries) (p : ℕ) (e : Entry) (tail : ℕ) : Type 0 where
    pub at : ℕ
    pub decision : Entry
    pub here : Contains es (at, decision)
    pub above : p < at
    pub below : at < tail
    pub is_yes : Bool
    pub says : decides p decision.body ≡ Some is_yes
    pub streams : (o : Oid) → lists e o ≡ true → lists decision o ≡ true

  -- a record below a trim that an earlier walk of the client met in its stream has one below the tail, where it needs one
  abbrev pub HasDecided : Header → Entries → Moves m → Client m → Work m → Type 0
  HasDecided h es before c x = (p : ℕ) (e : Entry) (o : Oid) → Contains es (p, e) → is_commit e ≡ true → needs_decision e ≡ true → lists e o ≡ true → WasMet h before c.num o p → IsDecidedBelow es p e x.tail

  module _ (h : Header) (ms : Moves m) (w : World m) where
    abbrev pub MetDecided : Type 0
    MetDecided = InFates h ms w (HasDecided h (entries_in m w))

  -- So what was trimmed rests.
  abbrev pub TrimsRestWhere : Type 0
  TrimsRestWhere = ByRunsOfSpareTrims m (λ h ms w. MetDecided h ms w → TrimsRest h ms w)

  abbrev pub OwnsPassBySpareTrims : Type 0
  OwnsPassBySpareTrims = ByRunsOfSpareTrims m OwnsPass

  -- So kept views leave none, where what was trimmed rests.
  abbrev pub ViewsLeaveNoneWhere : Type 0
  ViewsLeaveNoneWhere = ByRunsOfSpareTrims m (λ h ms w. TrimsRest h ms w → ViewsLeaveNone m h ms w)
