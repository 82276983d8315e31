-- What holds of a command's walks over a log that is fixed.
use Rattle.std.specs.Prelude.{◌≡◌, ℕ, ◌+◌, ◌≤◌, true, List, [], map, Some, Contains}
use Rattle.tg_base.specs.Layouts.{Layout}
use Rattle.tg_base.specs.declared.ids.Oid.{Oid}
use Rattle.tg_entry.specs.declared.entry.Entry.{Entry}
use Rattle.tg_kind.specs.Meaning.{Meaning}
use Rattle.tg_model.specs.declared.command.Command.TheVariants as cmd
use Rattle.tg_protocol.specs.Requests.{Next, Goes, Learns, Ends}
use Rattle.tg_protocol.specs.Replies.{Reply}
use Rattle.tg_protocol.specs.Syncing.{Sync, Confirmed, sync_feed}
use Rattle.tg_protocol.specs.Walking.{Walk}
use Rattle.tg_protocol.specs.Logs.{Log, entries_of}
use Rattle.tg_protocol.specs.Views.{View, Base, base_of, view_start}
use Rattle.tg_protocol.specs.Checkpoints.{view_bases}
use Rattle.tg_protocol.specs.Past.{commit_at, past_base}
use Rattle.tg_protocol.specs.Clients.{Syncing, Walking, Work, Client, member_entries, all_entries}
use Rattle.tg_protocol.specs.Answers.{pruned, syncs}
use Rattle.tg_protocol.specs.ClientSteps.{plays_kept, task_feed, task_again}
use Rattle.tg_protocol.specs.Worlds.{World, log}
use Rattle.tg_law_replies.specs.Views.Views.{AreEntriesFor}
use Rattle.tg_law_replies.specs.Replies.Steps.{EachFeed, EachAgain}
use Rattle.tg_law_walks.specs.Walks.Streams.{IsByPosition, AreKnown, AreLinked}
use Rattle.tg_law_walks.specs.Walks.Walks.{JobEndsAs}
use Rattle.tg_law_walks.specs.Walks.Rounds.{Round, round, IsRound, IsSyncing, IsAtWalk, IsConfirmed, Comes, IsPlayable}

module _ (m : Meaning) where
  -- what a sync ends with, if it does
  abbrev pub SyncEndsAs : Log → Round m → Next Sync Confirmed → Type 0
  SyncEndsAs l r (Ends x) = IsConfirmed m l r x
  SyncEndsAs l r x = Unit {0}

  -- a sync that begins, over streams of which the hosted ones are some
  abbrev pub SyncsBegin : Type 0
  SyncsBegin = (l : Log) (c : Client m) (w : Work m) (os : List Oid) → IsByPosition l → AreLinked l → AreKnown l c.cells → ((o : Oid) → Contains c.hosted o → Contains os o) →
      ((v : View m) (o : Oid) (b : Base m) → c.view ≡ Some v → base_of m v o ≡ Some b → Contains c.hosted o) → Comes m l (syncs m c w os)

  -- an answer to a sync
  abbrev pub SyncsCome : Type 0
  SyncsCome = (l : Log) (c : Client m) (w : Work m) (s : Sync) (n rid : ℕ) (x : Reply) → IsByPosition l → AreLinked l →
      IsSyncing m l (round m c w c.cells) → SyncEndsAs l (round m c w c.cells) (sync_feed c.stand s s.work n x c.next).to → Comes m l (task_feed m c w (Syncing s) n rid x)

  -- an answer to a walk
  abbrev pub WalksCome : Type 0
  WalksCome = (l : Log) (c : Client m) (w : Work m) (k : Walk) (os : List Oid) (n rid : ℕ) (x : Reply) → IsByPosition l → AreLinked l →
      IsAtWalk m l c w k os → JobEndsAs l k.job n x c.next → Comes m l (task_feed m c w (Walking k os) n rid x)

  -- a newer layout
  abbrev pub SyncsComeAgain : Type 0
  SyncsComeAgain = (l : Log) (c : Client m) (w : Work m) (s : Sync) → IsSyncing m l (round m c w c.cells) → Comes m l (task_again m c w (Syncing s))

  abbrev pub WalksComeAgain : Type 0
  WalksComeAgain = (l : Log) (c : Client m) (w : Work m) (k : Walk) (os : List Oid) → IsByPosition l → AreLinked l → IsAtWalk m l c w k os → Comes m l (task_again m c w (Walking k os))

  -- where all streams are walked, what the client plays from lacks no entry of its objects
  abbrev pub RoundsPlay : Type 0
  RoundsPlay = (l : Log) (objects : List Oid) (c : Client m) (w : Work m) → IsByPosition l → IsRound m l (round m c w c.cells) [] → plays_kept m w.command ≡ true → IsPlayable m l objects c w

  -- the same for a past view, and for a rescue
  abbrev pub PastPlays : Type 0
  PastPlays = (l : Log) (objects : List Oid) (c : Client m) (w : Work m) (p : ℕ) (o : Oid) (q : m.ask) → IsByPosition l → IsRound m l (round m c w c.cells) [] → w.command ≡ cmd.AskAt p o q → p ≤ w.tail →
      AreEntriesFor m objects (entries_of l) (view_start m (map (past_base m (member_entries m c w w.oids) w.trims c.objects p) w.oids)) (member_entries m c w w.oids) p

  abbrev pub RescuesPlay : Type 0
  RescuesPlay = (l : Log) (objects : List Oid) (c : Client m) (w : Work m) (p : ℕ) (e : Entry) → IsByPosition l → IsRound m l (round m c w c.cells) [] → w.command ≡ cmd.Rescue p → commit_at (all_entries m c w w.oids) p ≡ Some e →
      AreEntriesFor m objects (entries_of l) (view_start m (view_bases m (all_entries m c w w.oids) w.trims c.objects w.oids)) (all_entries m c w w.oids) (p + 1)

  -- Wherever a step of a sync or a walk comes to the end of its walks, all that they have found is exact.

  abbrev pub IsFound : Log → Client m → Work m → Type 0
  IsFound l c w = IsRound m l (round m c w c.cells) []

  abbrev pub SyncsFind : Type 0
  SyncsFind = (l : Log) (objects : List Oid) (c : Client m) (w : Work m) (s : Sync) (n rid : ℕ) (x : Reply) → IsByPosition l → AreLinked l →
      IsSyncing m l (round m c w c.cells) → SyncEndsAs l (round m c w c.cells) (sync_feed c.stand s s.work n x c.next).to → EachFeed m objects (entries_of l) (IsFound l) c w (Syncing s) n rid x

  abbrev pub WalksFind : Type 0
  WalksFind = (l : Log) (objects : List Oid) (c : Client m) (w : Work m) (k : Walk) (os : List Oid) (n rid : ℕ) (x : Reply) → IsByPosition l → AreLinked l →
      IsAtWalk m l c w k os → JobEndsAs l k.job n x c.next → EachFeed m objects (entries_of l) (IsFound l) c w (Walking k os) n rid x

  abbrev pub WalksFindAgain : Type 0
  WalksFindAgain = (l : Log) (objects : List Oid) (c : Client m) (w : Work m) (k : Walk) (os : List Oid) → IsByPosition l → AreLinked l →
      IsAtWalk m l c w k os → EachAgain m objects (entries_of l) (IsFound l) c w (Walking k os)

  -- a reply gives up known cells, and those that are left are the log's
  abbrev pub RepliesKnow : Type 0
  RepliesKnow = (l : Log) (c : Client m) → AreKnown l c.cells → AreKnown l (pruned m c).cells

  -- each world's log has one cell at a position
  abbrev pub LogsByPosition : Type 0
  LogsByPosition = (w : World m) → IsByPosition (log m w)

-- a sync keeps its streams
abbrev pub KeepsStreams : Sync → Next Sync Confirmed → Type 0
KeepsStreams s (Goes t) = t.oids ≡ s.oids
KeepsStreams s (Learns t) = t.oids ≡ s.oids
KeepsStreams s (Ends x) = Unit {0}

abbrev pub SyncsKeepStreams : Type 0
SyncsKeepStreams = (p : Layout) (s : Sync) (n : ℕ) (x : Reply) (next : ℕ) → KeepsStreams s (sync_feed p s s.work n x next).to
