-- The walks of a command, over a log that is fixed: what they have found of its streams.
use Rattle.std.specs.Prelude.{◌≡◌, ◌⊎◌, ℕ, ◌<◌, ◌≤◌, true, false, List, [], ◌∷◌, Option, Some, None, is_some, Contains}
use Rattle.tg_base.specs.declared.cell.Cell.{Cell}
use Rattle.tg_base.specs.declared.ids.Oid.{Oid}
use Rattle.tg_base.specs.declared.marks.StreamLink.{StreamLink}
use Rattle.tg_entry.specs.declared.entry.Entry.{Entry}
use Rattle.tg_kind.specs.Meaning.{Meaning}
use Rattle.tg_model.specs.Kinds.{CommandOf}
use Rattle.tg_model.specs.declared.command.Command.TheVariants as cmd
use Rattle.tg_protocol.specs.Words.{cell_at}
use Rattle.tg_protocol.specs.Entries.{lists, link_of, backs_of}
use Rattle.tg_protocol.specs.Syncing.{Confirmed}
use Rattle.tg_protocol.specs.Walking.{Walk}
use Rattle.tg_protocol.specs.Logs.{Log, entry_at, entries_of}
use Rattle.tg_protocol.specs.Views.{View, Base, base_of}
use Rattle.tg_protocol.specs.Checkpoints.{trim_of, base_at}
use Rattle.tg_protocol.specs.Clients.{Task, Syncing, Walking, Work, Client, upto_in, positions_in, all_entries}
use Rattle.tg_protocol.specs.Pages.{cell_entry}
use Rattle.tg_protocol.specs.Answers.{Moved, walked, own_view, play_target}
use Rattle.tg_protocol.specs.ClientSteps.{plays_kept, task_in}
use Rattle.tg_law_replies.specs.Views.Views.{AreEntriesFor}
use Rattle.tg_law_walks.specs.Walks.Streams.{rises, stands_in, AreKnown, IsGood}
use Rattle.tg_law_walks.specs.Walks.Walks.{IsWalking}

module _ (m : Meaning) where
  -- what the walks of a command go by, and have found
  pub record Round : Type 0 where
    pub view : Option (View m)
    pub hosted : List Oid
    pub command : CommandOf m
    pub oids : List Oid
    pub tail : ℕ
    pub lasts : List StreamLink
    pub lo : ℕ
    pub found : List (Oid × List ℕ)
    pub trims : List (Oid × ℕ)
    pub before : ℕ
    pub at : ℕ
    pub cells : List (ℕ × Cell)

  abbrev pub round : Client m → Work m → List (ℕ × Cell) → Round
  round c w cells = record {
    view = c.view;
    hosted = c.hosted;
    command = w.command;
    oids = w.oids;
    tail = w.tail;
    lasts = w.lasts;
    lo = w.lo;
    found = w.found;
    trims = w.trims;
    before = w.gone_before;
    at = w.at;
    cells = cells;
  }

  -- an entry that saves an object up to a position or further
  pub record IsSaving (o : Oid) (b : ℕ) (e : Entry) : Type 0 where
    pub base : Base m
    pub is : base_at m o e ≡ Some base
    pub reaches : b ≤ base.upto

  abbrev pub AreAbove : Oid → List (Oid × List ℕ) → Type 0
  AreAbove o [] = Unit {0}
  AreAbove o (x ∷ xs) = (o.0 < x.0.0) × AreAbove o xs

  abbrev pub AreRising : List (Oid × List ℕ) → Type 0
  AreRising [] = Unit {0}
  AreRising (x ∷ xs) = AreAbove x.0 xs × AreRising xs

  module _ (l : Log) where
    -- the log saves an object at or past a position, below a tail
    pub record IsSavedBelow (o : Oid) (g tail : ℕ) : Type 0 where
      pub at : ℕ
      pub entry : Entry
      pub here : entry_at l at ≡ Some entry
      pub stands : lists entry o ≡ true
      pub after : g ≤ at
      pub below : at < tail
      pub saves : IsSaving o g entry

    -- A trim up to g was known before a sync: each stream that has anything below g is saved there, and the sync's tail is past
    -- the entry that saves it.
    abbrev pub IsBehind : ℕ → ℕ → Type 0
    IsBehind tail g = (o : Oid) (q : ℕ) → q < g → stands_in l o q ≡ true → IsSavedBelow o g tail

    -- a stream's positions from one on are found, and their cells known
    abbrev pub HasAll : Round → Oid → ℕ → Type 0
    HasAll r o from = (q : ℕ) → from ≤ q → q < r.tail → stands_in l o q ≡ true → Contains (positions_in m r.found o) q × (is_some (cell_at r.cells q) ≡ true)

    -- an entry that saves it is found
    pub record HasSave (r : Round) (o : Oid) (b : ℕ) : Type 0 where
      pub at : ℕ
      pub entry : Entry
      pub found : Contains (positions_in m r.found o) at
      pub here : cell_entry (cell_at r.cells at) ≡ Some entry
      pub below : at < r.tail
      pub saves : IsSaving o b entry

    -- or nothing of it stands below
    abbrev pub IsSafe : Round → Oid → ℕ → Type 0
    IsSafe r o b = HasSave r o b ⊎ ((q : ℕ) → q < b → stands_in l o q ≡ true → ⊥)

    pub record IsTrimmed (r : Round) (o : Oid) (b : ℕ) : Type 0 where
      pub all : HasAll r o b
      pub safe : IsSafe r o b
      pub kept : (v : View m) → plays_kept m r.command ≡ true → r.view ≡ Some v → b ≤ v.upto

    -- from each position on that was found of a stream, it is found
    abbrev pub HasAbove : Round → Type 0
    HasAbove r = (o : Oid) (p q : ℕ) → Contains (positions_in m r.found o) p → p ≤ q → q < r.tail → stands_in l o q ≡ true → Contains (positions_in m r.found o) q × (is_some (cell_at r.cells q) ≡ true)

    -- Walks of a command of which these streams are left: what is found of the others is exact.
    pub record IsRound (r : Round) (rest : List Oid) : Type 0 where
      pub known : AreKnown l r.cells
      pub lists : (o : Oid) → Contains r.oids o → IsGood l o r.tail (backs_of (link_of o r.lasts))
      pub upto : upto_in m r.view ≤ r.tail
      pub at : r.at ≤ r.tail
      pub own : r.command ≡ cmd.End → upto_in m r.view ≤ r.at
      pub behind : IsBehind r.tail r.before
      pub low : r.lo ≤ upto_in m r.view
      pub whole : plays_kept m r.command ≡ false → r.lo ≡ 0
      pub only : (o : Oid) (q : ℕ) → Contains (positions_in m r.found o) q → (q < r.tail) × (stands_in l o q ≡ true)
      pub above : HasAbove r
      pub rising : AreRising r.found
      pub each : (o : Oid) → rises 0 (positions_in m r.found o) ≡ true
      pub left : (o : Oid) → Contains rest o → Contains r.oids o
      pub walked : (o : Oid) → Contains r.oids o → Contains rest o ⊎ (trim_of r.trims o ≡ None → HasAll r o r.lo)
      pub trimmed : (o : Oid) (b : ℕ) → trim_of r.trims o ≡ Some b → IsTrimmed r o b
      pub hosts : (o : Oid) → Contains r.hosted o → Contains r.oids o
      pub bases : (v : View m) (o : Oid) (b : Base m) → r.view ≡ Some v → base_of m v o ≡ Some b → Contains r.hosted o

    -- A client that syncs. At a command's beginning this is a premise: there lacks that a client's known cells stay the log's
    -- through its appends, and that its view has bases of hosted objects alone.
    pub record IsSyncing (r : Round) : Type 0 where
      pub known : AreKnown l r.cells
      pub found : r.found ≡ []
      pub trims : r.trims ≡ []
      pub hosts : (o : Oid) → Contains r.hosted o → Contains r.oids o
      pub bases : (v : View m) (o : Oid) (b : Base m) → r.view ≡ Some v → base_of m v o ≡ Some b → Contains r.hosted o

    -- a client that walks
    pub record IsAtWalk (c : Client m) (w : Work m) (k : Walk) (os : List Oid) : Type 0 where
      pub round : IsRound (round c w k.cells) (k.oid ∷ os)
      pub walk : IsWalking l w.tail k
      pub low : k.lo ≡ w.lo

    abbrev pub IsAtTask : Client m → Work m → Task m → Type 0
    IsAtTask c w (Syncing s) = IsSyncing (round c w c.cells)
    IsAtTask c w (Walking k os) = IsAtWalk c w k os
    IsAtTask c w t = Unit {0}

    abbrev pub IsAtWork : Client m → Option (Work m) → Type 0
    IsAtWork c None = Unit {0}
    IsAtWork c (Some w) = IsAtTask c w (task_in m w.hand)

    -- What a sync ends with. Of a run's last log this is a premise: there lacks that the lists of the tail's answer are good for
    -- it (`SeqrsTell`), that the tail is past what the client has played and appended, and what trims leave of each stream.
    pub record IsConfirmed (r : Round) (x : Confirmed) : Type 0 where
      pub settled : (q : ℕ) (c : Cell) → x.settled ≡ Some (q, c) → cell_at l q ≡ Some c
      pub lists : (o : Oid) → Contains r.oids o → IsGood l o x.tail (backs_of (link_of o x.lasts))
      pub upto : upto_in m r.view ≤ x.tail
      pub at : r.at ≤ x.tail
      pub own : r.command ≡ cmd.End → upto_in m r.view ≤ r.at
      pub behind : IsBehind x.tail r.before

    -- a sync or a walk is under way
    abbrev pub IsUnderWay : Task m → Type 0
    IsUnderWay (Syncing s) = Unit {0}
    IsUnderWay (Walking k os) = Unit {0}
    IsUnderWay t = ⊥

    abbrev pub GoesOn : Option (Work m) → Type 0
    GoesOn None = ⊥
    GoesOn (Some w) = IsUnderWay (task_in m w.hand)

    -- A step of a command's walks: they go on, start over with a sync, or are over with all streams walked.
    pub data Comes : Moved m → Type 0 where
      On : (x : Moved m) → GoesOn x.now.work → IsAtWork x.now x.now.work → Comes x
      Over : (c : Client m) (w : Work m) (x : Moved m) → x ≡ walked m c w → IsRound (round c w c.cells) [] → Comes x

    -- what a client plays from is of the log, and none of its objects' entries lacks; it plays no view back
    pub record IsPlayable (objects : List Oid) (c : Client m) (w : Work m) : Type 0 where
      pub entries : AreEntriesFor m objects (entries_of l) (own_view m c w (all_entries m c w c.hosted)) (all_entries m c w c.hosted) (play_target m w w.command)
      pub low : (own_view m c w (all_entries m c w c.hosted)).upto ≤ play_target m w w.command
