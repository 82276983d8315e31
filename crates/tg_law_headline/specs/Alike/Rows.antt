-- What replies tell, row by row of `Alike` (tg_protocol).
use Rattle.std.specs.Prelude.{◌≡◌, ℕ, Bool, true, List, ◌∷◌, ◌++◌, Some, Contains}
use Rattle.tg_base.specs.Clusters.{Header}
use Rattle.tg_base.specs.declared.ids.Oid.{Oid}
use Rattle.tg_base.specs.declared.marks.Part.{Part}
use Rattle.tg_entry.specs.declared.entry.Entry.{Entry}
use Rattle.tg_entry.specs.Needs.{needs_decision}
use Rattle.tg_kind.specs.Meaning.{Meaning}
use Rattle.tg_model.specs.declared.refusal.Refusal.TheVariants as cause
use Rattle.tg_model.specs.declared.trace.What.TheVariants as told
use Rattle.tg_model.specs.Legal.{Legal}
use Rattle.tg_protocol.specs.Logs.{outcome}
use Rattle.tg_protocol.specs.Worlds.{World, Told, log, history, trace}
use Rattle.tg_protocol.specs.Runs.{Moves, Reaches}
use Rattle.tg_protocol.specs.Alike.{HasEntry, HasRecord, LogAgrees, OfTx, SavedAt, TrimmedTo, CopiedBy, MarkedBy, InstalledBy, OvertakenBy, Recorded, RecordedNow}
use Rattle.tg_law_walks.specs.Lists.Spared.{TrimsWereSpare}
use Rattle.tg_law_replies.specs.Replies.Ended.{AppendsEnd}
use Rattle.tg_law_replies.specs.Replies.Laws.{ClientsFind}
use Rattle.tg_law_replies.specs.Replies.Outcomes.{TellsOutcomes}

module _ (m : Meaning) where
  -- The log agrees with each reply that a transaction was aborted, or that it is unsure.

  abbrev pub AbortsAgree : World m → Type 0
  AbortsAgree w = (t : Told m) (p : ℕ) (o : Oid) (k : Part) (seen now : ℕ) → Contains w.told t → t.mark.what ≡ told.Aborted p o k seen now → LogAgrees m w t (told.Aborted p o k seen now)

  abbrev pub UnsureAgree : World m → Type 0
  UnsureAgree w = (t : Told m) (p q : ℕ) → Contains w.told t → t.mark.what ≡ told.Unsure p q → LogAgrees m w t (told.Unsure p q)

  -- of a transaction with a put that was told committed, the record stands there, and its outcome is yes
  abbrev pub CommitsAgree : World m → Type 0
  CommitsAgree w = (t : Told m) (p : ℕ) (o : Oid) (op : m.op) → Contains w.told t → t.mark.what ≡ told.Committed p →
      OfTx m w t.mark.client t.mark.tx (told.Put o op) → HasRecord m w p t.mark.client t.mark.tx × (outcome m (log m w) p ≡ true)

  -- What holds of every run in which trims were spare, where an append that ends stands where it says, and outcomes are told as
  -- they are.
  abbrev pub ByRunsOfOutcomes : (World m → Type 0) → Type 0
  ByRunsOfOutcomes P = (h : Header) (ms : Moves m) (w : World m) → Reaches m h ms w → TrimsWereSpare m h ms → AppendsEnd m h ms w → TellsOutcomes m w → P w

  abbrev pub AbortsAgreeByRuns : Type 0
  AbortsAgreeByRuns = ByRunsOfOutcomes AbortsAgree

  abbrev pub UnsureAgreeByRuns : Type 0
  UnsureAgreeByRuns = ByRunsOfOutcomes UnsureAgree

  abbrev pub CommitsAgreeByRuns : Type 0
  CommitsAgreeByRuns = ByRunsOfOutcomes CommitsAgree

  -- What is told of a reconfiguration that installed a layout, of a copy, and of a checkpoint.

  abbrev pub InstallsAgree : World m → Type 0
  InstallsAgree w = (t : Told m) (e : ℕ) → Contains w.told t → t.mark.what ≡ told.Installed e → InstalledBy m w t e

  -- a reconfiguration that was told overtaken
  abbrev pub OvertakesAgree : World m → Type 0
  OvertakesAgree w = (t : Told m) (e : ℕ) → Contains w.told t → t.mark.what ≡ told.Refused (cause.Overtaken e) → OvertakenBy m w t e

  abbrev pub CopiesAgree : World m → Type 0
  CopiesAgree w = (t : Told m) (u r s : ℕ) → Contains w.told t → t.mark.what ≡ told.Copied u r s → CopiedBy m w t u r s

  abbrev pub SavesAgree : World m → Type 0
  SavesAgree w = (t : Told m) (o : Oid) (p u : ℕ) → Contains w.told t → t.mark.what ≡ told.Saved o p u → SavedAt m w t o p u

  -- where an append that ends stands where it says
  abbrev pub SavesAgreeByRuns : Type 0
  SavesAgreeByRuns = (h : Header) (ms : Moves m) (w : World m) → Reaches m h ms w → AppendsEnd m h ms w → SavesAgree w

  -- a mark is told right after the commit of a transaction that is in the history and marks the object there
  abbrev pub MarksAgree : World m → Type 0
  MarksAgree w = (before after : List (Told m)) (t : Told m) (o : Oid) (n : ℕ) → w.told ≡ before ++ t ∷ after → t.mark.what ≡ told.Marked o n → MarkedBy m w before t.mark.client o n

  -- in a legal run
  abbrev pub MarksAgreeByRuns : Type 0
  MarksAgreeByRuns = (h : Header) (ms : Moves m) (w : World m) → Reaches m h ms w → Legal m w.cluster.objects (history m w) (trace m w) → MarksAgree w

  -- A record that needs a decision record, and that a reply tells decided, committed or aborted, has one, or the append of it met
  -- the log's end or a trim.

  abbrev pub DecisionsRecorded : World m → Type 0
  DecisionsRecorded w = (t : Told m) (p : ℕ) (b : Bool) (e : Entry) → Contains w.told t → t.mark.what ≡ told.Decided p (Some b) → HasEntry m w p e → needs_decision e ≡ true → RecordedNow m w t p

  abbrev pub AbortsRecorded : World m → Type 0
  AbortsRecorded w = (t : Told m) (p : ℕ) (o : Oid) (k : Part) (seen now : ℕ) (e : Entry) → Contains w.told t → t.mark.what ≡ told.Aborted p o k seen now →
      HasEntry m w p e → needs_decision e ≡ true → Recorded m w t.mark.client p

  abbrev pub CommitsRecorded : World m → Type 0
  CommitsRecorded w = (t : Told m) (p : ℕ) (e : Entry) → Contains w.told t → t.mark.what ≡ told.Committed p → HasRecord m w p t.mark.client t.mark.tx →
      HasEntry m w p e → needs_decision e ≡ true → Recorded m w t.mark.client p

  -- What holds of every run in which clients find what they need of the log, and an append that ends stands where it says.
  abbrev pub ByRunsThatFind : (World m → Type 0) → Type 0
  ByRunsThatFind P = (h : Header) (ms : Moves m) (w : World m) → Reaches m h ms w → ClientsFind m h ms w → AppendsEnd m h ms w → P w

  abbrev pub DecisionsRecordedByRuns : Type 0
  DecisionsRecordedByRuns = ByRunsThatFind DecisionsRecorded

  abbrev pub AbortsRecordedByRuns : Type 0
  AbortsRecordedByRuns = ByRunsThatFind AbortsRecorded

  -- and trims were spare
  abbrev pub CommitsRecordedByRuns : Type 0
  CommitsRecordedByRuns = (h : Header) (ms : Moves m) (w : World m) → Reaches m h ms w → TrimsWereSpare m h ms → ClientsFind m h ms w → AppendsEnd m h ms w → CommitsRecorded w

  -- What is told of a trim: a tail was told since its command began, below which the directory has this floor, and each unit of
  -- a layout that was decided for the epoch of its beginning, or a later one, has trimmed up to it.
  abbrev pub TrimsAgree : World m → Type 0
  TrimsAgree w = (t : Told m) (n : ℕ) → Contains w.told t → t.mark.what ≡ told.Trimmed n → TrimmedTo m w t n

  abbrev pub TrimsAgreeByRuns : Type 0
  TrimsAgreeByRuns = ByRunsThatFind TrimsAgree

  -- the rows of `Alike` that are had here
  pub record AlikeRows (w : World m) : Type 0 where
    pub aborts : AbortsAgree w
    pub unsure : UnsureAgree w
    pub commits : CommitsAgree w
    pub installs : InstallsAgree w
    pub overtakes : OvertakesAgree w
    pub copies : CopiesAgree w
    pub saves : SavesAgree w
    pub marks : MarksAgree w
    pub trims : TrimsAgree w
    pub decisions_recorded : DecisionsRecorded w
    pub aborts_recorded : AbortsRecorded w
    pub commits_recorded : CommitsRecorded w

  -- in every legal run of which all of that is had
  abbrev pub AlikeRowsByRuns : Type 0
  AlikeRowsByRuns = (h : Header) (ms : Moves m) (w : World m) → Reaches m h ms w → TrimsWereSpare m h ms → ClientsFind m h ms w → AppendsEnd m h ms w → TellsOutcomes m w →
      Legal m w.cluster.objects (history m w) (trace m w) → AlikeRows w
