-- What follows what, in every run in which trims were spare.
use Rattle.std.specs.Prelude.{◌≡◌, ℕ, List, Some, Contains}
use Rattle.tg_base.specs.Clusters.{Header}
use Rattle.tg_base.specs.declared.marks.StreamLink.{StreamLink}
use Rattle.tg_entry.specs.declared.entry.Entry.{Entry}
use Rattle.tg_entry.specs.Format.{tag_of}
use Rattle.tg_entry.specs.Records.{linked}
use Rattle.tg_kind.specs.Meaning.{Meaning}
use Rattle.tg_model.specs.Legal.{InOrder, Legal}
use Rattle.tg_protocol.specs.Appending.{Append, At}
use Rattle.tg_protocol.specs.Worlds.{World, client, trace, history}
use Rattle.tg_protocol.specs.Runs.{Moves, Reaches}
use Rattle.tg_protocol.specs.Alike.{HasEntry}
use Rattle.tg_protocol.specs.Holding.{append_by, WasBegun, EntriesOwn, RepliesHaveRecords}
use Rattle.tg_law_walks.specs.Lists.Spared.{ByRunsOfSpareTrims}
use Rattle.tg_law_replies.specs.Replies.Laws.{ClientsFind}
use Rattle.tg_law_replies.specs.Replies.Runs.{InEachStep}
use Rattle.tg_law_replies.specs.Replies.Ended.{AppendsEnd, ended_in}
use Rattle.tg_law_replies.specs.History.Worlds.{entries_in}
use Rattle.tg_law_replies.specs.Books.Kept.{AsksPrecede}
use Rattle.tg_law_syncs.specs.Finds.Left.{SavesPrecede, RoundsExact, RoundsKnown, RoundsFit, PassesOwn}

module _ (m : Meaning) where
  -- a record stands at or past where its transaction asked
  abbrev pub AsksPrecedeBySpareTrims : Type 0
  AsksPrecedeBySpareTrims = ByRunsOfSpareTrims m (λ h ms w. AsksPrecede m w)

  -- a checkpoint saves no more than what stands below it, where each entry is what its client began
  abbrev pub SavesPrecedeBySpareTrims : Type 0
  SavesPrecedeBySpareTrims = ByRunsOfSpareTrims m (λ h ms w. EntriesOwn m h ms w → SavesPrecede m (entries_in m w))

  -- So clients find what they need where their walks are exact, what they know is the log's at hand, entries on the way were
  -- begun by their clients, and the rest fits.
  abbrev pub ClientsFindBySpareTrims : Type 0
  ClientsFindBySpareTrims = ByRunsOfSpareTrims m (λ h ms w. RoundsExact m h ms w → RoundsKnown m h ms w → PassesOwn m h ms w → RoundsFit m h ms w → ClientsFind m h ms w)

  -- a checkpoint whose append ends in a step of the run stands where it says, with the links that were issued to it
  abbrev pub SavesEnd : Header → Moves m → World m → Type 0
  SavesEnd h ms w = InEachStep m h ms (λ before v e. (k p : ℕ) (a : Append) (page : List ℕ) → append_by m (client m v k).work ≡ Some a → ended_in m v e k ≡ Some (At p page) → tag_of a.draft.body ≡ 3
      → (links : List StreamLink) × Contains (entries_in m w) (p, linked a.draft links))

  -- then so does each append that ends
  abbrev pub AppendsEndBySpareTrims : Type 0
  AppendsEndBySpareTrims = ByRunsOfSpareTrims m (λ h ms w. SavesEnd h ms w → AppendsEnd m h ms w)

  -- and what replies tell of records and of checkpoints stands in the log
  abbrev pub RepliesRecordedBySpareTrims : Type 0
  RepliesRecordedBySpareTrims = ByRunsOfSpareTrims m (λ h ms w. SavesEnd h ms w → RepliesHaveRecords m w)

  -- Each checkpoint is the draft of an append that its client began, with other links, as all other entries are.
  abbrev pub SavesOwn : Header → Moves m → World m → Type 0
  SavesOwn h ms w = (p : ℕ) (e : Entry) → HasEntry m w p e → tag_of e.body ≡ 3 → WasBegun m h ms e

  -- A run is legal, where its clients find what they need of the log that it comes to, a checkpoint whose append ends stands
  -- where it says, each checkpoint is what its client began, and no place precedes a reply from before its transaction.
  abbrev pub RunsLegalBySpareTrims : Type 0
  RunsLegalBySpareTrims = ByRunsOfSpareTrims m (λ h ms w. ClientsFind m h ms w → SavesEnd h ms w → SavesOwn h ms w → InOrder m (history m w) (trace m w) → Legal m w.cluster.objects (history m w) (trace m w))
