-- What the log has of its clients' records, where trims were safe: so these are no premises of the laws on books any more.
use Rattle.tg_base.specs.Clusters.{Header}
use Rattle.tg_kind.specs.Meaning.{Meaning}
use Rattle.tg_model.specs.Legal.{InOrder, Legal}
use Rattle.tg_protocol.specs.Worlds.{World, trace, history}
use Rattle.tg_protocol.specs.Runs.{Moves, Reaches}
use Rattle.tg_protocol.specs.Holding.{EntriesOwn, RepliesHaveRecords}
use Rattle.tg_law_cells.specs.Entries.Archive.{TrimsWereSafe}
use Rattle.tg_law_replies.specs.Replies.Laws.{ClientsFind}
use Rattle.tg_law_replies.specs.Replies.Ended.{AppendsEnd}
use Rattle.tg_law_replies.specs.Books.Booked.{ClientsBook}
use Rattle.tg_law_replies.specs.Books.Kept.{RecordsLeft, RecordsEnd, AsksPrecede}
use Rattle.tg_law_replies.specs.Books.Laws.{RecordsKnown, RepliesKnown}

module _ (m : Meaning) where
  -- what holds of every run in which trims were safe
  abbrev pub ByRunsOfSafeTrims : (Header → Moves m → World m → Type 0) → Type 0
  ByRunsOfSafeTrims P = (h : Header) (ms : Moves m) (w : World m) → Reaches m h ms w → TrimsWereSafe m h ms → P h ms w

  -- each commit record is what its client had in hand, and wasn't refused afterwards for want of room
  abbrev pub RecordsWereLeft : Type 0
  RecordsWereLeft = ByRunsOfSafeTrims (RecordsLeft m)

  -- a record whose append has ended stands where it says, and one that it forgot nowhere else
  abbrev pub AppendsStand : Type 0
  AppendsStand = ByRunsOfSafeTrims (RecordsEnd m)

  -- The laws on books, where a record stands at or past where its transaction asked.

  abbrev pub BooksKeptBySafeTrims : Type 0
  BooksKeptBySafeTrims = ByRunsOfSafeTrims (λ h ms w. AsksPrecede m w → ClientsBook m h ms w)

  abbrev pub RecordsKnownBySafeTrims : Type 0
  RecordsKnownBySafeTrims = ByRunsOfSafeTrims (λ h ms w. AsksPrecede m w → RecordsKnown m w)

  abbrev pub RepliesKnownBySafeTrims : Type 0
  RepliesKnownBySafeTrims = ByRunsOfSafeTrims (λ h ms w. AsksPrecede m w → RepliesKnown m w)

  -- A run is legal, where its clients find what they need of the log that it comes to, an append that ends stands where
  -- it says, each entry is what its client began, what replies tell of records stands there, and no place precedes a
  -- reply from before its transaction.
  abbrev pub RunsLegalBySafeTrims : Type 0
  RunsLegalBySafeTrims = ByRunsOfSafeTrims (λ h ms w. ClientsFind m h ms w → AppendsEnd m h ms w → EntriesOwn m h ms w → RepliesHaveRecords m w → AsksPrecede m w → InOrder m (history m w) (trace m w) → Legal m w.cluster.objects (history m w) (trace m w))
