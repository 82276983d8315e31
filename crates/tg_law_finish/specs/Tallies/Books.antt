-- A run whose transaction commits, with the books that its clients keep.
use Rattle.tg_base.specs.Clusters.{Header}
use Rattle.tg_protocol.specs.Worlds.{World, start}
use Rattle.tg_protocol.specs.Runs.{Moves, Reaches, run}
use Rattle.tg_protocol.specs.Holding.{EntriesOnce}
use Rattle.tg_law_replies.specs.Books.Booked.{ClientsBook}
use Rattle.tg_law_replies.specs.Books.Kept.{RecordsLeft, AsksPrecede}
use Rattle.tg_law_replies.specs.Replies.Ended.{AppendsEnd}
use Rattle.tg_law_replies.specs.Books.Laws.{RecordsKnown, RepliesKnown}
use Rattle.tg_law_finish.specs.Tallies.Tallies.{tallies, with_tally, adds}

-- what `books_are_kept`, `records_are_known` and `replies_are_known` ask of a run, and what they say of it
pub record AreKept (h : Header) (ms : Moves tallies) (w : World tallies) : Type 0 where
  pub reached : Reaches tallies h ms w
  pub left : RecordsLeft tallies h ms w
  pub asks : AsksPrecede tallies w
  pub once : EntriesOnce tallies w
  pub ends : AppendsEnd tallies h ms w
  pub books : ClientsBook tallies h ms w
  pub known : RecordsKnown tallies w
  pub replies : RepliesKnown tallies w

abbrev pub CommitIsBooked : Type 0
CommitIsBooked = AreKept with_tally adds (run tallies adds (start tallies with_tally))
