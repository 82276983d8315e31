-- What the log of every run of the store has.
use Rattle.tg_base.specs.Clusters.{Header}
use Rattle.tg_protocol.specs.Holding.{EntriesOnce, EntriesOwn, RecordsOwn, RepliesHaveRecords}
use Rattle.tg_protocol.specs.Worlds.{World}
use Rattle.tg_protocol.specs.Runs.{Moves, Reaches}
use Rattle.tg_any.specs.AllKinds.{all_kinds}
use Rattle.tg_law_headline.specs.Trims.Spare.{TrimsAre}
use Rattle.tg_law_headline.specs.Alike.Rows.{AlikeRows}

-- What else the log of a run has, and what replies tell of it.
pub record LogHolds (h : Header) (ms : Moves all_kinds) (w : World all_kinds) : Type 0 where
  -- trims were spare, safe and in time
  pub trims : TrimsAre all_kinds h ms w
  -- an entry is what its client began to append, and stands once
  pub own : EntriesOwn all_kinds h ms w
  pub once : EntriesOnce all_kinds w
  -- a commit record is of what was put and asked
  pub records : RecordsOwn all_kinds w
  -- the record, or the checkpoint, that a reply tells of stands there; and what the reply says of it is so
  pub replies : RepliesHaveRecords all_kinds w
  pub rows : AlikeRows all_kinds w

abbrev pub EachLogHolds : Type 0
EachLogHolds = (h : Header) (ms : Moves all_kinds) (w : World all_kinds) → Reaches all_kinds h ms w → LogHolds h ms w
