-- What holds of every run of every cluster.
use Rattle.tg_kind.specs.Meaning.{Meaning}
use Rattle.tg_protocol.specs.Runs.{Always, AlwaysBy, EachStep, EachLater}
use Rattle.tg_protocol.specs.Chosen.{OneLayout, LatestDecided}
use Rattle.tg_protocol.specs.Following.{LayoutsFollow}
use Rattle.tg_protocol.specs.Alike.{CheckpointsTrue}
use Rattle.tg_protocol.specs.Stuck.{StuckTrue}
use Rattle.tg_protocol.specs.Holding.{LogStays, EntriesOnce, EntriesLinked, EntriesOwn, RecordsOwn, RepliesHaveRecords, RecordsInOrder, SerialFirst, FloorsStay, TrimsSpare, MarksRest}
use Rattle.tg_protocol.specs.Playing.{SyncsExact, ReadsOnPath, PlaysOn}
use Rattle.tg_protocol.specs.Headline.{Holds}
use Rattle.tg_protocol.specs.Causes.{DirectoryTrue, RefusalsTrue, CausesRefuse, AbortsLeast, NonesTrue, UnsureTrue, RefusalsKeep}
use Rattle.tg_protocol.specs.Finishing.{CommandFinishes, ReconfFinishes}

-- One log over all reconfigurations.
pub record OneLog (m : Meaning) : Type 0 where
  pub one_layout : Always m (OneLayout m)
  pub latest_decided : Always m (LatestDecided m)
  pub layouts_follow : Always m (LayoutsFollow m)
  pub cells_stay : EachLater m (LogStays m)
  pub once : Always m (EntriesOnce m)
  pub linked : Always m (EntriesLinked m)
  pub own : AlwaysBy m (EntriesOwn m)
  pub records_own : Always m (RecordsOwn m)
  pub replies_have_records : Always m (RepliesHaveRecords m)
  pub exact_syncs : EachStep m (SyncsExact m)
  pub pointers_at_work : AlwaysBy m (λ h ms w. ReadsOnPath m ms w)
  pub order : Always m (RecordsInOrder m)
  pub playing_on : EachStep m (PlaysOn m)
  pub serial : Always m (SerialFirst m)

-- The headline, and what stands beside it.
pub record RunsHold (m : Meaning) : Type 0 where
  pub holds : Always m (Holds m)
  pub rescues_stuck : EachStep m (StuckTrue m)

-- Forgetting.
pub record Forgetting (m : Meaning) : Type 0 where
  pub checkpoints : Always m (CheckpointsTrue m)
  pub floors : Always m (FloorsStay m)
  pub trims : Always m (TrimsSpare m)
  pub marks : Always m (MarksRest m)

-- Answers and their causes.
pub record CausesHold (m : Meaning) : Type 0 where
  pub directories : Always m (DirectoryTrue m)
  pub refusals : EachStep m (RefusalsTrue m)
  pub refuse : EachStep m (CausesRefuse m)
  pub aborts : Always m (AbortsLeast m)
  pub unsure : EachStep m (UnsureTrue m)
  pub nones : EachStep m (NonesTrue m)
  pub keep : EachStep m (RefusalsKeep m)

-- Commands finish.
pub record CommandsFinish (m : Meaning) : Type 0 where
  pub commands : Always m (CommandFinishes m)
  pub reconfs : Always m (ReconfFinishes m)
