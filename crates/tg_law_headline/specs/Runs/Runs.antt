-- What holds of every run of the store.
use Rattle.tg_base.specs.Clusters.{Header}
use Rattle.tg_protocol.specs.Alike.{CheckpointsTrue}
use Rattle.tg_protocol.specs.Headline.{Holds}
use Rattle.tg_protocol.specs.Holding.{RecordsInOrder}
use Rattle.tg_protocol.specs.Worlds.{World}
use Rattle.tg_protocol.specs.Runs.{Moves, Reaches}
use Rattle.tg_any.specs.AllKinds.{all_kinds}

-- What holds of each run of the store.
pub record RunHolds (w : World all_kinds) : Type 0 where
  -- the headline: the history's stamps rise; the replies and the history are a legal run; and what is told of the log, of the past and
  -- of rescues is true
  pub headline : Holds all_kinds w
  -- no place or record of a transaction precedes a reply from before its `begin`
  pub order : RecordsInOrder all_kinds w
  -- the log's checkpoints have the states and the versions of the whole history
  pub checkpoints : CheckpointsTrue all_kinds w

abbrev pub EachRunHolds : Type 0
EachRunHolds = (h : Header) (ms : Moves all_kinds) (w : World all_kinds) → Reaches all_kinds h ms w → RunHolds w
