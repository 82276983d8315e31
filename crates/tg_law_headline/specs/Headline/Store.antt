-- What holds of each run of the store.
use Rattle.tg_base.specs.Clusters.{Header}
use Rattle.tg_model.specs.Stores.{Rises}
use Rattle.tg_model.specs.Legal.{Legal}
use Rattle.tg_protocol.specs.Worlds.{World, trace, history}
use Rattle.tg_protocol.specs.Runs.{Moves, Reaches}
use Rattle.tg_protocol.specs.Alike.{PastTrue, RescueTrue}
use Rattle.tg_protocol.specs.Holding.{RecordsInOrder}
use Rattle.tg_any.specs.AllKinds.{all_kinds}
use Rattle.tg_law_syncs.specs.Exact.Finds.{ViewsLeaveNone}
use Rattle.tg_law_walks.specs.Lists.Spared.{TrimsWereSpare}
use Rattle.tg_law_replies.specs.Replies.Laws.{WritesTruth}
use Rattle.tg_law_replies.specs.Replies.Outcomes.{TellsOutcomes}
use Rattle.tg_law_headline.specs.Store.Steps.{StepsHold}

-- the replies and the history are a run of the plain machine
abbrev pub IsLegal : World all_kinds → Type 0
IsLegal w = Legal all_kinds w.cluster.objects (history all_kinds w) (trace all_kinds w)

abbrev pub StoreRunsLegal : Type 0
StoreRunsLegal = (h : Header) (ms : Moves all_kinds) (w : World all_kinds) → Reaches all_kinds h ms w → TrimsWereSpare all_kinds h ms → ViewsLeaveNone all_kinds h ms w → IsLegal w

abbrev pub StoreRunsLegalBySteps : Type 0
StoreRunsLegalBySteps = (h : Header) (ms : Moves all_kinds) (w : World all_kinds) → Reaches all_kinds h ms w → StepsHold h ms → IsLegal w

pub record StoreHolds (w : World all_kinds) : Type 0 where
  -- the history's stamps rise
  pub rises : Rises all_kinds (history all_kinds w)
  -- the replies and the history are a legal run
  pub legal : IsLegal w
  -- no place or record of a transaction precedes a reply from before its begin
  pub order : RecordsInOrder all_kinds w
  -- what is told of outcomes, and the fates of kept views, are true of the log
  pub outcomes : TellsOutcomes all_kinds w
  -- so is what was asked of the past, and what rescues say
  pub past : PastTrue all_kinds w
  pub rescues : RescueTrue all_kinds w
  -- and so are the log's decision records and checkpoints
  pub writes : WritesTruth all_kinds w

abbrev pub StoreRunsHold : Type 0
StoreRunsHold = (h : Header) (ms : Moves all_kinds) (w : World all_kinds) → Reaches all_kinds h ms w → StepsHold h ms → StoreHolds w
