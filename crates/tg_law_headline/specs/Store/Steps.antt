-- What is left of each step of a run of the store, as far as trims were spare before it.
use Rattle.tg_base.specs.Clusters.{Header}
use Rattle.tg_model.specs.Kinds.{EventOf}
use Rattle.tg_protocol.specs.Worlds.{World}
use Rattle.tg_protocol.specs.Runs.{Moves, Reaches}
use Rattle.tg_dir.specs.Spellings.{is_number}
use Rattle.tg_any.specs.Anys.{is_op}
use Rattle.tg_any.specs.AllKinds.{all_kinds}
use Rattle.tg_law_replies.specs.History.Worlds.{entries_in}
use Rattle.tg_law_replies.specs.Replies.Runs.{InEachStep}
use Rattle.tg_law_replies.specs.Replies.Steps.{EachEvent}
use Rattle.tg_law_syncs.specs.Exact.Finds.{LeavesFor}
use Rattle.tg_law_headline.specs.Trims.Spare.{WereSpare, TrimsAre}
use Rattle.tg_law_headline.specs.Trims.Floors.{FloorsRest, StepRests}

-- of a step, by the world before it
pub record StepHolds (h : Header) (u : World all_kinds) (e : EventOf all_kinds) : Type 0 where
  -- the log's floors rest on checkpoints
  pub floors : FloorsRest all_kinds is_number h.objects u
  -- what a kept view has gone past has a fate, or is decided among the entries
  pub views : EachEvent all_kinds h.objects (entries_in all_kinds u) (λ c x. LeavesFor all_kinds c x x.command) u e

-- so it is in each step before which trims were spare
abbrev pub StepsHold : Header → Moves all_kinds → Type 0
StepsHold h ms = InEachStep all_kinds h ms (λ before u e. WereSpare all_kinds h before → StepHolds h u e)

-- then all is had of such a step that the law of trims asks: what is read of the log is an op, and clients that trim have
-- confirmed their tails and see the log's directory
abbrev pub StoreStepsRest : Type 0
StoreStepsRest = (h : Header) (ms : Moves all_kinds) (w : World all_kinds) → Reaches all_kinds h ms w → StepsHold h ms → InEachStep all_kinds h ms (λ before u e. WereSpare all_kinds h before → StepRests all_kinds is_number is_op h.objects u e)

-- so trims are spare, safe and in time
abbrev pub StoreTrimsAreSpare : Type 0
StoreTrimsAreSpare = (h : Header) (ms : Moves all_kinds) (w : World all_kinds) → Reaches all_kinds h ms w → StepsHold h ms → TrimsAre all_kinds h ms w
