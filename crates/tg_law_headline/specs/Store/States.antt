-- What the logs of the store have, and what is left of its legal runs.
use Rattle.tg_base.specs.Clusters.{Header}
use Rattle.tg_model.specs.Legal.{InOrder, Legal}
use Rattle.tg_protocol.specs.Worlds.{World, trace, history}
use Rattle.tg_protocol.specs.Runs.{Moves, Reaches}
use Rattle.tg_any.specs.Anys.{is_op}
use Rattle.tg_any.specs.AllKinds.{all_kinds}
use Rattle.tg_law_cells.specs.Entries.Archive.{TrimsWereSafe}
use Rattle.tg_law_replies.specs.History.Loading.{AreOpsOf}
use Rattle.tg_law_replies.specs.History.Worlds.{entries_in}
use Rattle.tg_law_walks.specs.Lists.Spared.{TrimsWereSpare}
use Rattle.tg_law_syncs.specs.Exact.Finds.{HasStates, ViewsLeaveNone}

-- what is read of the writes of a log is an op of the format
abbrev pub StoreReadsOps : Type 0
StoreReadsOps = (h : Header) (ms : Moves all_kinds) (w : World all_kinds) → Reaches all_kinds h ms w → TrimsWereSafe all_kinds h ms → AreOpsOf all_kinds is_op (entries_in all_kinds w)

-- so states load from what is saved of them
abbrev pub StoreHasStates : Type 0
StoreHasStates = (h : Header) (ms : Moves all_kinds) (w : World all_kinds) → Reaches all_kinds h ms w → TrimsWereSafe all_kinds h ms → HasStates all_kinds h w

pub record StoreRests (h : Header) (ms : Moves all_kinds) (w : World all_kinds) : Type 0 where
  -- trims left what is needed
  pub trims : TrimsWereSpare all_kinds h ms
  -- what a kept view has gone past has a fate, or is decided among the entries
  pub views : ViewsLeaveNone all_kinds h ms w
  -- no place precedes a reply that came before its transaction
  pub order : InOrder all_kinds (history all_kinds w) (trace all_kinds w)

abbrev pub StoreRunsLegalWhere : Type 0
StoreRunsLegalWhere = (h : Header) (ms : Moves all_kinds) (w : World all_kinds) → Reaches all_kinds h ms w → StoreRests h ms w →
    Legal all_kinds w.cluster.objects (history all_kinds w) (trace all_kinds w)
