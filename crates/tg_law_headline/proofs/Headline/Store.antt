-- Runs of the store, by what is had of their steps.
use Rattle.std.proofs.Common.{sym, subst}
use Rattle.tg_base.specs.Clusters.{Header}
use Rattle.tg_protocol.specs.Worlds.{World}
use Rattle.tg_protocol.specs.Runs.{Moves, Reaches}
use Rattle.tg_protocol.specs.Holding.{EntriesOwn}
use Rattle.tg_any.specs.AllKinds.{all_kinds}
use Rattle.tg_law_layouts.specs.Moves.After.{after}
use Rattle.tg_law_replies.specs.Replies.Ended.{AppendsEnd}
use Rattle.tg_law_replies.specs.Replies.Laws.{ClientsFind, TellsSo, WritesTruth}
use Rattle.tg_law_replies.proofs.Replies.Rescues.{runs_tell_truth, runs_write_truth}
use Rattle.tg_law_walks.specs.Lists.Spared.{TrimsWereSpare}
use Rattle.tg_law_walks.proofs.Lists.Reached.{before_reached}
use Rattle.tg_law_syncs.specs.Finds.Left.{PassesOwn}
use Rattle.tg_law_syncs.specs.Exact.Finds.{ViewsLeaveNone}
use Rattle.tg_law_syncs.proofs.Exact.Fits.{finds, views_fit}
use Rattle.tg_law_syncs.proofs.Follow.Saves.{saves_precede}
use Rattle.tg_law_headline.proofs.AllKinds.Touching.{kinds_touch_parts}
use Rattle.tg_law_walks.proofs.Checkpoints.Checkpoints.{entries_own, appends_end}
use Rattle.tg_law_headline.proofs.Ordered.Histories.{histories_rise}
use Rattle.tg_law_headline.proofs.Ordered.Order.{runs_are_in_order, records_are_in_order}
use Rattle.tg_law_headline.specs.Store.Steps.{StepsHold}
use Rattle.tg_law_headline.proofs.Store.States.{store_has_states}
use Rattle.tg_law_headline.proofs.Store.States as states
use Rattle.tg_law_headline.proofs.Store.Steps.{store_trims_are_spare, views_here}
use Rattle.tg_law_headline.specs.Headline.Store.{StoreRunsLegal, StoreRunsLegalBySteps, StoreRunsHold}

pub store_runs_legal : StoreRunsLegal
store_runs_legal h ms w r trims views = states.store_runs_legal h ms w r (record { trims = trims; views = views; order = runs_are_in_order all_kinds h ms w r trims })

module _ (h : Header) (ms : Moves all_kinds) (w : World all_kinds) (r : Reaches all_kinds h ms w) (holds : StepsHold h ms) where
  trims : TrimsWereSpare all_kinds h ms
  trims = (store_trims_are_spare h ms w r holds).were

  at_end : Reaches all_kinds h ms (after all_kinds h ms)
  at_end = subst (Reaches all_kinds h ms) r.goes.is r

  views : ViewsLeaveNone all_kinds h ms w
  views = subst (ViewsLeaveNone all_kinds h ms) (sym r.goes.is) (views_here h ms at_end holds trims)

  own : EntriesOwn all_kinds h ms w
  own = entries_own all_kinds kinds_touch_parts h ms w r

  all_own : PassesOwn all_kinds h ms w
  all_own before rest split = entries_own all_kinds kinds_touch_parts h before (after all_kinds h before) (before_reached all_kinds h ms at_end before rest split)

  found : ClientsFind all_kinds h ms w
  found = finds all_kinds h ms w r trims all_own (saves_precede all_kinds h ms w r trims own) (views_fit all_kinds h ms w (store_has_states h ms w r trims.safe) views)

  ends : AppendsEnd all_kinds h ms w
  ends = appends_end all_kinds kinds_touch_parts h ms w r trims.safe

  tells : TellsSo all_kinds w
  tells = runs_tell_truth all_kinds h ms w r found ends

  writes : WritesTruth all_kinds w
  writes = runs_write_truth all_kinds h ms w r found ends own

pub store_runs_legal_by_steps : StoreRunsLegalBySteps
store_runs_legal_by_steps h ms w r holds = store_runs_legal h ms w r (trims h ms w r holds) (views h ms w r holds)

pub store_runs_hold : StoreRunsHold
store_runs_hold h ms w r holds = record {
  rises = histories_rise all_kinds w;
  legal = store_runs_legal_by_steps h ms w r holds;
  order = records_are_in_order all_kinds h ms w r (trims h ms w r holds);
  outcomes = (tells h ms w r holds).outcomes;
  past = (tells h ms w r holds).past;
  rescues = (tells h ms w r holds).rescues;
  writes = writes h ms w r holds;
}
