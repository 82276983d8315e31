-- What holds of every run of the store that laws of runs ask: its trims, where its appends end, and what its clients find of the log.
use Rattle.std.proofs.Common.{sym, subst}
use Rattle.tg_base.specs.Clusters.{Header}
use Rattle.tg_protocol.specs.Holding.{EntriesOwn}
use Rattle.tg_protocol.specs.Worlds.{World}
use Rattle.tg_protocol.specs.Runs.{Moves, Reaches}
use Rattle.tg_any.specs.AllKinds.{all_kinds}
use Rattle.tg_law_layouts.specs.Moves.After.{after}
use Rattle.tg_law_replies.specs.Replies.Ended.{AppendsEnd}
use Rattle.tg_law_replies.specs.Replies.Laws.{ClientsFind}
use Rattle.tg_law_headline.specs.Trims.Spare.{TrimsAre}
use Rattle.tg_law_walks.proofs.Lists.Reached.{before_reached}
use Rattle.tg_law_walks.proofs.Checkpoints.Checkpoints.{entries_own, appends_end}
use Rattle.tg_law_syncs.specs.Exact.Finds.{ViewsLeaveNone}
use Rattle.tg_law_syncs.proofs.Exact.Fits.{finds, views_fit}
use Rattle.tg_law_syncs.proofs.Follow.Saves.{saves_precede}
use Rattle.tg_law_headline.proofs.AllKinds.Touching.{kinds_touch_parts}
use Rattle.tg_law_headline.proofs.Store.States.{store_has_states}
use Rattle.tg_law_headline.proofs.Store.Steps.{store_trims_are_spare, views_here}
use Rattle.tg_law_headline.proofs.Joint.Holding.{steps_hold}

module _ (h : Header) (ms : Moves all_kinds) (w : World all_kinds) (r : Reaches all_kinds h ms w) where
  pub trims : TrimsAre all_kinds h ms w
  trims = store_trims_are_spare h ms w r (steps_hold h ms w r)

  pub ends : AppendsEnd all_kinds h ms w
  ends = appends_end all_kinds kinds_touch_parts h ms w r trims.were.safe

  pub own : EntriesOwn all_kinds h ms w
  own = entries_own all_kinds kinds_touch_parts h ms w r

  at_end : Reaches all_kinds h ms (after all_kinds h ms)
  at_end = subst (Reaches all_kinds h ms) r.goes.is r

  views : ViewsLeaveNone all_kinds h ms w
  views = subst (ViewsLeaveNone all_kinds h ms) (sym r.goes.is) (views_here h ms at_end (steps_hold h ms w r) trims.were)

  -- where they have walked
  pub found : ClientsFind all_kinds h ms w
  found = finds all_kinds h ms w r trims.were (λ before rest split. entries_own all_kinds kinds_touch_parts h before (after all_kinds h before) (before_reached all_kinds h ms at_end before rest split))
      (saves_precede all_kinds h ms w r trims.were own) (views_fit all_kinds h ms w (store_has_states h ms w r trims.were.safe) views)
