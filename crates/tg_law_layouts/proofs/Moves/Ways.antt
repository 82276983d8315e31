-- The ways of a client's turn lead to no lower request numbers.
use Rattle.std.proofs.Common.{◌≤◌, [], arith}
use Rattle.tg_kind.specs.Meaning.{Meaning}
use Rattle.tg_protocol.specs.Appending.{append_asks}
use Rattle.tg_protocol.specs.Syncing.{sync_asks}
use Rattle.tg_protocol.specs.Walking.{walk_asks}
use Rattle.tg_protocol.specs.Trimming.{trim_asks, copy_asks}
use Rattle.tg_protocol.specs.Reconfiguring.{reconf_awaited}
use Rattle.tg_protocol.specs.Clients.{Work, Client}
use Rattle.tg_law_layouts.proofs.Moves.Draws.{next_up}
use Rattle.tg_law_layouts.proofs.Moves.Machines.{append_draws, append_again_draws, sync_draws, sync_start_draws, walk_draws, walk_again_draws, trim_draws, trim_start_draws, copy_draws, copy_start_draws}
use Rattle.tg_law_layouts.proofs.Moves.Reconfs.{reconf_draws, reconf_latest_draws}
use Rattle.tg_law_steps.proofs.Places.{Place}
use Rattle.tg_law_steps.proofs.Ways.{Way, FeedsSync, FeedsWalk, FeedsAppend, FeedsTrims, FeedsCopy, FeedsReconf, NewerSync, NewerWalk, NewerAppend, NewerTrims, NewerCopy, NewerReconf}

module _ (m : Meaning) where
  -- no way leads to lower numbers
  pub way_up : (c : Client m) (w : Work m) (p : Place m) (d : Client m) (v : Work m) (q : Place m) → Way m c w p d v q → c.next ≤ d.next
  way_up c w _ _ _ _ (FeedsSync s n rid x) = next_up (sync_asks c.stand) (sync_asks c.stand s) c.next _ _ _ (sync_draws c.stand s n x c.next)
  way_up c w _ _ _ _ (FeedsWalk k os n rid x) = next_up walk_asks (walk_asks k) c.next _ _ _ (walk_draws c.stand k n x c.next)
  way_up c w _ _ _ _ (FeedsAppend a y n rid x) = next_up (append_asks c.stand) (append_asks c.stand a) c.next _ _ _ (append_draws c.stand a n x c.next)
  way_up c w _ _ _ _ (FeedsTrims t n rid x) = next_up (trim_asks c.stand) (trim_asks c.stand t) c.next _ _ _ (trim_draws c.stand t n x c.next)
  way_up c w _ _ _ _ (FeedsCopy y n rid x) = next_up (copy_asks c.stand) (copy_asks c.stand y) c.next _ _ _ (copy_draws c.stand y n x c.next)
  way_up c w _ _ _ _ (FeedsReconf r n rid x) = next_up reconf_awaited (reconf_awaited r) c.next _ _ _ (reconf_draws r n rid x c.next)
  way_up c w _ _ _ _ (NewerSync s n rid q) = next_up (sync_asks q) [] c.next _ _ _ (sync_start_draws q s.oids c.next)
  way_up c w _ _ _ _ (NewerWalk k os n rid q) = next_up walk_asks [] c.next _ _ _ (walk_again_draws q k c.next)
  way_up c w _ _ _ _ (NewerAppend a y n rid q) = next_up (append_asks q) [] c.next _ _ _ (append_again_draws q a c.next)
  way_up c w _ _ _ _ (NewerTrims t n rid q) = next_up (trim_asks q) [] c.next _ _ _ (trim_start_draws q t.below c.next)
  way_up c w _ _ _ _ (NewerCopy x n rid q fine) = next_up (copy_asks q) [] c.next _ _ _ (copy_start_draws q x.unit x.range x.stripe c.next)
  way_up c w _ _ _ _ (NewerReconf r n rid q) = next_up reconf_awaited (reconf_awaited r) c.next _ _ _ (reconf_latest_draws r n rid q c.next)
  way_up c w _ _ _ _ x = omega arith
