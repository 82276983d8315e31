-- A sync's turn, and what it settles.
use Rattle.std.specs.Prelude.{◌≡◌, ℕ, List, Option, Some, None}
use Rattle.tg_base.specs.Layouts.{Layout}
use Rattle.tg_base.specs.declared.cell.Cell.{Cell}
use Rattle.tg_base.specs.declared.ids.Oid.{Oid}
use Rattle.tg_protocol.specs.Syncing.{Sync, SyncTurn, sync_asks}
use Rattle.tg_chain.specs.declared.step.Step.{Step}
use Rattle.tg_append.specs.declared.ends.Confirmed.{Confirmed as Given}
use Rattle.tg_append.specs.Turns.{shown}
use Rattle.tg_append.specs.Syncs.{confirmed_of, by_sync}
use Rattle.tg_client_cells.specs.Known.{Knowledge, learnt}
use Rattle.tg_client_state.specs.Near.{SyncThenNear}
use Rattle.tg_client_state.specs.Steps.{Fits}

abbrev pub knowing : Knowledge → Option (ℕ × Cell) → Knowledge
knowing k None = k
knowing k (Some e) = learnt k e.0 e.1

-- a call that shows this turn, in a layout, from one number to the next, in a step that began with `old`
pub record SyncShown (old : ℕ) (p : Layout) (next now : ℕ) (s : Step Sync (List Oid) Given) (t : SyncTurn) : Type 0 where
  pub turn : shown confirmed_of s now ≡ by_sync p next t
  pub fits : Fits (sync_asks p) old next t
  pub near : SyncThenNear t.to
