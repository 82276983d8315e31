-- A sync keeps its streams, and a log has one cell at a position.
use Rattle.std.proofs.Common.{◌≡◌, ℕ, ◌+◌, ◌≤◌, List, [], ◌∷◌, true, refl, arith, Option, Some, None}
use Rattle.std.specs.Prelude.{nat_le}
use Rattle.tg_base.specs.Layouts.{Layout}
use Rattle.tg_base.specs.declared.cell.Cell.{Cell}
use Rattle.tg_kind.specs.Meaning.{Meaning}
use Rattle.tg_protocol.specs.Words.{with_nums}
use Rattle.tg_protocol.specs.Requests.{Next}
use Rattle.tg_protocol.specs.Replies.{Reply}
use Rattle.tg_protocol.specs.Syncing.{SyncWork, Sync, Confirmed}
use Rattle.tg_protocol.specs.Units.{UnitState}
use Rattle.tg_protocol.specs.Logs.{Log, positions, all_positions, cell_if, log_cell, cells_of, log_of}
use Rattle.tg_protocol.specs.Worlds.{log, latest}
use Rattle.tg_law_steps.proofs.Machines.Syncs.{SyncCame, IsSettled, IsProbed, sync_came}
use Rattle.tg_law_walks.specs.Walks.Streams.{rises}
use Rattle.tg_law_walks.specs.Walks.Laws.{LogsByPosition, KeepsStreams, SyncsKeepStreams}
use Rattle.tg_law_walks.proofs.Walks.Members.{and_both, both_and}
use Rattle.tg_law_walks.proofs.Walks.Positions.{all_rise, rises_less}

-- Cells of a log.

units_rise : (us : List UnitState) → rises 0 (all_positions us) ≡ true
units_rise [] = refl
units_rise (u ∷ us) = all_rise (positions u.cells) (all_positions us) (units_rise us)

le_of : (a b : ℕ) → nat_le a b ≡ true → a ≤ b
le_of a b e = grind arith

cells_rise : (q : Layout) (us : List UnitState) (archive : Log) (low : ℕ) (ps : List ℕ) → rises low ps ≡ true → rises low (positions (cells_of q us archive ps)) ≡ true
cells_rise q us archive low [] h = refl
cells_rise q us archive low (p ∷ ps) h = by (log_cell q us archive p) (cells_rise q us archive (p + 1) ps (and_both (nat_le low p) (rises (p + 1) ps) h).1)
  where
    by : (c : Option Cell) → rises (p + 1) (positions (cells_of q us archive ps)) ≡ true → rises low (positions (cell_if p c (cells_of q us archive ps))) ≡ true
    by None rest = let le = le_of low p (and_both (nat_le low p) (rises (p + 1) ps) h).0 in rises_less (p + 1) low (positions (cells_of q us archive ps)) (omega (arith, le)) rest
    by (Some c) rest = both_and (nat_le low p) (rises (p + 1) (positions (cells_of q us archive ps))) (and_both (nat_le low p) (rises (p + 1) ps) h).0 rest

pub logs_by_position : (m : Meaning) → LogsByPosition m
unfolding log log_of
logs_by_position m w = cells_rise (latest m w) w.units w.archive 0 (with_nums (positions w.archive) (all_positions w.units)) (all_rise (positions w.archive) (all_positions w.units) (units_rise w.units))

-- A sync's streams.

came_keeps : (p : Layout) (s : Sync) (n : ℕ) (x : Reply) (next : ℕ) (w : SyncWork) (to : Next Sync Confirmed) → SyncCame p s n x next w to → KeepsStreams s to
came_keeps p s n x next _ _ (IsSettled a j c e) = tt
came_keeps p s n x next _ _ (IsProbed a j e) = tt
came_keeps p s n x next _ _ came = refl

pub syncs_keep_streams : SyncsKeepStreams
syncs_keep_streams p s n x next = came_keeps p s n x next s.work _ (sync_came p s n x next s.work)
