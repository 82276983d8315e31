-- What holds of the steps of each node, and of runs.
use Rattle.std.specs.Prelude.{◌≡◌, ℕ, ◌<◌, ◌≤◌, List, [], ◌∷◌, ◌++◌, Some, None}
use Rattle.tg_base.specs.Layouts.{Layout}
use Rattle.tg_base.specs.declared.cell.Cell.{Cell}
use Rattle.tg_base.specs.declared.msg.Msg.{Msg}
use Rattle.tg_base.specs.declared.msg.Msg.TheVariants as msg
use Rattle.tg_kind.specs.Meaning.{Meaning}
use Rattle.tg_protocol.specs.Words.{cell_at}
use Rattle.tg_protocol.specs.Units.{UnitState, says, unit_ask, unit_step}
use Rattle.tg_protocol.specs.Sequencers.{new_seqr}
use Rattle.tg_protocol.specs.Worlds.{World, Line, lines, drain, settle}
use Rattle.tg_law_layouts.specs.Steps.Runs.{unit_after, epoch_of, Input, seqr_after, Issues}

-- a cell that a unit has, and doesn't trim, stays as it is
abbrev pub CellsStay : Type 0
CellsStay = (s : UnitState) (ms : List Msg) (p : ℕ) (c : Cell) →
    cell_at s.cells p ≡ Some c → (unit_after s ms).low ≤ p → cell_at (unit_after s ms).cells p ≡ Some c

-- a request of an epoch below one that a unit has stood at changes nothing
abbrev pub SealsFence : Type 0
SealsFence = (s : UnitState) (ms : List Msg) (m : Msg) (e : ℕ) → epoch_of (unit_ask m) ≡ Some e → e < s.epoch →
    unit_step (unit_after s ms) m ≡ says (unit_after s ms) (msg.Fenced (unit_after s ms).epoch)

-- of two positions that a sequencer issues in one epoch the later one is greater
abbrev pub IssuesOnce : Type 0
IssuesOnce = (num limit : ℕ) (first : Layout) (before : List Input) (i : Input) (between : List Input) (j : Input) (p q : ℕ) →
    Issues (seqr_after (new_seqr num limit first) before) i p →
    Issues (seqr_after (new_seqr num limit first) (before ++ i ∷ between)) j q →
    (seqr_after (new_seqr num limit first) before).epoch ≡ (seqr_after (new_seqr num limit first) (before ++ i ∷ between)).epoch →
    p < q

-- a run of some lines and then of others
abbrev pub RunsAreCutAnywhere : Meaning → Type 0
RunsAreCutAnywhere m = (xs ys : List (Line m)) (w : World m) → lines m (xs ++ ys) w ≡ lines m ys (lines m xs w)

-- a drain that no limit stopped leaves the world quiet
abbrev pub DrainsEnd : Meaning → Type 0
DrainsEnd m = (w : World m) → (drain m w).stopped ≡ None → (drain m w).world.waiting ≡ []

-- and so does a settling
abbrev pub SettlesEnd : Meaning → Type 0
SettlesEnd m = (w : World m) → (settle m w).stopped ≡ None → (settle m w).world.waiting ≡ []
