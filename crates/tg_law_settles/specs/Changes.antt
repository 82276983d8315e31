-- A script's `settle` line, as a replay runs it, where a client waits alone with a reconfiguration.
use Rattle.std.specs.Prelude.{◌≡◌, ℕ, ◌+◌, ◌*◌}
use Rattle.tg_base.specs.Changes.{Changed}
use Rattle.tg_model.specs.declared.command.Command.TheVariants as cmd
use Rattle.tg_model.specs.Kinds.{CommandOf}
use Rattle.tg_protocol.specs.Worlds.{client}
use Rattle.tg_protocol.specs.Finishing.{WaitsAlone, IsReadyToChange, Finishes, IsEnd, ReconfFinished}
use Rattle.tg_any.specs.AllKinds.{all_kinds}
use Rattle.tg_replay.specs.Runs.{Script, Worlds}
use Rattle.tg_law_reconfs.specs.Reconfs.{VotesEnd}
use Rattle.tg_law_reconfs.specs.Scans.{WaitsForScan, ScanFinishes}
use Rattle.tg_law_settles.specs.Settles.{IsSettleLine, world_before, world_after, world_drained}

-- The client stands at the epoch at which the change was given, in a world that the line starts from or comes to. The line
-- ends its command, and the client has told how; or it stands at the next epoch, and waits for that layout's sequencer.
abbrev pub LinesChange : (Script → ℕ → Worlds) → Type 0
LinesChange from = (s : Script) (n k e : ℕ) (c : Changed) → IsSettleLine s n → WaitsAlone all_kinds (from s n) k (cmd.Reconf c) → IsReadyToChange all_kinds (from s n) k e c → (client all_kinds (from s n) k).stand.epoch ≡ e →
    VotesEnd all_kinds (from s n) (world_after s n) k (2 * (from s n).cluster.units + 64 * (from s n).cluster.layouts + 22)

-- It stands at the next epoch: all that is claimed of a reconfiguration holds of the line.
abbrev pub LinesInstall : (Script → ℕ → Worlds) → Type 0
LinesInstall from = (s : Script) (n k e : ℕ) (c : Changed) → IsSettleLine s n → WaitsAlone all_kinds (from s n) k (cmd.Reconf c) → IsReadyToChange all_kinds (from s n) k e c → (client all_kinds (from s n) k).stand.epoch ≡ e + 1 →
    ReconfFinished all_kinds (from s n) (world_after s n) k e c

-- Wherever it stands the line ends its command, and the client has told how.
abbrev pub LinesEnd : (Script → ℕ → Worlds) → Type 0
LinesEnd from = (s : Script) (n k e : ℕ) (c : Changed) → IsSettleLine s n → WaitsAlone all_kinds (from s n) k (cmd.Reconf c) → IsReadyToChange all_kinds (from s n) k e c →
    Finishes all_kinds (from s n) (world_after s n) k (2 * (from s n).cluster.units + 64 * (from s n).cluster.layouts + 22) (IsEnd all_kinds)

-- so in the world before the line, and in the one that its drain leaves
abbrev pub SettleLinesEnd : Type 0
SettleLinesEnd = LinesEnd world_before

abbrev pub DrainedLinesEnd : Type 0
DrainedLinesEnd = LinesEnd world_drained

abbrev pub SettleLinesChange : Type 0
SettleLinesChange = LinesChange world_before

abbrev pub SettleLinesInstall : Type 0
SettleLinesInstall = LinesInstall world_before

abbrev pub DrainedLinesChange : Type 0
DrainedLinesChange = LinesChange world_drained

abbrev pub DrainedLinesInstall : Type 0
DrainedLinesInstall = LinesInstall world_drained

-- A client waits for its new layout's sequencer, whatever it was given. The line ends its command, the client is told that the layout is installed, and the
-- sequencer serves.
abbrev pub SettleLinesScan : Type 0
SettleLinesScan = (s : Script) (n k : ℕ) (x : CommandOf all_kinds) → IsSettleLine s n → WaitsAlone all_kinds (world_before s n) k x → WaitsForScan all_kinds (world_before s n) k → ScanFinishes all_kinds (world_before s n) (world_after s n) k
