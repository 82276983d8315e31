-- What is proved of a reconfiguration's settling holds of a script's line.
use Rattle.std.proofs.Common.{◌≡◌, ℕ, ◌+◌, ◌*◌, sym, subst}
use Rattle.tg_base.specs.Changes.{Changed}
use Rattle.tg_model.specs.declared.command.Command.TheVariants as cmd
use Rattle.tg_protocol.specs.Worlds.{client, settle}
use Rattle.tg_protocol.specs.Runs.{Moves, Reaches}
use Rattle.tg_protocol.specs.Finishing.{WaitsAlone, IsReadyToChange, Finishes, IsEnd, ReconfFinished}
use Rattle.tg_any.specs.AllKinds.{all_kinds}
use Rattle.tg_replay.specs.Runs.{Script, Worlds}
use Rattle.tg_law_finish.proofs.Finish.Drains.{drained_reached}
use Rattle.tg_law_reconfs.specs.Reconfs.{VotesEnd}
use Rattle.tg_law_reconfs.specs.Scans.{ScanFinishes}
use Rattle.tg_law_reconfs.proofs.Changes.{changes_work}
use Rattle.tg_law_reconfs.proofs.Installing.{changes_install}
use Rattle.tg_law_reconfs.proofs.Phased.{joins_finish}
use Rattle.tg_law_reconfs.proofs.ScanEnds.{scans_finish}
use Rattle.tg_law_reconfs.proofs.Whole.{reconfs_end}
use Rattle.tg_law_settles.specs.Settles.{IsSettleLine, world_before, world_after, world_drained}
use Rattle.tg_law_settles.specs.Changes.{SettleLinesChange, SettleLinesInstall, SettleLinesEnd, DrainedLinesChange, DrainedLinesInstall, DrainedLinesEnd, SettleLinesScan}
use Rattle.tg_law_settles.proofs.Settles.{comes, settled_after, drained_after}

-- a run comes to the world from which the line is told, whose settling is the line's
record From (s : Script) (n : ℕ) (w : Worlds) : Type 0 where
  moves : Moves all_kinds
  reaches : Reaches all_kinds s.header moves w
  after : world_after s n ≡ (settle all_kinds w).world

before : (s : Script) (n : ℕ) → IsSettleLine s n → From s n (world_before s n)
before s n is = let r = comes s n is in record { moves = r.moves; reaches = r.reaches; after = settled_after s n is }

behind : (s : Script) (n : ℕ) → IsSettleLine s n → From s n (world_drained s n)
behind s n is =
    let r = comes s n is in
    let d = drained_reached all_kinds s.header r.moves (world_before s n) r.reaches in
    record { moves = d.0; reaches = d.1; after = drained_after s n is }

changes : (s : Script) (n : ℕ) (w : Worlds) → From s n w → (k e : ℕ) (c : Changed) → WaitsAlone all_kinds w k (cmd.Reconf c) → IsReadyToChange all_kinds w k e c → (client all_kinds w k).stand.epoch ≡ e
    → VotesEnd all_kinds w (world_after s n) k (2 * w.cluster.units + 64 * w.cluster.layouts + 22)
changes s n w f k e c alone ready stands =
    subst (λ (v : Worlds). VotesEnd all_kinds w v k (2 * w.cluster.units + 64 * w.cluster.layouts + 22)) (sym f.after)
    (joins_finish s.header f.moves w f.reaches k (cmd.Reconf c) c alone (changes_work s.header f.moves w f.reaches k e c alone ready stands))

installs : (s : Script) (n : ℕ) (w : Worlds) → From s n w → (k e : ℕ) (c : Changed) → WaitsAlone all_kinds w k (cmd.Reconf c) → IsReadyToChange all_kinds w k e c → (client all_kinds w k).stand.epoch ≡ e + 1
    → ReconfFinished all_kinds w (world_after s n) k e c
installs s n w f k e c alone ready stands = subst (λ (v : Worlds). ReconfFinished all_kinds w v k e c) (sym f.after) (changes_install s.header f.moves w f.reaches k e c alone ready stands)

ends : (s : Script) (n : ℕ) (w : Worlds) → From s n w → (k e : ℕ) (c : Changed) → WaitsAlone all_kinds w k (cmd.Reconf c) → IsReadyToChange all_kinds w k e c
    → Finishes all_kinds w (world_after s n) k (2 * w.cluster.units + 64 * w.cluster.layouts + 22) (IsEnd all_kinds)
ends s n w f k e c alone ready =
    subst (λ (v : Worlds). Finishes all_kinds w v k (2 * w.cluster.units + 64 * w.cluster.layouts + 22) (IsEnd all_kinds)) (sym f.after) (reconfs_end s.header f.moves w f.reaches k e c alone ready)

pub settle_lines_end : SettleLinesEnd
settle_lines_end s n k e c is = ends s n (world_before s n) (before s n is) k e c

pub drained_lines_end : DrainedLinesEnd
drained_lines_end s n k e c is = ends s n (world_drained s n) (behind s n is) k e c

pub settle_lines_change : SettleLinesChange
settle_lines_change s n k e c is = changes s n (world_before s n) (before s n is) k e c

pub drained_lines_change : DrainedLinesChange
drained_lines_change s n k e c is = changes s n (world_drained s n) (behind s n is) k e c

pub settle_lines_install : SettleLinesInstall
settle_lines_install s n k e c is = installs s n (world_before s n) (before s n is) k e c

pub drained_lines_install : DrainedLinesInstall
drained_lines_install s n k e c is = installs s n (world_drained s n) (behind s n is) k e c

pub settle_lines_scan : SettleLinesScan
settle_lines_scan s n k x is alone waits =
    let r = comes s n is in
    subst (λ (v : Worlds). ScanFinishes all_kinds (world_before s n) v k) (sym (settled_after s n is)) (scans_finish s.header r.moves (world_before s n) r.reaches k x alone waits)
