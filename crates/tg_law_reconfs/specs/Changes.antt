-- In each run a reconfiguration that is ready stands somewhere, and that is where it can end.
use Rattle.std.specs.Prelude.{◌≡◌, ℕ, ◌+◌, ◌*◌}
use Rattle.tg_base.specs.Changes.{Changed}
use Rattle.tg_kind.specs.Meaning.{Meaning}
use Rattle.tg_model.specs.declared.command.Command.TheVariants as cmd
use Rattle.tg_protocol.specs.Worlds.{World, client, settle}
use Rattle.tg_protocol.specs.Finishing.{WaitsAlone, IsReadyToChange, Finishes, IsEnd, ReconfFinished}
use Rattle.tg_law_reconfs.specs.Reconfs.{WaitsToStart}
use Rattle.tg_law_reconfs.specs.Changing.{WaitsToChange}

module _ (m : Meaning) where
  -- it stands at the epoch at which the change was given: it reconfigures, and hasn't adopted its own layout
  abbrev pub ChangesWork : World m → Type 0
  ChangesWork w = (k e : ℕ) (c : Changed) → WaitsAlone m w k (cmd.Reconf c) → IsReadyToChange m w k e c → (client m w k).stand.epoch ≡ e → WaitsToChange m w k c

  -- it stands at the next one: it waits for that layout's sequencer, and the sequencer is the change's
  abbrev pub ChangesStart : World m → Type 0
  ChangesStart w = (k e : ℕ) (c : Changed) → WaitsAlone m w k (cmd.Reconf c) → IsReadyToChange m w k e c → (client m w k).stand.epoch ≡ e + 1 → WaitsToStart m w k (e + 1) × ((client m w k).stand.seq ≡ c.seq)

  -- and from there all that is claimed of a reconfiguration holds
  abbrev pub ChangesInstall : World m → Type 0
  ChangesInstall w = (k e : ℕ) (c : Changed) → WaitsAlone m w k (cmd.Reconf c) → IsReadyToChange m w k e c → (client m w k).stand.epoch ≡ e + 1 → ReconfFinished m w (settle m w).world k e c

  -- wherever it stands a settling answers it, and it is told how it ended
  abbrev pub ReconfsEnd : World m → Type 0
  ReconfsEnd w = (k e : ℕ) (c : Changed) → WaitsAlone m w k (cmd.Reconf c) → IsReadyToChange m w k e c →
      Finishes m w (settle m w).world k (2 * w.cluster.units + 64 * w.cluster.layouts + 22) (IsEnd m)
