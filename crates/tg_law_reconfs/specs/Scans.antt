-- The last phase of a reconfiguration, where the new sequencer may have to learn its layout and to scan the log first.
use Rattle.std.specs.Prelude.{◌≡◌, ℕ, ◌+◌, ◌*◌, ◌≤◌, true, Some, Contains}
use Rattle.tg_kind.specs.Meaning.{Meaning}
use Rattle.tg_model.specs.declared.command.Command.TheVariants as cmd
use Rattle.tg_model.specs.declared.trace.What.TheVariants as told
use Rattle.tg_base.specs.Changes.{Changed}
use Rattle.tg_model.specs.Kinds.{CommandOf}
use Rattle.tg_protocol.specs.Words.{unit_id, seqr_id}
use Rattle.tg_protocol.specs.Layouts.{units_of}
use Rattle.tg_protocol.specs.Reconfiguring.{Starting, Reconf}
use Rattle.tg_protocol.specs.Clients.{Work, Reconfiguring, Doing}
use Rattle.tg_protocol.specs.Worlds.{World, seqr, client, runs, settle}
use Rattle.tg_protocol.specs.Finishing.{IsServing, NoneAbove, WaitsAlone, IsReadyToChange, ReconfFinished, Finishes, longest_chain, deliveries, is_scan}

module _ (m : Meaning) where
  -- The client stands at its new layout, and waits for that layout's sequencer, which runs, as do the layout's units. No node
  -- stands past that epoch.
  pub record WaitsForScan (w : World m) (k : ℕ) : Type 0 where
    pub work : Work m
    pub waits : (client m w k).work ≡ Some work
    pub reconf : Reconf
    pub hand : work.hand ≡ Doing (Reconfiguring reconf)
    pub rid : ℕ
    pub starting : reconf.work ≡ Starting rid
    pub seqr_runs : runs m w (seqr_id (client m w k).stand.seq) ≡ true
    pub units : (u : ℕ) → Contains (units_of (client m w k).stand) u → runs m w (unit_id u) ≡ true
    pub none_above : NoneAbove m w (client m w k).stand.epoch

  -- The client is told that its layout is installed: within two rounds of ticks, each of two deliveries for each layout
  -- server, and two for the request and its answer. The sequencer serves then. Of each position below the layout's start
  -- it has read and filled the cell, and copied it down the chain; and one request of an older scan may be answered.
  pub record ScanFinishes (w v : World m) (k : ℕ) : Type 0 where
    pub finishes : Finishes m w v k (4 * w.cluster.layouts + 4) (λ what. what ≡ told.Installed (client m w k).stand.epoch)
    pub serves : IsServing (seqr m v (client m w k).stand.seq) (client m w k).stand.epoch
    pub few : deliveries m (is_scan m (client m w k).stand.seq k) w v ≤ (client m w k).stand.start * (2 * longest_chain (client m w k).stand + 2) + 2

  abbrev pub ScansFinish : World m → Type 0
  ScansFinish w = (k : ℕ) (x : CommandOf m) → WaitsAlone m w k x → WaitsForScan w k → ScanFinishes w (settle m w).world k

  -- so all that is claimed of a reconfiguration holds from there
  abbrev pub ScansInstall : World m → Type 0
  ScansInstall w = (k e : ℕ) (c : Changed) → WaitsAlone m w k (cmd.Reconf c) → IsReadyToChange m w k e c → WaitsForScan w k → (client m w k).stand.epoch ≡ e + 1 →
      (client m w k).stand.seq ≡ c.seq → ReconfFinished m w (settle m w).world k e c
