-- Runs that leave a reconfiguration ready: at the epoch at which its change was given, and at the next one.
use Rattle.std.specs.Prelude.{◌≡◌, ℕ, ◌+◌, ◌*◌, [], ◌∷◌}
use Rattle.tg_model.specs.declared.command.Command.TheVariants as cmd
use Rattle.tg_model.specs.declared.command.Event.TheVariants.{Command as Commands, Deliver, Lose}
use Rattle.tg_protocol.specs.Worlds.{World, start, seqr, client, settle}
use Rattle.tg_protocol.specs.Runs.{Moves, Takes, Reaches, run}
use Rattle.tg_protocol.specs.Finishing.{IsServing, WaitsAlone, IsReadyToChange, deliveries, is_scan}
use Rattle.tg_any.specs.AllKinds.{all_kinds}
use Rattle.tg_law_finish.specs.Tallies.Tallies.{one_of_each}
use Rattle.tg_law_finish.specs.Tallies.Settled.{opens_again}
use Rattle.tg_law_reconfs.specs.Settled.{seal_lost, Installs}

-- the change was given at epoch 1, and the client stands at this one
pub record IsReadyAt (ms : Moves all_kinds) (e : ℕ) (w : World all_kinds) : Type 0 where
  pub reached : Reaches all_kinds one_of_each ms w
  pub alone : WaitsAlone all_kinds w 0 (cmd.Reconf opens_again)
  pub ready : IsReadyToChange all_kinds w 0 1 opens_again
  pub stands : (client all_kinds w 0).stand.epoch ≡ e

-- a client opens a range at the one unit, its layout is decided and adopted, and the request to its sequencer is lost
abbrev pub learn_lost : Moves all_kinds
learn_lost = Takes (Commands 0 (cmd.Reconf opens_again)) ∷ Takes (Deliver 0) ∷ Takes (Deliver 1) ∷ Takes (Deliver 2) ∷ Takes (Deliver 3) ∷ Takes (Deliver 4)
    ∷ Takes (Deliver 5) ∷ Takes (Deliver 6) ∷ Takes (Deliver 7) ∷ Takes (Lose 8) ∷ []

abbrev pub ChangesAreReady : Type 0
ChangesAreReady = IsReadyAt seal_lost 1 (run all_kinds seal_lost (start all_kinds one_of_each)) × IsReadyAt learn_lost 2 (run all_kinds learn_lost (start all_kinds one_of_each))

-- What a settling makes of the first: twelve deliveries with the client, where so many are allowed, and the new sequencer
-- serves. Its layout starts at 0, so it has scanned nothing.
pub record ReconfSettles (w : World all_kinds) : Type 0 where
  pub ready : IsReadyAt seal_lost 1 w
  pub allowed : 2 * w.cluster.units + 64 * w.cluster.layouts + 22 ≡ 88
  pub installs : Installs w 12
  pub serves : IsServing (seqr all_kinds (settle all_kinds w).world opens_again.seq) 2
  pub scanned : deliveries all_kinds (is_scan all_kinds opens_again.seq 0) w (settle all_kinds w).world ≡ 0

abbrev pub ReconfIsFinished : Type 0
ReconfIsFinished = ReconfSettles (run all_kinds seal_lost (start all_kinds one_of_each))
