-- Runs that leave a client in the middle of a reconfiguration, and what a settling makes of them.
use Rattle.std.specs.Prelude.{◌≡◌, ℕ, ◌+◌, ◌*◌, [], ◌∷◌, length, Some, None, pos}
use Rattle.tg_base.specs.Changes.{Changed}
use Rattle.tg_base.specs.Clusters.{Header}
use Rattle.tg_base.specs.declared.ids.Oid.{Oid}
use Rattle.tg_cell.specs.declared.counter.CounterOp.TheVariants.{Add}
use Rattle.tg_model.specs.declared.command.Command.TheVariants as cmd
use Rattle.tg_model.specs.declared.command.Event.TheVariants.{Command as Commands, Deliver, Lose}
use Rattle.tg_model.specs.declared.trace.What.TheVariants as told
use Rattle.tg_protocol.specs.Reconfiguring.{SealingSpare}
use Rattle.tg_protocol.specs.Worlds.{World, start, trace, seqr, client, settle}
use Rattle.tg_protocol.specs.Runs.{Moves, Takes, Reaches, run}
use Rattle.tg_protocol.specs.Finishing.{deliveries, is_with_client, is_scan, longest_chain, WaitsAlone, IsReadyToChange}
use Rattle.tg_any.specs.AllKinds.{all_kinds}
use Rattle.tg_any.specs.declared.any.AnyOp.TheVariants as ops
use Rattle.tg_law_finish.specs.Tallies.Tallies.{one_of_each}
use Rattle.tg_law_finish.specs.Tallies.Settled.{opens_again}
use Rattle.tg_law_reconfs.specs.Changing.{WaitsToChange}
use Rattle.tg_law_reconfs.specs.Reconfs.{WaitsForVotes, WaitsForSeals}
use Rattle.tg_law_reconfs.specs.Scans.{WaitsForScan}

-- what a settling makes of it: so many deliveries with the client, and the client tells that epoch 2's layout is installed
pub record Installs (w : World all_kinds) (taken : ℕ) : Type 0 where
  pub counted : deliveries all_kinds (is_with_client all_kinds 0) w (settle all_kinds w).world ≡ taken
  pub none_before : trace all_kinds w ≡ []
  pub tells : trace all_kinds (settle all_kinds w).world ≡ record { event = 0; client = 0; tx = 0; what = told.Installed 2 } ∷ []

-- a client opens a range at the one unit, and the seal is lost
abbrev pub seal_lost : Moves all_kinds
seal_lost = Takes (Commands 0 (cmd.Reconf opens_again)) ∷ Takes (Lose 0) ∷ []

pub record SealsSettle (w : World all_kinds) : Type 0 where
  pub reached : Reaches all_kinds one_of_each seal_lost w
  pub alone : WaitsAlone all_kinds w 0 (cmd.Reconf opens_again)
  pub waits : WaitsForSeals all_kinds w 0
  pub allowed : 2 * length waits.waiting + 34 * w.cluster.layouts + 16 ≡ 52
  pub installs : Installs w 12

-- the unit is sealed, and the request for the layout server's promise is lost
abbrev pub promise_lost : Moves all_kinds
promise_lost = Takes (Commands 0 (cmd.Reconf opens_again)) ∷ Takes (Deliver 0) ∷ Takes (Deliver 1) ∷ Takes (Lose 2) ∷ []

pub record VotesSettle (w : World all_kinds) : Type 0 where
  pub reached : Reaches all_kinds one_of_each promise_lost w
  pub alone : WaitsAlone all_kinds w 0 (cmd.Reconf opens_again)
  pub waits : WaitsForVotes all_kinds w 0
  pub allowed : 34 * w.cluster.layouts + 16 ≡ 50
  pub installs : Installs w 10

-- A unit that joins.

-- two units, of which the first layout has one
abbrev pub two_units : Header
two_units = record one_of_each { units = 2 }

-- the other one joins the first range's stripe
abbrev pub joins_stripe : Changed
joins_stripe = record { seq = 0; drop = []; opened = []; join = Some (record { unit = 1; range = 0; stripe = 0 }) }

-- a client opens a range, so that the first one is closed, and lets the other unit join it; that unit's seal is lost
abbrev pub join_lost : Moves all_kinds
join_lost = Takes (Commands 0 (cmd.Reconf opens_again)) ∷ Takes (Deliver 0) ∷ Takes (Deliver 1) ∷ Takes (Deliver 2) ∷ Takes (Deliver 3) ∷ Takes (Deliver 4) ∷ Takes (Deliver 5) ∷ Takes (Deliver 6)
    ∷ Takes (Deliver 7) ∷ Takes (Deliver 8) ∷ Takes (Deliver 9) ∷ Takes (Commands 0 (cmd.Reconf joins_stripe)) ∷ Takes (Lose 10) ∷ []

pub record JoinsSettle (w : World all_kinds) : Type 0 where
  pub reached : Reaches all_kinds two_units join_lost w
  pub alone : WaitsAlone all_kinds w 0 (cmd.Reconf joins_stripe)
  pub waits : WaitsToChange all_kinds w 0 joins_stripe
  pub seals : (n : ℕ) × (waits.reconf.work ≡ SealingSpare n)
  pub allowed : 2 * w.cluster.units + 64 * w.cluster.layouts + 22 ≡ 90
  pub counted : deliveries all_kinds (is_with_client all_kinds 0) w (settle all_kinds w).world ≡ 20
  pub tells : trace all_kinds (settle all_kinds w).world ≡ record { event = 0; client = 0; tx = 0; what = told.Installed 2 } ∷ record { event = 0; client = 0; tx = 0; what = told.Installed 3 } ∷ []

abbrev pub SealsAreAnswered : Type 0
SealsAreAnswered = SealsSettle (run all_kinds seal_lost (start all_kinds one_of_each))

abbrev pub VotesAreAnswered : Type 0
VotesAreAnswered = VotesSettle (run all_kinds promise_lost (start all_kinds one_of_each))

abbrev pub JoinsAreAnswered : Type 0
JoinsAreAnswered = JoinsSettle (run all_kinds join_lost (start all_kinds two_units))

abbrev pub ctr0 : Oid
ctr0 = record { 0 = 0x1000000 }

abbrev pub one_counter : Header
one_counter = record { units = 1; layouts = 1; seqs = 1; clients = 1; limit = 100; chains = (0 ∷ []) ∷ []; objects = ctr0 ∷ [] }

-- a client adds to a counter twice, and opens a range; the layout is decided, and the request to its sequencer is lost
abbrev pub learn_lost_behind_adds : Moves all_kinds
learn_lost_behind_adds = Takes (Commands 0 cmd.Begin) ∷ Takes (Commands 0 (cmd.Put ctr0 (ops.Counter (Add (pos 9))))) ∷ Takes (Commands 0 cmd.End)
    ∷ Takes (Deliver 0) ∷ Takes (Deliver 1) ∷ Takes (Deliver 2) ∷ Takes (Deliver 3)
    ∷ Takes (Commands 0 cmd.Begin) ∷ Takes (Commands 0 (cmd.Put ctr0 (ops.Counter (Add (pos 9))))) ∷ Takes (Commands 0 cmd.End)
    ∷ Takes (Deliver 4) ∷ Takes (Deliver 5) ∷ Takes (Deliver 6) ∷ Takes (Deliver 7) ∷ Takes (Commands 0 (cmd.Reconf opens_again))
    ∷ Takes (Deliver 8) ∷ Takes (Deliver 9) ∷ Takes (Deliver 10) ∷ Takes (Deliver 11) ∷ Takes (Deliver 12) ∷ Takes (Deliver 13)
    ∷ Takes (Deliver 14) ∷ Takes (Deliver 15) ∷ Takes (Lose 16) ∷ []

pub record ScansSettle (w : World all_kinds) : Type 0 where
  pub reached : Reaches all_kinds one_counter learn_lost_behind_adds w
  pub alone : WaitsAlone all_kinds w 0 (cmd.Reconf opens_again)
  pub waits : WaitsForScan all_kinds w 0
  pub ready : IsReadyToChange all_kinds w 0 1 opens_again
  pub allowed : 4 * w.cluster.layouts + 4 ≡ 8
  pub counted : deliveries all_kinds (is_with_client all_kinds 0) w (settle all_kinds w).world ≡ 8
  pub scan_allowed : (client all_kinds w 0).stand.start * (2 * longest_chain (client all_kinds w 0).stand + 2) + 2 ≡ 10
  pub scanned : deliveries all_kinds (is_scan all_kinds 0 0) w (settle all_kinds w).world ≡ 4
  pub ends : (client all_kinds (settle all_kinds w).world 0).work ≡ None
  pub scans_all : (seqr all_kinds (settle all_kinds w).world 0).next ≡ 2

abbrev pub ScansAreAnswered : Type 0
ScansAreAnswered = ScansSettle (run all_kinds learn_lost_behind_adds (start all_kinds one_counter))
