-- A client that reconfigures, before it has adopted a layout of its own.
use Rattle.std.specs.Prelude.{◌≡◌, ◌≢◌, ℕ, ◌+◌, ◌*◌, ◌≤◌, true, [], length, Option, None, Some, Contains}
use Rattle.tg_base.specs.Changes.{Changed}
use Rattle.tg_base.specs.declared.change.Join.{Join}
use Rattle.tg_kind.specs.Meaning.{Meaning}
use Rattle.tg_model.specs.Kinds.{CommandOf}
use Rattle.tg_protocol.specs.Words.{unit_id}
use Rattle.tg_protocol.specs.Layouts.{next_units}
use Rattle.tg_protocol.specs.Reconfiguring.{ReconfWork, SealingSpare, LookingSpare, Sealing, LookingAgain, Starting, Reconf}
use Rattle.tg_protocol.specs.Clients.{Work, Reconfiguring, Doing}
use Rattle.tg_protocol.specs.Worlds.{World, unit, client, runs, settle}
use Rattle.tg_protocol.specs.Finishing.{MostRun, NoneAbove, WaitsAlone}
use Rattle.tg_law_reconfs.specs.Reconfs.{VotesEnd}

module _ (m : Meaning) where
  -- before its new layout is adopted
  abbrev pub IsBefore : ReconfWork → Type 0
  IsBefore (Starting n) = ⊥
  IsBefore work = Unit {0}

  -- a unit joins, and isn't in an epoch before this one
  abbrev pub JoinsSince : World m → Option Join → ℕ → Type 0
  JoinsSince w None e = ⊥
  JoinsSince w (Some j) e = e ≤ (unit m w j.unit).epoch

  -- What it waits for of units: a joining unit was sealed before it is looked at; of those that it seals it waits for
  -- some, for as many as there are at most, and for none but the next layout's.
  abbrev pub WaitsForUnits : World m → Reconf → ReconfWork → Type 0
  WaitsForUnits w r (SealingSpare n) = JoinsSince w r.change.join 0
  WaitsForUnits w r (LookingSpare n) = JoinsSince w r.change.join r.stand.epoch
  WaitsForUnits w r (Sealing ws acks) = (ws ≢ []) × (length ws ≤ w.cluster.units) × ((v : ℕ × ℕ) → Contains ws v → Contains (next_units r.stand r.change) v.0)
  WaitsForUnits w r (LookingAgain n acks) = JoinsSince w r.change.join (r.stand.epoch + 1)
  WaitsForUnits w r work = Unit {0}

  -- The units of its next layout run, and most layout servers. No node stands past the next epoch.
  pub record WaitsToChange (w : World m) (k : ℕ) (c : Changed) : Type 0 where
    pub work : Work m
    pub waits : (client m w k).work ≡ Some work
    pub reconf : Reconf
    pub hand : work.hand ≡ Doing (Reconfiguring reconf)
    pub change : reconf.change ≡ c
    pub stands : reconf.stand ≡ (client m w k).stand
    pub before : IsBefore reconf.work
    pub waiting : WaitsForUnits w reconf reconf.work
    pub some : next_units reconf.stand c ≢ []
    pub few : length (next_units reconf.stand c) ≤ w.cluster.units
    pub units : (u : ℕ) → Contains (next_units reconf.stand c) u → runs m w (unit_id u) ≡ true
    pub spare : (j : Join) → c.join ≡ Some j → runs m w (unit_id j.unit) ≡ true
    pub layouts : MostRun m w
    pub none_above : NoneAbove m w ((client m w k).stand.epoch + 1)

  -- Two deliveries for each unit, two to six more for a unit that joins, then the votes: no more than `ReconfFinishes`
  -- states, which is said here.
  abbrev pub JoinsFinish : World m → Type 0
  JoinsFinish w = (k : ℕ) (x : CommandOf m) (c : Changed) → WaitsAlone m w k x → WaitsToChange w k c →
      VotesEnd m w (settle m w).world k (2 * w.cluster.units + 64 * w.cluster.layouts + 22)
