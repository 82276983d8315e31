-- A client that trims: it syncs and walks what it hosts, and then all units of the layout are asked at once.
use Rattle.std.specs.Prelude.{◌≡◌, ℕ, ◌+◌, ◌*◌, Some}
use Rattle.tg_kind.specs.Meaning.{Meaning}
use Rattle.tg_model.specs.declared.command.Command.TheVariants as cmd
use Rattle.tg_model.specs.Kinds.{CommandOf}
use Rattle.tg_protocol.specs.Clients.{Task, Syncing, Walking, Trimming, Doing, Work}
use Rattle.tg_protocol.specs.Worlds.{World, client}
use Rattle.tg_protocol.specs.Finishing.{IsReadyFor, most_deliveries_in}
use Rattle.tg_law_finish.specs.Finish.Alone.{IsAlone}
use Rattle.tg_law_finish.specs.Finish.Laws.{IsAnswered}
use Rattle.tg_law_finish.specs.Finish.Walks.{streams, passes_bound, walk_bound}

module _ (m : Meaning) where
  -- a sync, a walk, or requests to units to trim
  abbrev pub IsTrim : Task m → Type 0
  IsTrim (Syncing s) = Unit {0}
  IsTrim (Walking x os) = Unit {0}
  IsTrim (Trimming t) = Unit {0}
  IsTrim t = ⊥

  -- the client's `trim` waits in one of these, wherever that stands
  pub record WaitsForTrim (w : World m) (k : ℕ) : Type 0 where
    pub work : Work m
    pub waits : (client m w k).work ≡ Some work
    pub command : work.command ≡ cmd.Trim
    pub task : Task m
    pub hand : work.hand ≡ Doing task
    pub trims : IsTrim task

  -- as for an ask, and two deliveries for each unit, which is asked once
  abbrev pub trim_bound : World m → ℕ → ℕ
  trim_bound w n = walk_bound m w n + 2 * w.cluster.units

  abbrev pub TrimFinishes : World m → Type 0
  TrimFinishes w = (k : ℕ) (x : CommandOf m) → IsAlone m w k x → IsReadyFor m w k → (f : WaitsForTrim w k) →
      IsAnswered m w k (trim_bound w (streams m f.work)) × IsAnswered m w k (most_deliveries_in m w x + passes_bound m w 128)
