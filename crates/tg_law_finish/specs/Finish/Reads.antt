-- A client that syncs or walks.
use Rattle.std.specs.Prelude.{◌≡◌, ℕ, Some}
use Rattle.tg_kind.specs.Meaning.{Meaning}
use Rattle.tg_protocol.specs.Clients.{Task, Syncing, Walking, Doing, Work}
use Rattle.tg_protocol.specs.Worlds.{World, client}

module _ (m : Meaning) where
  -- a sync or a walk
  abbrev pub IsRead : Task m → Type 0
  IsRead (Syncing s) = Unit {0}
  IsRead (Walking x os) = Unit {0}
  IsRead t = ⊥

  -- the client's command waits in a sync or in a walk, wherever that stands
  pub record WaitsForRead (w : World m) (k : ℕ) : Type 0 where
    pub work : Work m
    pub waits : (client m w k).work ≡ Some work
    pub task : Task m
    pub hand : work.hand ≡ Doing task
    pub reads : IsRead task
