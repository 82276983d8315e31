-- A client that waits for a sync, walks and an answer: of `ask`, `fate` and `ask-at`.
use Rattle.std.specs.Prelude.{◌≡◌, ℕ, true, Some}
use Rattle.tg_kind.specs.Meaning.{Meaning}
use Rattle.tg_protocol.specs.Syncing.{Sync, Checking}
use Rattle.tg_protocol.specs.Clients.{Syncing, Doing, Work}
use Rattle.tg_protocol.specs.Worlds.{World, unit, client}
use Rattle.tg_law_finish.specs.Finish.Commands.{is_ask}

module _ (m : Meaning) where
  -- no unit has trimmed anything
  abbrev pub NothingTrimmed : World m → Type 0
  NothingTrimmed w = (u : ℕ) → (unit m w u).low ≡ 0

  -- the command's sync is outstanding
  pub record WaitsForSync (w : World m) (k : ℕ) : Type 0 where
    pub work : Work m
    pub waits : (client m w k).work ≡ Some work
    pub sync : Sync
    pub rid : ℕ
    pub hand : work.hand ≡ Doing (Syncing sync)
    pub first : sync.work ≡ Checking rid
    pub asks : is_ask m work.command ≡ true
