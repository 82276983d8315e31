-- What clients know of the log.
use Rattle.std.specs.Prelude.{◌≡◌, ℕ, Some}
use Rattle.tg_base.specs.declared.cell.Cell.{Cell}
use Rattle.tg_kind.specs.Meaning.{Meaning}
use Rattle.tg_protocol.specs.Words.{cell_at}
use Rattle.tg_protocol.specs.Clients.{known}
use Rattle.tg_protocol.specs.Worlds.{World, client, log}

module _ (m : Meaning) where
  -- Each cell that a client knows in a world, while it walks too, is the log's in a later one.
  abbrev pub KnownIsTheLogs : World m → World m → Type 0
  KnownIsTheLogs w v = (k p : ℕ) (c : Cell) → known m (client m w k) p ≡ Some c → cell_at (log m v) p ≡ Some c
