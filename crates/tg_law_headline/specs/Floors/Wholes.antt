-- Confirmed tails are whole.
use Rattle.std.specs.Prelude.{ℕ}
use Rattle.tg_base.specs.Clusters.{Header}
use Rattle.tg_kind.specs.Meaning.{Meaning}
use Rattle.tg_protocol.specs.Worlds.{World}
use Rattle.tg_protocol.specs.Runs.{Moves, Reaches}
use Rattle.tg_law_walks.specs.Lists.Spared.{TrimsWereSpare}
use Rattle.tg_law_cells.specs.Order.Tails.{ConfirmedTail}
use Rattle.tg_law_headline.specs.Trims.Floors.{IsWhole}

module _ (m : Meaning) where
  -- Below the start of a confirmed tail's epoch all was settled by then, and each position from there up to the tail was
  -- issued, to some stream.
  abbrev pub TailsAreWhole : Type 0
  TailsAreWhole = (h : Header) (ms : Moves m) (w : World m) → Reaches m h ms w → TrimsWereSpare m h ms → (epoch tail : ℕ) → ConfirmedTail m w w epoch tail → IsWhole m w epoch tail
