-- The points of replies.
use Rattle.std.specs.Prelude.{◌≡◌, ℕ, ◌≤◌, Some, Contains}
use Rattle.tg_base.specs.Clusters.{Header}
use Rattle.tg_kind.specs.Meaning.{Meaning}
use Rattle.tg_model.specs.Kinds.{MarkOf}
use Rattle.tg_model.specs.Traces.{point_of}
use Rattle.tg_protocol.specs.Worlds.{World, trace}
use Rattle.tg_protocol.specs.Runs.{Moves, Reaches, Passes}
use Rattle.tg_law_walks.specs.Lists.Spared.{TrimsWereSpare}
use Rattle.tg_law_cells.specs.Places.Order.{IsPoint, IsPlace}

module _ (m : Meaning) where
  -- The point that a reply of a world has by a later trace is one of that world: a tail that was confirmed there, or one past
  -- a page that was settled there.
  abbrev pub RepliesHavePoints : World m → World m → Type 0
  RepliesHavePoints u v = (r : MarkOf m) (point : ℕ) → Contains (trace m u) r → point_of m (trace m v) r ≡ Some point → IsPoint m u v point

  -- so no place that is new after the world precedes it
  abbrev pub RepliesPrecede : World m → World m → Type 0
  RepliesPrecede u v = (r : MarkOf m) (point place : ℕ) → Contains (trace m u) r → point_of m (trace m v) r ≡ Some point → IsPlace m u v place → point ≤ place

  -- of the world that a run comes to, and of each through which it came, where trims were spare
  abbrev pub EachPassedBySpareTrims : (World m → World m → Type 0) → Type 0
  EachPassedBySpareTrims P = (h : Header) (ms : Moves m) (u v : World m) → Reaches m h ms v → TrimsWereSpare m h ms → Passes m h ms u → P u v
