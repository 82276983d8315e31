-- A worked run: a client has committed twice, and the reply of the second commit has its point.
use Rattle.std.specs.Prelude.{◌≡◌, Some, Contains}
use Rattle.tg_model.specs.Kinds.{MarkOf}
use Rattle.tg_model.specs.Traces.{point_of}
use Rattle.tg_protocol.specs.Worlds.{World, start, trace}
use Rattle.tg_protocol.specs.Runs.{Reaches, run}
use Rattle.tg_law_cells.specs.Entries.Worked.{tallies, two_units}
use Rattle.tg_law_walks.specs.Lists.Spared.{TrimsWereSpare}
use Rattle.tg_law_syncs.specs.Exact.Worked.{walking}
use Rattle.tg_law_cells.specs.Places.Order.{IsPoint}

-- The premises hold of the run. A reply has a point there, which is one past the page of the second commit.
pub record HasPoint (v : World tallies) : Type 0 where
  pub reached : Reaches tallies two_units walking v
  pub trims : TrimsWereSpare tallies two_units walking
  pub reply : MarkOf tallies
  pub here : Contains (trace tallies v) reply
  pub has : point_of tallies (trace tallies v) reply ≡ Some 2
  pub so : IsPoint tallies v v 2

abbrev pub WorkedPoint : Type 0
WorkedPoint = HasPoint (run tallies walking (start tallies two_units))
