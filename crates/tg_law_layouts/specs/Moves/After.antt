-- The world that a run of a header's cluster comes to, whether its events are lawful or not.
use Rattle.std.specs.Prelude.{◌≡◌, List}
use Rattle.tg_base.specs.Clusters.{Header}
use Rattle.tg_kind.specs.Meaning.{Meaning}
use Rattle.tg_protocol.specs.Worlds.{World, Line, start, replay}
use Rattle.tg_protocol.specs.Runs.{Moves, run}

abbrev pub after : (m : Meaning) → Header → Moves m → World m
after m h ms = run m ms (start m h)

-- the world that a script makes is one to which a run comes
abbrev pub ScriptsAreRuns : Meaning → Type 0
ScriptsAreRuns m = (h : Header) (xs : List (Line m)) → (ms : Moves m) × (replay m h xs ≡ after m h ms)
