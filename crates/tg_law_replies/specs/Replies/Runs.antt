-- What holds of each step of a run.
use Rattle.std.specs.Prelude.{◌≡◌, ◌∷◌, ◌++◌}
use Rattle.tg_base.specs.Clusters.{Header}
use Rattle.tg_kind.specs.Meaning.{Meaning}
use Rattle.tg_model.specs.Kinds.{EventOf}
use Rattle.tg_protocol.specs.Worlds.{World, start}
use Rattle.tg_protocol.specs.Runs.{Moves, Takes, run}

-- of the moves before it, the world that they make, and its event
abbrev pub InEachStep : (m : Meaning) → Header → Moves m → (Moves m → World m → EventOf m → Type 0) → Type 0
InEachStep m h ms P = (before after : Moves m) (e : EventOf m) → ms ≡ before ++ Takes e ∷ after → P before (run m before (start m h)) e
