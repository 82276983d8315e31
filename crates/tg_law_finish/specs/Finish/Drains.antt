-- A settling begins with a drain, so what is said of the world that the drain leaves is said of the settling.
use Rattle.std.specs.Prelude.{◌≡◌, ℕ, true, Some, None}
use Rattle.tg_base.specs.Clusters.{Header}
use Rattle.tg_kind.specs.Meaning.{Meaning}
use Rattle.tg_protocol.specs.Clients.{Work}
use Rattle.tg_protocol.specs.Worlds.{World, client, drain, settle}
use Rattle.tg_protocol.specs.Runs.{Moves, Reaches, Later, IsQuiet}
use Rattle.tg_protocol.specs.Finishing.{HasReply}
use Rattle.tg_law_finish.specs.Finish.Commands.{plays}
use Rattle.tg_law_finish.specs.Finish.Laws.{IsReply}

module _ (m : Meaning) where
  -- the world once all that is on its way is delivered, and all that comes of it
  abbrev pub drained : World m → World m
  drained w = (drain m w).world

  -- A settling of a world is one of the drained world, and nothing is on its way there unless a limit stops the
  -- settling.
  pub record DrainsFirst (w : World m) : Type 0 where
    pub same : settle m (drained w) ≡ settle m w
    pub quiet : (settle m w).stopped ≡ None → IsQuiet m (drained w)

  -- whatever the world
  abbrev pub DrainsComeFirst : Type 0
  DrainsComeFirst = (w : World m) → DrainsFirst w

  -- the drained world of a run's is a later one of it, so whatever holds of every world of every run, or of each later
  -- world, holds of it
  abbrev pub DrainsAreRuns : Type 0
  DrainsAreRuns = (h : Header) (ms : Moves m) (w : World m) → Reaches m h ms w → Later m w (drained w)

  -- Where the drain ends the client's command, the client has told a reply by then, and it is idle when the world
  -- has settled.
  pub record Answers (w : World m) (k : ℕ) : Type 0 where
    pub reply : HasReply m w (drained w) k (IsReply m)
    pub idle : (client m (settle m w).world k).work ≡ None

  abbrev pub DrainsAnswer : World m → Type 0
  DrainsAnswer w = (k : ℕ) (work : Work m) → (client m w k).work ≡ Some work → plays m work.command ≡ true → (client m (drained w) k).work ≡ None → Answers w k
