-- A worked run: a client reads what another has committed, and its walk awaits a cell.
use Rattle.std.specs.Prelude.{◌≡◌, List, [], ◌∷◌, ◌++◌, Some}
use Rattle.tg_base.specs.declared.ids.Oid.{Oid}
use Rattle.tg_model.specs.declared.command.Command.TheVariants as cmd
use Rattle.tg_model.specs.declared.command.Event.TheVariants.{Command as Commands}
use Rattle.tg_protocol.specs.Words.{directory}
use Rattle.tg_protocol.specs.Walking.{Walk}
use Rattle.tg_protocol.specs.Clients.{Walking, Doing, Work}
use Rattle.tg_protocol.specs.Worlds.{World, start, client, log}
use Rattle.tg_protocol.specs.Runs.{Moves, Takes, Reaches, run}
use Rattle.tg_law_cells.specs.Entries.Worked.{tallies, two_units, drained, and_drains, committed}
use Rattle.tg_law_walks.specs.Lists.Spared.{TrimsWereSpare}
use Rattle.tg_law_walks.specs.Walks.Rounds.{IsAtWalk}

-- client 0 adds to a tally once more
abbrev pub added : Moves tallies
added = Takes (Commands 0 cmd.Begin) ∷ Takes (Commands 0 (cmd.Put directory 1)) ∷ Takes (Commands 0 cmd.End) ∷ []

abbrev pub twice : Moves tallies
twice = and_drains committed added

-- client 1 asks for it: a tail is confirmed, which takes six deliveries, and of the two entries below it the last is known by that
abbrev pub asked : Moves tallies
asked = twice ++ Takes (Commands 1 cmd.Begin) ∷ Takes (Commands 1 (cmd.Ask directory 0)) ∷ []

abbrev pub walking : Moves tallies
walking = asked ++ drained 6 (run tallies asked (start tallies two_units))

-- The premise of exact syncs holds of the run. At its end client 1 walks the stream, and what it has found is true of the log.
pub record WalkIsInHand (v : World tallies) : Type 0 where
  pub reached : Reaches tallies two_units walking v
  pub trims : TrimsWereSpare tallies two_units walking
  pub work : Work tallies
  pub walk : Walk
  pub rest : List Oid
  pub works : (client tallies v 1).work ≡ Some work
  pub walks : work.hand ≡ Doing (Walking walk rest)
  pub so : IsAtWalk tallies (log tallies v) (client tallies v 1) work walk rest

abbrev pub WorkedWalk : Type 0
WorkedWalk = WalkIsInHand (run tallies walking (start tallies two_units))
