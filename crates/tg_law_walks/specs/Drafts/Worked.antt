-- A worked run: a client commits, another sequencer takes over with a new layout, and the client commits again.
use Rattle.std.specs.Prelude.{◌≡◌, ℕ, List, [], ◌∷◌, Some}
use Rattle.tg_base.specs.declared.cell.Cell.TheVariants.{Data}
use Rattle.tg_entry.specs.declared.entry.Entry.{Entry}
use Rattle.tg_model.specs.declared.command.Command.TheVariants as cmd
use Rattle.tg_model.specs.declared.command.Event.TheVariants.{Command as Commands}
use Rattle.tg_protocol.specs.Words.{directory}
use Rattle.tg_protocol.specs.Pages.{entry_of}
use Rattle.tg_protocol.specs.Worlds.{World, start, latest, log}
use Rattle.tg_protocol.specs.Runs.{Moves, Takes, Reaches, run}
use Rattle.tg_law_cells.specs.Entries.Worked.{tallies, two_units, and_drains, asked_again}

abbrev pub committed_again : Moves tallies
committed_again = and_drains asked_again (Takes (Commands 0 cmd.Begin) ∷ Takes (Commands 0 (cmd.Put directory 1)) ∷ Takes (Commands 0 cmd.End) ∷ [])

-- The log has an entry of each commit, and the second, of another sequencer, is linked to the first.
pub record LinksAcross (v : World tallies) : Type 0 where
  pub reached : Reaches tallies two_units committed_again v
  pub epoch : (latest tallies v).epoch ≡ 2
  pub sequencer : (latest tallies v).seq ≡ 1
  pub first : List ℕ
  pub second : List ℕ
  pub has : log tallies v ≡ (0, Data first) ∷ (1, Data second) ∷ []
  pub entry : Entry
  pub reads : entry_of second ≡ Some entry
  pub links : entry.head.streams ≡ record { oid = directory; backs = 0 ∷ [] } ∷ []

abbrev pub WorkedLinks : Type 0
WorkedLinks = LinksAcross (run tallies committed_again (start tallies two_units))
