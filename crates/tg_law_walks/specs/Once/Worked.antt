-- A worked run: a client's page is lost, another sequencer takes over and a unit is dropped, the client gives its token up
-- and puts the page for another one, and trims what it has committed.
use Rattle.std.specs.Prelude.{◌≡◌, ℕ, List, [], ◌∷◌, Some, None}
use Rattle.tg_base.specs.declared.cell.Cell.TheVariants.{Data}
use Rattle.tg_base.specs.declared.msg.Msg.{Msg}
use Rattle.tg_base.specs.declared.msg.Msg.TheVariants as msg
use Rattle.tg_base.specs.declared.packet.Packet.{Packet}
use Rattle.tg_entry.specs.declared.entry.Entry.{Entry}
use Rattle.tg_model.specs.declared.command.Command.TheVariants as cmd
use Rattle.tg_model.specs.declared.command.Event.TheVariants.{Command as Commands, Deliver, Lose, Tick}
use Rattle.tg_protocol.specs.Words.{directory, client_id}
use Rattle.tg_protocol.specs.Pages.{entry_of}
use Rattle.tg_protocol.specs.Worlds.{World, start, unit, latest, log}
use Rattle.tg_protocol.specs.Runs.{Moves, Takes, Reaches, run}
use Rattle.tg_protocol.specs.Holding.{EntriesOnce}
use Rattle.tg_law_cells.specs.Entries.Archive.{TrimsWereSafe}
use Rattle.tg_law_cells.specs.Entries.Worked.{tallies, two_units, and_drains}
use Rattle.tg_law_walks.specs.Once.GivenUp.{IsGivenUp}

-- position 0 is issued to client 0, whose page is lost
abbrev pub page_lost : Moves tallies
page_lost = Takes (Commands 0 cmd.Begin) ∷ Takes (Commands 0 (cmd.Put directory 1)) ∷ Takes (Commands 0 cmd.End) ∷ Takes (Deliver 0) ∷ Takes (Deliver 1) ∷ Takes (Lose 2) ∷ []

-- client 1 drops unit 1, and sequencer 1 takes over
abbrev pub taken_over : Moves tallies
taken_over = and_drains page_lost (Takes (Commands 1 (cmd.Reconf (record { seq = 1; drop = 1 ∷ []; opened = []; join = None }))) ∷ [])

-- client 0 puts its page once more, is told of the layout, and asks for another token
abbrev pub put_again : Moves tallies
put_again = and_drains taken_over (Takes (Tick (client_id 0)) ∷ [])

abbrev pub then_trimmed : Moves tallies
then_trimmed = and_drains put_again (Takes (Commands 0 cmd.Trim) ∷ [])

-- the pages that were sent to be stored: epochs, positions and pages
abbrev pub with_page : Msg → List (ℕ × ℕ × List ℕ) → List (ℕ × ℕ × List ℕ)
with_page (msg.Write e p d) rest = (e, p, d) ∷ rest
with_page x rest = rest

unfoldable pub pages_sent : List Packet → List (ℕ × ℕ × List ℕ)
pages_sent [] = []
pages_sent (x ∷ xs) = with_page x.msg (pages_sent xs)

-- The page was put in the first epoch, twice, and in the second one. The token of the first was given up, and the log has
-- one entry, also once only the archive has it.
pub record StandsOnce (v : World tallies) : Type 0 where
  pub reached : Reaches tallies two_units then_trimmed v
  pub safe : TrimsWereSafe tallies two_units then_trimmed
  pub epoch : (latest tallies v).epoch ≡ 2
  pub sequencer : (latest tallies v).seq ≡ 1
  pub low : (unit tallies v 0).low ≡ 1
  pub page : List ℕ
  pub sent : pages_sent v.packets ≡ (1, 0, page) ∷ (1, 0, page) ∷ (2, 0, page) ∷ []
  pub entry : Entry
  pub reads : entry_of page ≡ Some entry
  pub given_up : IsGivenUp tallies v 1 0 page
  pub has : log tallies v ≡ (0, Data page) ∷ []
  pub once : EntriesOnce tallies v

abbrev pub WorkedOnce : Type 0
WorkedOnce = StandsOnce (run tallies then_trimmed (start tallies two_units))
