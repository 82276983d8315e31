-- A log with one page, of an entry that stands in a stream: what a walk of the stream asks of a log holds of it.
use Rattle.std.specs.Prelude.{◌≡◌, ℕ, true, List, [], ◌∷◌, Some}
use Rattle.tg_base.specs.declared.cell.Cell.TheVariants.{Data}
use Rattle.tg_base.specs.declared.ids.Oid.{Oid}
use Rattle.tg_entry.specs.declared.entry.Entry.{Entry}
use Rattle.tg_protocol.specs.Entries.{lists}
use Rattle.tg_protocol.specs.Pages.{entry_of}
use Rattle.tg_protocol.specs.Requests.{Ends}
use Rattle.tg_protocol.specs.Cells.{Done}
use Rattle.tg_protocol.specs.Logs.{Log, members}
use Rattle.tg_law_walks.specs.Walks.Streams.{IsByPosition, AreLinked, IsGood}
use Rattle.tg_law_walks.specs.Walks.Walks.{EndsAs}

abbrev pub one_page : List ℕ → Log
one_page d = (0, Data d) ∷ []

-- the list with position 0 is good below a tail of 1, the page that is read there is the log's, and the stream has it
pub record IsWalkable (o : Oid) (d : List ℕ) : Type 0 where
  pub by_position : IsByPosition (one_page d)
  pub linked : AreLinked (one_page d)
  pub good : IsGood (one_page d) o 1 (0 ∷ [])
  pub ends : EndsAs (one_page d) 0 (Ends (Done (Data d)))
  pub stands : members (one_page d) o 0 1 ≡ 0 ∷ []

abbrev pub OnePageWalks : Type 0
OnePageWalks = (o : Oid) (d : List ℕ) (e : Entry) → entry_of d ≡ Some e → lists e o ≡ true → IsWalkable o d
