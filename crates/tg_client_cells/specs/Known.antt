-- What a client knows of the log.
use Rattle.std.specs.Prelude.{◌≡◌, ℕ, Bool, true, ◌&&◌, ◌||◌, not, nat_le, min, max, List, [], filter, Some, if◌then◌else◌}
use Rattle.std.specs.List.{list_all}
use Rattle.tg_base.specs.declared.cell.Cell.{Cell}
use Rattle.tg_base.specs.declared.cell.Cell.TheVariants.{Data}
use Rattle.tg_base.specs.declared.ids.Oid.{Oid}
use Rattle.tg_entry.specs.declared.entry.Entry.{Entry}
use Rattle.tg_protocol.specs.Words.{has_num, with_num, with_nums, with_cell}
use Rattle.tg_protocol.specs.Entries.{is_commit}
use Rattle.tg_protocol.specs.Views.{Entries}
use Rattle.tg_client_cells.specs.Words.{ByStream, positions_of, below, cells_within, is_page, commits_by, entries_at, entries_from}
use Rattle.tg_protocol.specs.Pages.{cell_entry}

pub record Knowledge : Type 0 where
  pub cells : List (ℕ × Cell)  -- the known ones, by position
  pub own : List ℕ  -- positions of the client's own commit records
  pub settled : ℕ  -- below it each known page is one of the client's own commit records

abbrev pub nothing : Knowledge
nothing = record { cells = []; own = []; settled = 0 }

-- Settled cells.

-- the page at a position is one of the client's own, and decides nothing
abbrev pub is_own_commit : List ℕ → ℕ × Cell → Bool
is_own_commit own e = has_num e.0 own && commits_by (cell_entry (Some e.1))

abbrev pub settles : List ℕ → ℕ → ℕ × Cell → Bool
settles own s e = nat_le s e.0 || not (is_page e.1) || is_own_commit own e

-- below the position each page is one of the client's own commit records
abbrev pub IsSettled : List ℕ → ℕ → List (ℕ × Cell) → Type 0
IsSettled own s cells = list_all (settles own s) cells ≡ true

-- What becomes known.

abbrev pub learnt : Knowledge → ℕ → Cell → Knowledge
learnt k p c = record k { cells = with_cell k.cells p c; settled = min k.settled p }

abbrev pub owned : Knowledge → ℕ → List ℕ → Knowledge
owned k p d = record k { cells = with_cell k.cells p (Data d); own = with_num p k.own; settled = min k.settled p }

-- a walk from `lo` on has the cells
abbrev pub lent : Knowledge → ℕ → Knowledge
lent k lo = record k { cells = []; settled = min k.settled lo }

abbrev pub returned : Knowledge → List (ℕ × Cell) → Knowledge
returned k cells = record k { cells = cells }

-- What a reply gives up.

-- pages below `upto` are given up, but not those of the client's own commit records, nor junk
abbrev pub keeps : ℕ → List ℕ → ℕ × Cell → Bool
keeps upto own e = nat_le upto e.0 || has_num e.0 own || not (is_page e.1)

-- the entry, where it is one of the client's own, decides nothing
abbrev pub commits_if_own : List ℕ → ℕ × Cell → Bool
commits_if_own own e = not (has_num e.0 own) || commits_by (cell_entry (Some e.1))

-- all that is left below `upto` is settled then
abbrev pub settles_to : Knowledge → ℕ → Bool
settles_to k upto = list_all (commits_if_own k.own) (cells_within k.settled upto k.cells)

abbrev pub settled_after : Knowledge → ℕ → ℕ
settled_after k upto = if settles_to k upto then max k.settled upto else k.settled

abbrev pub given_up : Knowledge → ℕ → Knowledge
given_up k upto = record k { cells = filter (keeps upto k.own) k.cells; settled = settled_after k upto }

-- Entries.

-- the positions of the members found of these streams, and of the client's own commit records
abbrev pub all_positions : Knowledge → ByStream → List Oid → List ℕ
all_positions k found os = with_nums k.own (positions_of found os)

-- the entries below the tail: the members of these streams, and the client's own commit records
abbrev pub all_entries : Knowledge → ByStream → List Oid → ℕ → Entries
all_entries k found os tail = entries_at k.cells (below tail (all_positions k found os))

-- those without its own records
abbrev pub member_entries : Knowledge → ByStream → List Oid → ℕ → Entries
member_entries k found os tail = entries_at k.cells (below tail (positions_of found os))

-- those from the settled position on
abbrev pub new_entries : Knowledge → ByStream → List Oid → ℕ → Entries
new_entries k found os tail = entries_from k.settled (all_entries k found os tail)

-- all entries below a position are commit records
abbrev pub CommitsBelow : ℕ → Entries → Type 0
CommitsBelow s es = list_all (λ (x : ℕ × Entry). nat_le s x.0 || is_commit x.1) es ≡ true
