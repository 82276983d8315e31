-- What a client knows by position and by stream. The rules' words of the same names have a meaning of kinds as a
-- parameter that they don't use; these are equal to them.
use Rattle.std.specs.Prelude.{◌≡◌, ℕ, Bool, true, false, ◌&&◌, nat_lt, nat_le, List, [], ◌∷◌, filter, Option, Some, None, if◌then◌else◌}
use Rattle.std.specs.List.{list_all, list_any}
use Rattle.tg_base.specs.declared.cell.Cell.{Cell}
use Rattle.tg_base.specs.declared.cell.Cell.TheVariants.{Junk, Data}
use Rattle.tg_base.specs.declared.ids.Oid.{Oid}
use Rattle.tg_entry.specs.declared.entry.Entry.{Entry}
use Rattle.tg_entry.specs.Format.{entry}
use Rattle.tg_protocol.specs.Words.{has_num, with_nums, cell_at}
use Rattle.tg_base.specs.Orders.{oid_eq, oid_lt}
use Rattle.tg_protocol.specs.Entries.{is_commit}
use Rattle.tg_protocol.specs.Pages.{cell_entry}
use Rattle.tg_protocol.specs.Views.{Entries, entry_if}

-- Positions by stream: streams rise, and so do the positions of each.

abbrev pub ByStream : Type 0
ByStream = List (Oid × List ℕ)

abbrev pub positions_in : ByStream → Oid → List ℕ
positions_in [] o = []
positions_in (x ∷ xs) o = if oid_eq x.0 o then x.1 else positions_in xs o

abbrev pub with_positions : ByStream → Oid → List ℕ → ByStream
with_positions [] o ps = (o, with_nums ps []) ∷ []
with_positions (x ∷ xs) o ps =
    if oid_eq x.0 o then (x.0, with_nums ps x.1) ∷ xs else (if oid_lt o x.0 then (o, with_nums ps []) ∷ x ∷ xs else x ∷ with_positions xs o ps)

-- the positions of these streams, each once
abbrev pub positions_of : ByStream → List Oid → List ℕ
positions_of xs [] = []
positions_of xs (o ∷ os) = with_nums (positions_in xs o) (positions_of xs os)

-- one of these streams has the position
abbrev pub any_has : ByStream → List Oid → ℕ → Bool
any_has xs os p = list_any (λ o. has_num p (positions_in xs o)) os

-- positions from `low` on and below `high`
abbrev pub is_within : ℕ → ℕ → ℕ → Bool
is_within low high p = nat_le low p && nat_lt p high

abbrev pub within : ℕ → ℕ → List ℕ → List ℕ
within low high ps = filter (is_within low high) ps

abbrev pub below : ℕ → List ℕ → List ℕ
below high ps = filter (λ p. nat_lt p high) ps

abbrev pub from : ℕ → List ℕ → List ℕ
from low ps = filter (λ p. nat_le low p) ps

-- each is above those before it
abbrev pub rises : List ℕ → Bool
rises [] = true
rises (x ∷ xs) = list_all (λ y. nat_lt x y) xs && rises xs

-- Cells.

abbrev pub cells_within : ℕ → ℕ → List (ℕ × Cell) → List (ℕ × Cell)
cells_within low high cells = filter (λ (e : ℕ × Cell). is_within low high e.0) cells

abbrev pub cells_below : ℕ → List (ℕ × Cell) → List (ℕ × Cell)
cells_below high cells = filter (λ (e : ℕ × Cell). nat_lt e.0 high) cells

abbrev pub is_page : Cell → Bool
is_page Junk = false
is_page (Data d) = true

-- Entries.

-- the entries at these positions, as far as their pages are known
abbrev pub entries_at : List (ℕ × Cell) → List ℕ → Entries
entries_at cells [] = []
entries_at cells (p ∷ ps) = entry_if p (cell_entry (cell_at cells p)) (entries_at cells ps)

-- each of them has a spelling
abbrev pub AreSpelled : Entries → Type 0
AreSpelled es = list_all (λ (x : ℕ × Entry). entry.fits x.1) es ≡ true

-- those from a position on
abbrev pub entries_from : ℕ → Entries → Entries
entries_from low es = filter (λ (x : ℕ × Entry). nat_le low x.0) es

-- an entry that decides nothing, where there is one
abbrev pub commits_by : Option Entry → Bool
commits_by None = true
commits_by (Some e) = is_commit e

abbrev pub commit_by : Bool → Entry → Option Entry
commit_by true e = Some e
commit_by false e = None

-- the entry, where it is a commit record
abbrev pub commit_of : Option Entry → Option Entry
commit_of None = None
commit_of (Some e) = commit_by (is_commit e) e
