-- Streams of a log that is fixed: which positions stand in one, and what a list of its positions lacks.
use Rattle.std.specs.Prelude.{◌≡◌, ℕ, ◌+◌, ◌<◌, ◌≤◌, Bool, true, false, ◌&&◌, ◌==◌, nat_le, List, [], ◌∷◌, length, Option, Some, None, Contains, if◌then◌else◌}
use Rattle.tg_base.specs.declared.cell.Cell.{Cell}
use Rattle.tg_base.specs.declared.ids.Oid.{Oid}
use Rattle.tg_entry.specs.declared.entry.Entry.{Entry}
use Rattle.tg_protocol.specs.Words.{cell_at}
use Rattle.tg_protocol.specs.Entries.{lists}
use Rattle.tg_protocol.specs.Walking.{pointers_at}
use Rattle.tg_protocol.specs.Logs.{Log, positions, entry_at}

-- numbers that rise, from one on
abbrev pub rises : ℕ → List ℕ → Bool
rises low [] = true
rises low (x ∷ xs) = nat_le low x && rises (x + 1) xs

-- a log has one cell at a position
abbrev pub IsByPosition : Log → Type 0
IsByPosition l = rises 0 (positions l) ≡ true

abbrev pub entry_lists : Oid → Option Entry → Bool
entry_lists o None = false
entry_lists o (Some e) = lists e o

-- the entry at a position stands in a stream
abbrev pub stands_in : Log → Oid → ℕ → Bool
stands_in l o q = entry_lists o (entry_at l q)

-- each of these cells is the log's
abbrev pub AreKnown : Log → List (ℕ × Cell) → Type 0
AreKnown l cells = (x : ℕ × Cell) → Contains cells x → cell_at l x.0 ≡ Some x.1

abbrev pub AreFalling : ℕ → List ℕ → Type 0
AreFalling x [] = Unit {0}
AreFalling x (q ∷ qs) = (q < x) × AreFalling q qs

-- Down to where a list of positions below x tells of a stream: to the first that stands in it, since that one has a list of
-- its own; where none does, to the last of four, or to 0 where there are fewer.
abbrev pub told_to : Log → Oid → Bool → ℕ → List ℕ → ℕ
told_to l o were_four x [] = if were_four then x else 0
told_to l o were_four x (q ∷ qs) = if stands_in l o q then q else told_to l o were_four q qs

-- A list of a stream's positions below x lacks none, as far down as it tells of them. It may have others: positions that were
-- issued to the stream and hold junk, another stream's entry, or nothing.
pub record IsListBelow (l : Log) (o : Oid) (x : ℕ) (were_four : Bool) (ps : List ℕ) : Type 0 where
  pub falling : AreFalling x ps
  pub all : (q : ℕ) → told_to l o were_four x ps ≤ q → q < x → stands_in l o q ≡ true → Contains ps q

abbrev pub IsGood : Log → Oid → ℕ → List ℕ → Type 0
IsGood l o x ps = IsListBelow l o x (length ps == 4) ps

-- Each entry's own list of a stream in which it stands is good. Of a run's last log this is a premise: an entry has the links
-- that were issued with its position where its draft fits the format (`LogEntriesLinked` of tg_law_cells); there lacks that
-- drafts do, and that these links are good for this log (`SeqrsTell`).
abbrev pub AreLinked : Log → Type 0
AreLinked l = (o : Oid) (q : ℕ) (c : Cell) (ps : List ℕ) → cell_at l q ≡ Some c → pointers_at o q c ≡ Some ps → IsGood l o q ps
