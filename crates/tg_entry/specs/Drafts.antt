-- Drafts, and entries in order.
use Rattle.std.specs.Prelude.{◌≡◌, ◌<◌, ◌==◌, ◌&&◌, if◌then◌else◌, ℕ, Bool, true, nat_lt, List, [], ◌∷◌, length, map, slice_index_or, Option, Some, None}
use Rattle.std.specs.List.{list_all}
use Rattle.tg_base.specs.Units.{is_rising}
use Rattle.tg_entry.specs.declared.entry.Entry.{Entry}
use Rattle.tg_entry.specs.Format.{entry}

-- an entry of format 2 whose streams name no position yet
abbrev pub is_draft : Entry → Bool
is_draft e = e.head.format == 2 && list_all (λ l. length l.backs == 0) e.head.streams

pub record IsDraft (e : Entry) : Type 0 where
  pub spelled : entry.fits e ≡ true
  pub unlinked : is_draft e ≡ true

-- entries with their positions
abbrev pub Placed : Type 0
Placed = List (ℕ × Entry)

abbrev pub positions : Placed → List ℕ
positions es = map (λ e. e.0) es

abbrev pub IsInOrder : Placed → Type 0
IsInOrder es = is_rising (positions es) ≡ true

-- whether all stand below a position
abbrev pub all_below : ℕ → Placed → Bool
all_below at es = list_all (λ e. nat_lt e.0 at) es

-- the entry at a position, if there is one
abbrev pub entry_at : Placed → ℕ → Option Entry
entry_at [] at = None
entry_at (e ∷ es) at = if e.0 == at then Some e.1 else entry_at es at

-- the entry at a place has that position
pub record IsPlaceOf (es : Placed) (at place : ℕ) : Type 0 where
  pub there : place < length es
  pub found : (d : ℕ × Entry) → entry_at es at ≡ Some (slice_index_or es place d).1

abbrev pub IsNowhere : Placed → ℕ → Type 0
IsNowhere es at = entry_at es at ≡ None
