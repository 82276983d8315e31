-- What is kept with a cell.
use Rattle.std.specs.Prelude.{◌≡◌, Bool, true, Option, Some, None}
use Rattle.std.specs.Global.{Box}
use Rattle.tg_base.specs.declared.cell.Cell.{Cell}
use Rattle.tg_entry.specs.declared.entry.Entry.{Entry}
use Rattle.tg_entry.specs.Format.{entry}
use Rattle.tg_protocol.specs.Pages.{entry_in}

-- the entry has a spelling, where there is one
abbrev pub fits_by : Option Entry → Bool
fits_by None = true
fits_by (Some e) = entry.fits e

-- the entry, where one is kept, is the cell's
abbrev pub Says : Cell → Option Entry → Type 0
Says c None = Unit {0}
Says c (Some e) = (Some e ≡ entry_in c) × (entry.fits e ≡ true)

abbrev pub unboxed : Option (Box Entry) → Option Entry
unboxed None = None
unboxed (Some b) = Some b.value
