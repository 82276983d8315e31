-- The pages of entries.
use Rattle.std.specs.Prelude.{ℕ, List, Option, Some, None, Result, Ok, Err}
use Rattle.tg_base.specs.declared.cell.Cell.{Cell}
use Rattle.tg_base.specs.declared.cell.Cell.TheVariants.{Junk, Data}
use Rattle.tg_codec.specs.Whole.{whole}
use Rattle.tg_entry.specs.declared.entry.Entry.{Entry}
use Rattle.tg_entry.specs.Format.{entry}

-- an entry's bytes in its one spelling
unfoldable pub page_of : Entry → List ℕ
page_of e = entry.spell e

abbrev pub if_read : Result Entry ℕ → Option Entry
if_read (Ok e) = Some e
if_read (Err at) = None

-- the entry whose spelling the page is, None where it is no entry's
unfoldable pub entry_of : List ℕ → Option Entry
entry_of bytes = if_read (whole entry bytes)

-- the entry that a cell holds
abbrev pub entry_in : Cell → Option Entry
entry_in Junk = None
entry_in (Data d) = entry_of d

-- the entry of a cell that may be unknown
abbrev pub cell_entry : Option Cell → Option Entry
cell_entry None = None
cell_entry (Some c) = entry_in c
