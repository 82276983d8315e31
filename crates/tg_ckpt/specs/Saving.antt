-- What is saved of an object.
use Rattle.std.specs.Prelude.{◌≡◌, ℕ, ◌<◌, ◌≤◌, ◌-◌, ◌^◌, Bool, true, min, Result, Ok, Err}
use Rattle.std.specs.List.{list_all}
use Rattle.tg_base.specs.declared.marks.Part.{Part}
use Rattle.tg_base.specs.declared.marks.Part.TheVariants.{All, Text, Num}
use Rattle.tg_entry.specs.Drafts.{Placed}
use Rattle.tg_entry.specs.Format.{entry}
use Rattle.tg_entry.specs.Records.{is_byte}
use Rattle.tg_entry.specs.declared.entry.Entry.{Entry}
use Rattle.tg_protocol.specs.Entries.{entry_size}
use Rattle.tg_ckpt.specs.declared.fault.SaveFault.{SaveFault}
use Rattle.tg_ckpt.specs.declared.fault.SaveFault.TheVariants.{TooLarge, NoMemory}

-- each of them has a spelling
abbrev pub AreSpelled : Placed → Type 0
AreSpelled es = list_all (λ e. entry.fits e.1) es ≡ true

-- the name of a part is of bytes
abbrev pub of_bytes : Part → Bool
of_bytes All = true
of_bytes (Text t) = list_all is_byte t
of_bytes (Num n) = true

abbrev pub key_of_bytes : Part × ℕ → Bool
key_of_bytes k = of_bytes k.0

-- this entry as a draft, which fits a page, or how many bytes it has, unless memory ran out
abbrev pub Saves : Result Entry SaveFault → Entry → Type 0
Saves (Ok d) e = (d ≡ e) × (entry_size e ≤ 4096)
Saves (Err (TooLarge bytes)) e = (bytes ≡ min (entry_size e) (2 ^ 64 - 1)) × (4096 < entry_size e)
Saves (Err NoMemory) e = Unit {0}
