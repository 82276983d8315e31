-- Kinds whose ops touch parts of the format.
use Rattle.std.specs.Prelude.{◌≡◌, ℕ, true, List, Some}
use Rattle.tg_base.specs.declared.ids.Oid.{Oid}
use Rattle.tg_kind.specs.Meaning.{Meaning}
use Rattle.tg_base.specs.Parts.{is_part}

-- what is read as an op touches a part of the format
abbrev pub TouchParts : Meaning → Type 0
TouchParts m = (o : Oid) (bytes : List ℕ) (op : m.op) → m.read o bytes ≡ Some op → is_part (m.touch op) ≡ true
