use Rattle.std.proofs.Common.{◌≡◌, ◌∷◌, map, filter, take}
use Rattle.tg_kind.specs.Headers.{directory}
use Rattle.tg_dir.specs.Spellings.{is_number}
use Rattle.tg_dir.specs.Directories.{at_first}
use Rattle.tg_dir.proofs.directory.DirectoryKind.fresh.Given as goal

abbrev pub invariant-loop-oid : goal.invariant-loop-oid
invariant-loop-oid l = l.entries.items ≡ map at_first (directory ∷ filter is_number (take l.oid-index l.objects))
