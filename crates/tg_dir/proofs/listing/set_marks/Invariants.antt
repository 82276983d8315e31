use Rattle.std.proofs.Common.{◌≡◌, ◌++◌, map, take, drop}
use Rattle.tg_dir.specs.Directories.{with_mark}
use Rattle.tg_dir.proofs.listing.set_marks.Given as goal

abbrev pub invariant-loop-entry : goal.invariant-loop-entry
invariant-loop-entry l = l.entries ≡ map (with_mark l.oid l.mark) (take l.entry-index l.initial.entries) ++ drop l.entry-index l.initial.entries
