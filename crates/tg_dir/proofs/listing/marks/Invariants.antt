use Rattle.std.proofs.Common.{◌≡◌, take}
use Rattle.tg_dir.specs.Directories.{marks}
use Rattle.tg_dir.proofs.listing.marks.Given as goal

abbrev pub invariant-loop-entry : goal.invariant-loop-entry
invariant-loop-entry l = l.marks ≡ marks (take l.entry-index l.entries)
