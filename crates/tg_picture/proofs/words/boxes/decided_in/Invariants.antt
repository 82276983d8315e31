use Rattle.std.proofs.Common.{◌≡◌, ◌++◌, drop}
use Rattle.tg_picture.specs.Standings.{decided}
use Rattle.tg_picture.proofs.words.boxes.decided_in.Given as goal

-- what is found, and what the positions to come add
abbrev pub invariant-loop-cell : goal.invariant-loop-cell
invariant-loop-cell l = l.found ++ decided (drop l.cell-index l.log) ≡ decided l.log
