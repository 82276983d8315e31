use Rattle.std.proofs.Common.{◌≡◌, suc, None, drop}
use Rattle.tg_any.specs.Words.{texts}
use Rattle.tg_trace.specs.Reading.{run}
use Rattle.tg_trace.proofs.reading.run.Given as goal

-- what the lines make is what those that are still to be read make of what was read
abbrev pub invariant-loop-line : goal.invariant-loop-line
invariant-loop-line l =
    (l.number ≡ suc l.line-index) × (run 1 None (texts l.lines) ≡ run l.number l.so_far (texts (drop l.line-index l.lines)))
