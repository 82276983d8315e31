use Rattle.std.proofs.Common.{List, ℕ, Bor, map, drop}
use Rattle.tg_any.specs.Words.{texts}
use Rattle.tg_trace.specs.Lines.{each}
use Rattle.tg_trace.specs.Transcripts.{write}
use Rattle.tg_trace.proofs.Slices.{GoesOn}
use Rattle.tg_trace.proofs.lines.each_write.Given as goal

-- the writes so far, and those of the other parts, are all of them
abbrev pub invariant-loop-part : goal.invariant-loop-part
invariant-loop-part l =
    GoesOn write.read (each write.read (map (λ (part : Bor (List (Bor (List ℕ)))). texts part.now) l.parts)) l.writes
    (map (λ (part : Bor (List (Bor (List ℕ)))). texts part.now) (drop l.part-index l.parts))
