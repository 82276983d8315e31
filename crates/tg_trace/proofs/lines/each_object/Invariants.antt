use Rattle.std.proofs.Common.{drop}
use Rattle.tg_any.specs.Words.{texts, object}
use Rattle.tg_trace.specs.Lines.{each}
use Rattle.tg_trace.proofs.Slices.{GoesOn}
use Rattle.tg_trace.proofs.lines.each_object.Given as goal

-- the objects so far, and those of the other words, are all of them
abbrev pub invariant-loop-word : goal.invariant-loop-word
invariant-loop-word l = GoesOn object.read (each object.read (texts l.words)) l.objects (texts (drop l.word-index l.words))
