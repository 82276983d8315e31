use Rattle.std.proofs.Common.{◌≡◌, ◌++◌, List, drop}
use Rattle.std.specs.Prelude.{option_map}
use Rattle.tg_any.specs.Words.{texts}
use Rattle.tg_script.specs.Parts.{each}
use Rattle.tg_script.proofs.reader.each.Given as goal

-- the values so far, and those that are still to be read, are all of them
abbrev pub invariant-loop-word : goal.invariant-loop-word
invariant-loop-word g l =
    each (g.R.Reader.word l.reader).read (texts l.words) ≡ option_map (λ xs. l.items ++ xs) (each (g.R.Reader.word l.reader).read (texts (drop l.word-index l.words)))
