use Rattle.std.proofs.Common.{◌≡◌, ◌++◌, ◌+◌, drop}
use Rattle.std.specs.List.{flat_map}
use Rattle.tests_texts.proofs.Printed.{closed_word, Others}
use Rattle.tests_texts.proofs.scripts.put_events.Given as goal

-- the lines so far are printed, and all are lines of events where the others are
abbrev pub invariant-loop-line : goal.invariant-loop-line
invariant-loop-line l = record {
  counted : l.number ≡ 4 + l.line-index;
  printed : l.out ++ flat_map closed_word (drop l.line-index l.lines) ≡ l.initial.out ++ flat_map closed_word l.lines;
  others : Others l.cluster l.lines l.line-index;
}
