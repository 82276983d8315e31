use Rattle.std.proofs.Common.{◌≡◌, ◌++◌, ◌≤◌, ℕ, List, Option, None, Some}
use Rattle.tg_io.specs.Faults.{StaysSure}
use Rattle.tests_texts.proofs.reading.read_all.Given as goal

-- where the source tells its text, that is what was read and what is left of it
abbrev pub ReadsOn : Option (List ℕ) → Option (List ℕ) → List ℕ → Type 0
ReadsOn (Some all) (Some rest) text = all ≡ text ++ rest
ReadsOn (Some all) None text = ⊥
ReadsOn None left text = Unit {0}

abbrev pub invariant-loop-text : goal.invariant-loop-text
invariant-loop-text g l = record {
  on : ReadsOn (g.S.Source.left l.fn.source) (g.S.Source.left l.source) l.text;
  later : g.S.Source.faults l.fn.source ≤ g.S.Source.faults l.source;
  sure : StaysSure (g.S.Source.sure l.fn.source) (g.S.Source.sure l.source) (g.S.Source.faults l.fn.source) (g.S.Source.faults l.source);
}

abbrev pub decreases-loop-text : goal.decreases-loop-text
decreases-loop-text g l = g.S.Source.room l.source
