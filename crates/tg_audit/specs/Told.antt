-- What is told of a transcript.
use Rattle.std.specs.Prelude.{ℕ, Bool, List, Option, Some, None}
use Rattle.tg_base.specs.declared.ids.Oid.{Oid}
use Rattle.tg_kind.specs.Meaning.{Meaning}
use Rattle.tg_model.specs.Stores.{History}
use Rattle.tg_model.specs.Traces.{Trace}
use Rattle.tg_model.specs.Verdicts.{Sameness, Fault, fault}
use Rattle.tg_audit.specs.declared.verdict.Verdict.{Verdict}
use Rattle.tg_audit.specs.declared.verdict.Verdict.TheVariants.{Legal, Illegal}

-- legal exactly where there is no fault
abbrev pub told_of : Option Fault → Verdict
told_of None = Legal
told_of (Some f) = Illegal f.line f.clause

-- tests of equality as one
abbrev pub sameness : (m : Meaning) → (m.op → m.op → Bool) → (m.answer → m.answer → Bool) → Sameness m
sameness m ops answers = record { ops = ops; answers = answers }

-- what is told of objects, a history and replies, by tests of the equality of ops and answers
abbrev pub verdict_of : (m : Meaning) → (m.op → m.op → Bool) → (m.answer → m.answer → Bool) → List Oid → History m → Trace m → Verdict
verdict_of m ops answers objects h trace = told_of (fault m (sameness m ops answers) objects h trace)
