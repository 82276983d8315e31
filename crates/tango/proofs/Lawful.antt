-- The verdict on a text is that on the run which it renders.
use Rattle.std.proofs.Common.{◌≡◌, ℕ, ◌<◌, Bool, true, false, ◌&&◌, List, [], ◌∷◌, Option, Some, None, refl, arith}
use Rattle.std.proofs.lemmas.Bool.Decides.{nat_tests}
use Rattle.std.specs.Prelude.{nat_lt, length}
use Rattle.std.specs.List.{list_all}
use Rattle.tg_base.specs.Units.{is_rising}
use Rattle.tg_base.specs.declared.fault.Clause.{Clause}
use Rattle.tg_audit.specs.Told.{told_of, sameness}
use Rattle.tg_audit.specs.Same.{same_op, same_answer}
use Rattle.tg_audit.specs.SameLaws.{same_op_exact, same_answer_exact}
use Rattle.tg_audit.specs.declared.verdict.Verdict.TheVariants as verdict
use Rattle.tg_law_verdicts.specs.Laws.{VerdictsAreTrue}
use Rattle.tg_model.specs.Stores.{AllAbove, Rises}
use Rattle.tg_model.specs.Verdicts.{Fault, IsSameness, fault}
use Rattle.tg_replay.specs.Outcomes.{Told}
use Rattle.tg_trace.specs.Transcripts.{Entry, objects, reply, count, entry, stamps, is_transcript}
use Rattle.tg_trace.specs.declared.transcript.Transcript.{Transcript}
use Rattle.tg_any.specs.AllKinds.{all_kinds}
use Rattle.tg_audit_run.specs.Outcomes as verdicts
use Rattle.tg_audit_run.specs.Outcomes.{IsToldOf}
use Rattle.tg_audit_run.specs.Verdicts.{judged}
use Rattle.tango.specs.Lawful.{IsLegalRun, IsLegalText, IsIllegalText}

both_true : (a b : Bool) → (a && b) ≡ true → (a ≡ true) × (b ≡ true)
both_true true b e = (refl, e)
both_true false b e = absurd cc

below : (x y : ℕ) → nat_lt x y ≡ true → x < y
below x y e = grind (arith, nat_tests)

-- Stamps that rise one by one.

above_more : (d e : Entry) (es : List Entry) → d.stamp < e.stamp → AllAbove all_kinds e es → AllAbove all_kinds d es
above_more d e [] lt h = tt
above_more d e (f ∷ fs) lt h = let more : e.stamp < f.stamp = h.0 in let all : d.stamp < f.stamp = omega (arith, lt, more) in (all, above_more d e fs lt h.1)

rises : (ds : List Entry) → is_rising (stamps ds) ≡ true → Rises all_kinds ds
rises [] e = tt
rises (d ∷ []) e = (tt, tt)
rises (d ∷ f ∷ ds) e =
    let parts = both_true (nat_lt d.stamp f.stamp) (is_rising (stamps (f ∷ ds))) e in
    let rest = rises (f ∷ ds) parts.1 in
    let lt = below d.stamp f.stamp parts.0 in
    ((lt, above_more d f ds lt rest.0), rest)

stamps_rise : (t : Transcript) → is_transcript t ≡ true → Rises all_kinds t.history
unfolding is_transcript
stamps_rise t e = rises t.history (last (objects.fits t.objects) (list_all reply.fits t.trace) (count.fits (length t.history)) (list_all entry.fits t.history) (is_rising (stamps t.history)) e)
  where
    last : (a b c d f : Bool) → (a && b && c && d && f) ≡ true → f ≡ true
    last true true true true f h = h
    last true true true false f h = absurd cc
    last true true false d f h = absurd cc
    last true false c d f h = absurd cc
    last false b c d f h = absurd cc

exact : IsSameness all_kinds (sameness all_kinds same_op same_answer)
exact = record { ops = same_op_exact; answers = same_answer_exact }

no_fault : (o : Option Fault) → told_of o ≡ verdict.Legal → o ≡ None
no_fault None e = refl
no_fault (Some f) e = absurd cc

some_fault : (o : Option Fault) (line : ℕ) (clause : Clause) → told_of o ≡ verdict.Illegal line clause → o ≡ None → ⊥
some_fault None line clause e none = absurd cc
some_fault (Some f) line clause e none = absurd cc

module _ (law : VerdictsAreTrue all_kinds) where
  legal_run : (t : Transcript) → is_transcript t ≡ true → judged t ≡ verdict.Legal → IsLegalRun t
  legal_run t is e =
      (law (sameness all_kinds same_op same_answer) t.objects t.history t.trace exact (stamps_rise t is)).0
      (no_fault (fault all_kinds (sameness all_kinds same_op same_answer) t.objects t.history t.trace) e)

  illegal_run : (t : Transcript) (line : ℕ) (clause : Clause) → is_transcript t ≡ true → judged t ≡ verdict.Illegal line clause → IsLegalRun t → ⊥
  illegal_run t line clause is e legal =
      some_fault (fault all_kinds (sameness all_kinds same_op same_answer) t.objects t.history t.trace) line clause e
      ((law (sameness all_kinds same_op same_answer) t.objects t.history t.trace exact (stamps_rise t is)).1 legal)

  pub legal_told : (left before after : Option (List ℕ)) → verdicts.Told left before after (IsToldOf verdict.Legal) → Told left before after IsLegalText
  legal_told None before after h = tt
  legal_told (Some text) before after h = (h.0, h.1, (h.2.0.0, h.2.0.1, h.2.0.2, legal_run h.2.0.0 h.2.0.1 h.2.0.3))

  pub illegal_told : (left before after : Option (List ℕ)) (line : ℕ) (clause : Clause) → verdicts.Told left before after (IsToldOf (verdict.Illegal line clause)) → Told left before after IsIllegalText
  illegal_told None before after line clause h = tt
  illegal_told (Some text) before after line clause h = (h.0, h.1, (h.2.0.0, h.2.0.1, h.2.0.2, illegal_run h.2.0.0 line clause h.2.0.1 h.2.0.3))
