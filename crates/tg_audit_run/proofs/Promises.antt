-- A text has one verdict or one first line outside, and from what is written to what is promised.
use Rattle.std.proofs.Common.{◌≡◌, ◌⊎◌, ◌∙◌, ◌<◌, ℕ, true, List, [], refl, sym, ap, subst, inl, inr, arith, Option, Some, None, Result, Ok, IfSome}
use Rattle.std.specs.Result.{result_unwrap_or}
use Rattle.std.proofs.lemmas.Bool.{cases_lt}
use Rattle.tg_io.specs.Bytes.{Takes, TakesFront}
use Rattle.tg_io.specs.Faults.{Rose}
use Rattle.tg_io.specs.declared.status.Status.{Status}
use Rattle.tg_io.specs.declared.status.Status.TheVariants.{Done, Illegal, Words, Script as AtLine, ReadFault, WriteFault, LinkFault, Limit, NoMemory}
use Rattle.tg_io.proofs.Bytes.{grows_none}
use Rattle.tg_trace.specs.Reading.{IsFirstOutside, parsed, pieces}
use Rattle.tg_trace.specs.Transcripts.{rendered, is_transcript}
use Rattle.tg_trace.specs.declared.transcript.Transcript.{Transcript}
use Rattle.tg_trace.proofs.Whole.{reads_rendered}
use Rattle.tg_audit.specs.declared.verdict.Verdict.{Verdict}
use Rattle.tg_audit.specs.declared.verdict.Verdict.TheVariants as verdict
use Rattle.tg_audit_run.specs.Verdicts.{HasVerdict, judged, status_of, verdict_line}
use Rattle.tg_audit_run.specs.Outcomes.{Told, Written, IsFront, IsOfJudge, IsSilent}

-- ---- what a text has

one_transcript : (text : List ℕ) (t u : Transcript) → is_transcript t ≡ true → is_transcript u ≡ true → text ≡ rendered t → text ≡ rendered u → t ≡ u
one_transcript text t u lawful also is same =
    let read : ◌≡◌ {A = Result Transcript ℕ} (Ok t) (Ok u) =
    sym (reads_rendered t lawful) ∙ ap (λ (x : List ℕ). parsed (pieces x)) (sym is ∙ same) ∙ reads_rendered u also in
    ap (λ (r : Result Transcript ℕ). result_unwrap_or r t) read

pub one_verdict : (text : List ℕ) (v : Verdict) (t : Transcript) → HasVerdict text v → is_transcript t ≡ true → text ≡ rendered t → status_of v ≡ status_of (judged t)
one_verdict text v t has lawful is =
    let same : has.0 ≡ t = one_transcript text has.0 t has.1 lawful has.2 is in
    ap status_of (sym has.3 ∙ ap judged same)

never_later : (text : List ℕ) (m n : ℕ) → IsFirstOutside text m → IsFirstOutside text n → m < n → ⊥
never_later text m n first other lt =
    let within = other.within in
    first.outside (omega arith) (other.before m lt)

one_line : (text : List ℕ) (m n : ℕ) → IsFirstOutside text m → IsFirstOutside text n → m ≡ n
one_line text m n first other = elim (cases_lt m n) [
  | inl lt ↦ absurd (never_later text m n first other lt)
  | inr le ↦ elim (cases_lt n m) [
    | inl lt ↦ absurd (never_later text n m other first lt)
    | inr ge ↦ omega arith
  ]
]

-- ---- no fault came between

pub record IsUndisturbed (status : Status) : Type 0 where
  pub reads : status ≡ ReadFault → ⊥
  pub writes : status ≡ WriteFault → ⊥

pub undisturbed : (status : Status) (was is had has : ℕ) → (status ≡ ReadFault → Rose was is) → (status ≡ WriteFault → Rose had has) → (Rose was is → ⊥) → (Rose had has → ⊥) → IsUndisturbed status
undisturbed status was is had has reads writes no_read no_write = record {
  reads = λ e. no_read (reads e);
  writes = λ e. no_write (writes e);
}

completes : (text out : List ℕ) (status : Status) (t : Transcript) → Written text status out → IsUndisturbed status → is_transcript t ≡ true → text ≡ rendered t →
    (status ≡ status_of (judged t)) ⊎ (status ≡ NoMemory)
completes text out Done t h u lawful is = inl (one_verdict text verdict.Legal t h.0 lawful is)
completes text out (Illegal line clause) t h u lawful is = inl (one_verdict text (verdict.Illegal line clause) t h.0 lawful is)
completes text out (AtLine line) t h u lawful is = absurd (h.0.none t lawful is)
completes text out ReadFault t h u lawful is = absurd (u.reads refl)
completes text out WriteFault t h u lawful is = absurd (u.writes refl)
completes text out NoMemory t h u lawful is = inr refl
completes text out Words t h u lawful is = absurd h
completes text out LinkFault t h u lawful is = absurd h
completes text out (Limit which) t h u lawful is = absurd h

refuses : (text out : List ℕ) (status : Status) (line : ℕ) → Written text status out → IsUndisturbed status → IsFirstOutside text line →
    (status ≡ AtLine line) ⊎ (status ≡ NoMemory)
refuses text out Done line h u first = absurd (first.none h.0.0 h.0.1 h.0.2)
refuses text out (Illegal n clause) line h u first = absurd (first.none h.0.0 h.0.1 h.0.2)
refuses text out (AtLine n) line h u first = inl (ap AtLine (one_line text n line h.0 first))
refuses text out ReadFault line h u first = absurd (u.reads refl)
refuses text out WriteFault line h u first = absurd (u.writes refl)
refuses text out NoMemory line h u first = inr refl
refuses text out Words line h u first = absurd h
refuses text out LinkFault line h u first = absurd h
refuses text out (Limit which) line h u first = absurd h

pub complete_told : (left before after : Option (List ℕ)) (status : Status) → Told left before after (λ text out. Written text status out) → IsUndisturbed status →
    IfSome left (λ text. (t : Transcript) → is_transcript t ≡ true → text ≡ rendered t → (status ≡ status_of (judged t)) ⊎ (status ≡ NoMemory))
complete_told None before after status h u = tt
complete_told (Some text) before after status h u = λ t lawful is. completes text h.0 status t h.2 u lawful is

pub refuses_told : (left before after : Option (List ℕ)) (status : Status) → Told left before after (λ text out. Written text status out) → IsUndisturbed status →
    IfSome left (λ text. (line : ℕ) → IsFirstOutside text line → (status ≡ AtLine line) ⊎ (status ≡ NoMemory))
refuses_told None before after status h u = tt
refuses_told (Some text) before after status h u = λ line first. refuses text h.0 status line h.2 u first

-- ---- what is written

pub told_at : (left before after : Option (List ℕ)) (status is : Status) (P : List ℕ → List ℕ → Type 0) → Told left before after (λ text out. Written text status out) → status ≡ is →
    ((text out : List ℕ) → Written text is out → P text out) → Told left before after P
told_at None before after status is P h e f = tt
told_at (Some text) before after status is P h e f = (h.0, h.1, f text h.0 (subst (λ (s : Status). Written text s h.0) e h.2))

-- for a text that was read
pub told_read : (left before after : Option (List ℕ)) (status : Status) (text piece : List ℕ) → piece ≡ text → IfSome left (λ bytes. text ≡ bytes) →
    ((out : List ℕ) × Takes before out after × Written piece status out) → Told left before after (λ text out. Written text status out)
told_read None before after status text piece same read w = tt
told_read (Some bytes) before after status text piece same read w = (w.0, w.1, subst (λ (x : List ℕ). Written x status w.0) (same ∙ read) w.2)

pub told_none : (left before : Option (List ℕ)) (status : Status) → ((text : List ℕ) → Written text status []) → Told left before before (λ text out. Written text status out)
told_none None before status h = tt
told_none (Some text) before status h = ([], grows_none before, h text)

-- the whole line of a verdict
pub written_whole : (text : List ℕ) (v : Verdict) (out : List ℕ) → HasVerdict text v → out ≡ verdict_line v → Written text (status_of v) out
written_whole text verdict.Legal out has is = (has, is)
written_whole text (verdict.Illegal line clause) out has is = (has, is)

-- a front of it
pub written_front : (before after : Option (List ℕ)) (text : List ℕ) (v : Verdict) (whole : List ℕ) → HasVerdict text v → whole ≡ verdict_line v → TakesFront before whole after
    → (out : List ℕ) × Takes before out after × IsFront text out
written_front before after text v whole has is t = (t.0, t.3, (v, t.1, has, sym t.2 ∙ is))

-- a verdict is no fault, and isn't silent
pub tells_no_fault : (v : Verdict) (X : Type 0) → status_of v ≡ WriteFault → X
tells_no_fault verdict.Legal X e = absurd cc
tells_no_fault (verdict.Illegal line clause) X e = absurd cc

pub tells_no_read : (v : Verdict) → status_of v ≡ ReadFault → ⊥
tells_no_read verdict.Legal e = absurd cc
tells_no_read (verdict.Illegal line clause) e = absurd cc

pub tells_something : (v : Verdict) (X : Type 0) → IsSilent (status_of v) → X
tells_something verdict.Legal X silent = absurd silent
tells_something (verdict.Illegal line clause) X silent = absurd silent

pub tells_so : (v : Verdict) → IsOfJudge (status_of v)
tells_so verdict.Legal = tt
tells_so (verdict.Illegal line clause) = tt
