-- From what is written of a run to what is promised of it.
use Rattle.std.proofs.Common.{◌≡◌, ◌⊎◌, ℕ, List, [], ◌++◌, length, refl, sym, ap, ◌∙◌, subst, inl, inr, Option, Some, None, Result, Ok, Err, IfOk, arith}
use Rattle.std.specs.Prelude.{◌+◌, ◌≤◌, IsSome}
use Rattle.tg_base.specs.declared.fault.Which.{Which}
use Rattle.tg_io.specs.Bytes.{Takes, TakesFront}
use Rattle.tg_io.specs.declared.status.Status.{Status}
use Rattle.tg_io.specs.declared.status.Status.TheVariants.{Done, Illegal, Words, Script as AtLine, ReadFault, WriteFault, LinkFault, Limit, NoMemory}
use Rattle.tg_io.proofs.Bytes.{grows_none}
use Rattle.tg_world.specs.Kept.{KeepsWorld}
use Rattle.tg_any.specs.AllKinds.{all_kinds}
use Rattle.tg_replay.specs.declared.stages.End.{End}
use Rattle.tg_replay.specs.declared.stages.End.TheVariants.{Whole, Outside, Limited}
use Rattle.tg_replay.specs.declared.stages.Run.{Run}
use Rattle.tg_replay.specs.Stages.{Ends, status_of}
use Rattle.tg_replay.specs.Runs.{Script, Worlds, Runs, IsScript, IsWithin, Tells, run_of, world_of}
use Rattle.tg_replay.proofs.Exact.{told_once, tells_begins}
use Rattle.tg_trace.specs.declared.transcript.Transcript.{Transcript}
use Rattle.tg_trace.specs.Transcripts.{rendered}
use Rattle.tg_trace.proofs.Sizes.{rendered_within}
use Rattle.tg_bench.specs.Loads.{last_event, summary_at, summary, IsFront, IsSummed, Written, IsOfLoad}
use Rattle.tg_bench.proofs.Scripts.{last_whole, limit_stops}

pub run_summed : (s : Script) (text : List ℕ) (end : End) (r : Run) (out : List ℕ) → IsScript s → Tells text s → Ends text (status_of end) (Some r) →
    ((w : Worlds) → KeepsWorld all_kinds r.world w → out ≡ summary_at r.world.event w) → IsSummed s end out
run_summed s text Whole r out lawful tells (p, keeps, cluster, outcome, events, ends) h =
    let same : p ≡ s = told_once text p s ends.0 lawful ends.2 tells in
    record {
      ends = subst IsWithin same ends.1;
      same = h (world_of p) keeps ∙ ap (λ n. summary_at n (world_of p)) (events ∙ sym (last_whole p ends.1)) ∙ ap summary same;
    }
run_summed s text (Limited which) r out lawful tells (p, keeps, cluster, outcome, events, passes) h =
    let stops = limit_stops text s p which lawful tells passes in
    record {
      ends = ap (λ (x : Runs). x.stopped) stops.run ∙ passes.over;
      same = h (world_of p) keeps ∙ ap (λ n. summary_at n (world_of p)) (events ∙ sym stops.last) ∙ ap (λ (x : Runs). summary_at (last_event s) x.world) (sym stops.run);
    }
run_summed s text (Outside n) r out lawful tells (p, keeps, cluster, outcome, events, first) h = absurd (first.outside s lawful (tells_begins text n s tells))

nothing_printed : (t : Transcript) → [] ≡ rendered t → ⊥
nothing_printed t e =
    let many : length t.trace + length t.history + 3 ≤ length (rendered t) = rendered_within t in
    let none : 0 ≡ length (rendered t) = ap length e in
    omega (arith, many, none)

-- the header of a script's text isn't refused
pub has_run : (s : Script) (text : List ℕ) (end : End) (o : Option Run) → IsScript s → Tells text s → Ends text (status_of end) o → IsSome o
has_run s text end (Some r) lawful tells e = refl
has_run s text Whole None lawful tells e = absurd (nothing_printed _ e.printed)
has_run s text (Limited which) None lawful tells e = absurd (nothing_printed _ e.printed)
has_run s text (Outside n) None lawful tells e = absurd (e.first.outside s lawful (tells_begins text n s tells))

-- what is made of a run
pub text_summed : {E : Type 0} (result : Result (List ℕ) E) (o : Option Run) (r : Run) → o ≡ Some r → ((w : Worlds) → KeepsWorld all_kinds r.world w → IfOk result (λ out. out ≡ summary_at r.world.event w)) →
    IfOk result (λ out. (s : Script) (text : List ℕ) (end : End) → IsScript s → Tells text s → Ends text (status_of end) o → IsSummed s end out)
text_summed (Ok out) o r is h = λ s text end lawful tells e. run_summed s text end r out lawful tells (subst (λ (x : Option Run). Ends text (status_of end) x) is e) h
text_summed (Err x) o r is h = tt

-- with the status of its end
pub written_whole : (s : Script) (end : End) (before after : Option (List ℕ)) (out : List ℕ) → IsSummed s end out → Takes before out after → Written s (status_of end) before after
written_whole s Whole before after out h t = (h.ends, subst (λ (x : List ℕ). Takes before x after) h.same t)
written_whole s (Limited which) before after out h t = (h.ends, subst (λ (x : List ℕ). Takes before x after) h.same t)
written_whole s (Outside n) before after out h t = absurd h.ends

-- a front of it
pub written_front : (s : Script) (end : End) (before after : Option (List ℕ)) (out : List ℕ) → IsSummed s end out → TakesFront before out after → IsFront s before after
written_front s end before after out h (front, rest, same, t) = (front, rest, t, sym same ∙ h.same)

-- nothing at all
pub written_none : (s : Script) (before : Option (List ℕ)) → IsFront s before before
written_none s before = ([], summary s, grows_none before, refl)

-- What each status says.

pub at_status : (s : Script) (before after : Option (List ℕ)) (status is : Status) → Written s status before after → status ≡ is → Written s is before after
at_status s before after status is w e = subst (λ (x : Status). Written s x before after) e w

pub cut_short : (s : Script) (before after : Option (List ℕ)) (status : Status) → Written s status before after → (status ≡ WriteFault) ⊎ (status ≡ NoMemory) → IsFront s before after
cut_short s before after status w e = elim e [
  | inl f ↦ at_status s before after status WriteFault w f
  | inr f ↦ at_status s before after status NoMemory w f
]

pub ways : (s : Script) (before after : Option (List ℕ)) (status : Status) → Written s status before after → IsOfLoad status
ways s before after Done w = tt
ways s before after (Limit which) w = tt
ways s before after WriteFault w = tt
ways s before after NoMemory w = tt
ways s before after Words w = absurd w
ways s before after ReadFault w = absurd w
ways s before after LinkFault w = absurd w
ways s before after (Illegal line clause) w = absurd w
ways s before after (AtLine n) w = absurd w

same_value : (o : Option Which) (x y : Which) → o ≡ Some x → o ≡ Some y → x ≡ y
same_value o x y e f = cc

not_both : (o : Option Which) (x : Which) → o ≡ None → o ≡ Some x → ⊥
not_both o x e f = absurd cc

pub completes : (s : Script) (before after : Option (List ℕ)) (status : Status) → Written s status before after → (status ≡ WriteFault → ⊥) → IsWithin s → (status ≡ Done) ⊎ (status ≡ NoMemory)
completes s before after Done w u within = inl refl
completes s before after (Limit which) w u within = absurd (not_both (run_of s).stopped which within w.0)
completes s before after WriteFault w u within = absurd (u refl)
completes s before after NoMemory w u within = inr refl
completes s before after Words w u within = absurd w
completes s before after ReadFault w u within = absurd w
completes s before after LinkFault w u within = absurd w
completes s before after (Illegal line clause) w u within = absurd w
completes s before after (AtLine n) w u within = absurd w

pub limits : (s : Script) (before after : Option (List ℕ)) (status : Status) (by : Which) → Written s status before after → (status ≡ WriteFault → ⊥) → (run_of s).stopped ≡ Some by → (status ≡ Limit by) ⊎ (status ≡ NoMemory)
limits s before after Done by w u over = absurd (not_both (run_of s).stopped by w.0 over)
limits s before after (Limit which) by w u over = inl (ap Limit (same_value (run_of s).stopped which by w.0 over))
limits s before after WriteFault by w u over = absurd (u refl)
limits s before after NoMemory by w u over = inr refl
limits s before after Words by w u over = absurd w
limits s before after ReadFault by w u over = absurd w
limits s before after LinkFault by w u over = absurd w
limits s before after (Illegal line clause) by w u over = absurd w
limits s before after (AtLine n) by w u over = absurd w

-- a run's end is no fault
pub ends_well : (end : End) (X : Type 0) → status_of end ≡ WriteFault → X
ends_well Whole X e = absurd cc
ends_well (Outside line) X e = absurd cc
ends_well (Limited which) X e = absurd cc
