-- From what a replay writes to what is promised of it.
use Rattle.std.proofs.Common.{◌≡◌, ◌⊎◌, ℕ, List, [], refl, sym, ap, ◌∙◌, subst, inl, Option, Some, None, IfSome}
use Rattle.tg_base.specs.declared.fault.Which.{Which}
use Rattle.tg_io.specs.Bytes.{Takes, TakesFront}
use Rattle.tg_io.specs.Faults.{Rose}
use Rattle.tg_io.specs.declared.status.Status.{Status}
use Rattle.tg_io.specs.declared.status.Status.TheVariants.{Done, Words, Script as AtLine, ReadFault, WriteFault, Limit, NoMemory}
use Rattle.tg_io.proofs.Bytes.{grows_none}
use Rattle.tg_world.specs.Kept.{KeepsWorld}
use Rattle.tg_any.specs.AllKinds.{all_kinds}
use Rattle.tg_replay.specs.declared.stages.End.{End}
use Rattle.tg_replay.specs.declared.stages.End.TheVariants.{Whole, Outside, Limited}
use Rattle.tg_replay.specs.declared.stages.Finish.{Finish}
use Rattle.tg_replay.specs.declared.stages.Run.{Run}
use Rattle.tg_replay.specs.Stages.{Finished, Ends, status_of}
use Rattle.tg_replay.specs.Runs.{Script, IsScript, IsWithin, Tells, FirstOutside, PassesLimit, Outcome, Worlds, transcript, world_of}
use Rattle.tg_replay.specs.Outcomes.{Told, Written, IsOfReplay, IsFront}
use Rattle.tg_replay.proofs.Exact.{IsUndisturbed, completes, refuses, limits}

-- what was written with a status
pub told_at : (left before after : Option (List ℕ)) (status is : Status) (P : List ℕ → List ℕ → Type 0) → Told left before after (λ text out. Written text status out) → status ≡ is →
    ((text out : List ℕ) → Written text is out → P text out) → Told left before after P
told_at None before after status is P h e f = tt
told_at (Some text) before after status is P h e f = (h.0, h.1, f text h.0 (subst (λ (s : Status). Written text s h.0) e h.2))

pub undisturbed : (status : Status) (was is had has : ℕ) → IsOfReplay status → (status ≡ ReadFault → Rose was is) → (status ≡ WriteFault → Rose had has) → (Rose was is → ⊥) → (Rose had has → ⊥) → IsUndisturbed status
undisturbed status was is had has ways reads writes no_read no_write = record {
  words = λ e. let h : IsOfReplay Words = subst IsOfReplay e ways in h;
  reads = λ e. no_read (reads e);
  writes = λ e. no_write (writes e);
}

pub complete_told : (left before after : Option (List ℕ)) (status : Status) → Told left before after (λ text out. Written text status out) → IsUndisturbed status →
    IfSome left (λ text. (s : Script) → IsScript s → IsWithin s → Tells text s → (status ≡ Done) ⊎ (status ≡ NoMemory))
complete_told None before after status h u = tt
complete_told (Some text) before after status h u = λ s lawful within tells. completes text h.0 status s h.2 u lawful within tells

pub refuses_told : (left before after : Option (List ℕ)) (status : Status) → Told left before after (λ text out. Written text status out) → IsUndisturbed status →
    IfSome left (λ text. (line : ℕ) (s : Script) → FirstOutside text line s → (status ≡ AtLine line) ⊎ (status ≡ NoMemory))
refuses_told None before after status h u = tt
refuses_told (Some text) before after status h u = λ line s first. refuses text h.0 status line s h.2 u first

pub limits_told : (left before after : Option (List ℕ)) (status : Status) → Told left before after (λ text out. Written text status out) → IsUndisturbed status →
    IfSome left (λ text. (which : Which) (s : Script) → PassesLimit text which s → (status ≡ Limit which) ⊎ (status ≡ NoMemory))
limits_told None before after status h u = tt
limits_told (Some text) before after status h u = λ which s passes. limits text h.0 status which s h.2 u passes

-- what is written for a text whose reading has finished
pub finish_told : (left before after : Option (List ℕ)) (status : Status) (finish : Finish) → IfSome left (λ text. Finished text finish) →
    ((text : List ℕ) → Finished text finish → (out : List ℕ) × Takes before out after × Written text status out) → Told left before after (λ text out. Written text status out)
finish_told None before after status finish h w = tt
finish_told (Some text) before after status finish h w = w text h

-- What is written of a run.

-- the transcript of a run's world, which is a script's
pub printed_run : (text : List ℕ) (status : Status) (r : Run) (out : List ℕ) → ((w : Worlds) → KeepsWorld all_kinds r.world w → out ≡ transcript r.cluster w) → Ends text status (Some r) → Outcome text status out
printed_run text status r out h e =
    let s = e.0 in
    let same : out ≡ transcript s.header (world_of s) = h (world_of s) e.1 ∙ ap (λ x. transcript x (world_of s)) e.2 in
    subst (λ (x : List ℕ). Outcome text status x) (sym same) e.3

pub printed_none : (text : List ℕ) (status : Status) (out : List ℕ) → out ≡ [] → Ends text status None → Outcome text status out
printed_none text status out e h = subst (λ (x : List ℕ). Outcome text status x) (sym e) h

-- with the status of its end
pub written_whole : (text : List ℕ) (end : End) (out : List ℕ) → Outcome text (status_of end) out → Written text (status_of end) out
written_whole text Whole out h = h
written_whole text (Outside line) out h = h
written_whole text (Limited which) out h = h

-- a front of it
pub written_front : (before after : Option (List ℕ)) (text : List ℕ) (end : End) (whole : List ℕ) → Outcome text (status_of end) whole → TakesFront before whole after → (out : List ℕ) × Takes before out after × IsFront text out
written_front before after text end whole h t = (t.0, t.3, (status_of end, whole, t.1, h, sym t.2))

-- nothing at all
pub written_none : (before : Option (List ℕ)) (text : List ℕ) → (out : List ℕ) × Takes before out before × Written text NoMemory out
written_none before text = ([], grows_none before, inl refl)

pub told_none : (left before : Option (List ℕ)) (status : Status) → ((text : List ℕ) → Written text status []) → Told left before before (λ text out. Written text status out)
told_none None before status h = tt
told_none (Some text) before status h = ([], grows_none before, h text)

-- a run's end is no fault
pub ends_well : (end : End) (X : Type 0) → status_of end ≡ WriteFault → X
ends_well Whole X e = absurd cc
ends_well (Outside line) X e = absurd cc
ends_well (Limited which) X e = absurd cc

pub ends_read : (end : End) → status_of end ≡ ReadFault → ⊥
ends_read Whole e = absurd cc
ends_read (Outside line) e = absurd cc
ends_read (Limited which) e = absurd cc

pub ends_so : (end : End) → IsOfReplay (status_of end)
ends_so Whole = tt
ends_so (Outside line) = tt
ends_so (Limited which) = tt
