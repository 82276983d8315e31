-- From what a live run writes to what is promised of it.
use Rattle.std.proofs.Common.{◌≡◌, ◌⊎◌, ℕ, List, [], take, refl, sym, ap, subst, inl, inr, Option, Some, None, Result, Ok, Err, IfOk, IfSome}
use Rattle.tg_base.specs.Clusters.{Header}
use Rattle.tg_base.specs.declared.fault.Which.{Which}
use Rattle.tg_io.specs.Bytes.{Takes, TakesFront}
use Rattle.tg_io.specs.declared.status.Status.{Status}
use Rattle.tg_io.specs.declared.status.Status.TheVariants.{Done, Illegal, Words, Script as AtLine, ReadFault, WriteFault, LinkFault, Limit, NoMemory}
use Rattle.tg_io.proofs.Bytes.{grows_none}
use Rattle.tg_replay.specs.Runs.{Script, Tells}
use Rattle.tg_replay.specs.Stages.{status_of}
use Rattle.tg_replay.specs.Outcomes.{Told}
use Rattle.tg_replay.specs.declared.stages.End.{End}
use Rattle.tg_replay.specs.declared.stages.End.TheVariants.{Whole, Outside, Limited}
use Rattle.tg_live.specs.declared.live.Live.{Live as Kept}
use Rattle.tg_live.specs.declared.stages.Finish.{Finish}
use Rattle.tg_live.specs.Lives.{Live}
use Rattle.tg_live.specs.Kept.{Keeps}
use Rattle.tg_live.specs.Sends.{Carried}
use Rattle.tg_live.specs.Scripts as scripts
use Rattle.tg_live.specs.Scripts.{Over, IsLiveScript, FirstOutside, PassesLimit, PassesNone, Outcome, printed}
use Rattle.tg_live.specs.Outcomes.{Written, IsOfLive, IsOrStops, IsFront}
use Rattle.tg_live.specs.Stages.{Finished, Ends}

-- what was written with a status
pub told_at : (left before after : Option (List ℕ)) (o : Over) (status is : Status) (P : List ℕ → List ℕ → Type 0) → Told left before after (λ text out. Written o text status out) → status ≡ is →
    ((text out : List ℕ) → Written o text is out → P text out) → Told left before after P
told_at None before after o status is P h e f = tt
told_at (Some text) before after o status is P h e f = (h.0, h.1, f text h.0 (subst (λ (s : Status). Written o text s h.0) e h.2))

-- what is written for a text whose reading has finished
pub finish_told : (left before after : Option (List ℕ)) (o : Over) (status : Status) (finish : Finish) → IfSome left (λ text. Finished o text finish) →
    ((o : Over) (text : List ℕ) → Finished o text finish → (out : List ℕ) × Takes before out after × Written o text status out) → Told left before after (λ text out. Written o text status out)
finish_told None before after o status finish h w = tt
finish_told (Some text) before after o status finish h w = w o text h

-- what is printed of a live run that is kept so
pub printed_run : (o : Over) (text : List ℕ) (status : Status) (k : Kept) (out : List ℕ) → ((h : Header) (first now : Carried) (l : Live) → Keeps h first now k l → out ≡ printed h l) → Ends o text status (Some k) → Outcome o text status out
printed_run o text status k out f e = subst (λ (x : List ℕ). Outcome o text status x) (sym (f e.0 o.carried o.carried_after e.1 e.2)) e.3

pub text_said : {E : Type 0} (r : Result (List ℕ) E) (k : Kept) → ((h : Header) (first now : Carried) (l : Live) → Keeps h first now k l → IfOk r (λ out. out ≡ printed h l))
    → IfOk r (λ out. (o : Over) (text : List ℕ) (status : Status) → Ends o text status (Some k) → Outcome o text status out)
text_said (Ok out) k f = λ o text status e. printed_run o text status k out f e
text_said (Err e) k f = tt

pub printed_none : (o : Over) (text : List ℕ) (status : Status) (out : List ℕ) → out ≡ [] → Ends o text status None → Outcome o text status out
printed_none o text status out e h = subst (λ (x : List ℕ). Outcome o text status x) (sym e) h

-- with the status of its end
pub written_whole : (o : Over) (text : List ℕ) (end : End) (out : List ℕ) → Outcome o text (status_of end) out → Written o text (status_of end) out
written_whole o text Whole out h = h
written_whole o text (Outside line) out h = h
written_whole o text (Limited which) out h = h

-- a front of it
pub written_front : (before after : Option (List ℕ)) (o : Over) (text : List ℕ) (end : End) (whole : List ℕ) → Outcome o text (status_of end) whole → TakesFront before whole after → (out : List ℕ) × Takes before out after × IsFront o text out
written_front before after o text end whole h t = (t.0, t.3, (status_of end, whole, t.1, h, sym t.2))

-- nothing at all
pub written_none : (before : Option (List ℕ)) (o : Over) (text : List ℕ) → (out : List ℕ) × Takes before out before × Written o text NoMemory out
written_none before o text = ([], grows_none before, inl refl)

pub told_none : (left before : Option (List ℕ)) (o : Over) (status : Status) → ((text : List ℕ) → Written o text status []) → Told left before before (λ text out. Written o text status out)
told_none None before o status h = tt
told_none (Some text) before o status h = ([], grows_none before, h text)

-- a run's end is no fault
pub ends_well : (end : End) (X : Type 0) → status_of end ≡ WriteFault → X
ends_well Whole X e = absurd cc
ends_well (Outside line) X e = absurd cc
ends_well (Limited which) X e = absurd cc

pub ends_read : (end : End) → status_of end ≡ ReadFault → ⊥
ends_read Whole e = absurd cc
ends_read (Outside line) e = absurd cc
ends_read (Limited which) e = absurd cc

pub ends_link : (end : End) → status_of end ≡ LinkFault → ⊥
ends_link Whole e = absurd cc
ends_link (Outside line) e = absurd cc
ends_link (Limited which) e = absurd cc

pub ends_so : (end : End) → IsOfLive (status_of end)
ends_so Whole = tt
ends_so (Outside line) = tt
ends_so (Limited which) = tt

-- ---- where nothing outside failed

pub record IsUndisturbed (status : Status) : Type 0 where
  pub reads : status ≡ ReadFault → ⊥
  pub writes : status ≡ WriteFault → ⊥
  pub carries : status ≡ LinkFault → ⊥

-- a run that a limit has stopped passes it
pub passes : (o : Over) (text out : List ℕ) (which : Which) → scripts.Limited o text which out → PassesLimit o text which
passes o text out which w = record { script = w.script; lawful = w.lawful; begins = w.begins; end = w.end; over = w.over; answers = w.run.answers; lived = w.run.lived; took = w.run.took }

-- a live script that passes no limit is run whole
completes : (o : Over) (text out : List ℕ) (status : Status) (s : Script) → Written o text status out → IsOfLive status → IsUndisturbed status → IsLiveScript s → Tells text s → PassesNone o text → (status ≡ Done) ⊎ (status ≡ NoMemory)
completes o text out Done s w ways u lawful tells within = inl refl
completes o text out NoMemory s w ways u lawful tells within = inr refl
completes o text out Words s w ways u lawful tells within = absurd ways
completes o text out ReadFault s w ways u lawful tells within = absurd (u.reads refl)
completes o text out WriteFault s w ways u lawful tells within = absurd (u.writes refl)
completes o text out LinkFault s w ways u lawful tells within = absurd (u.carries refl)
completes o text out (Illegal line clause) s w ways u lawful tells within = absurd ways
completes o text out (AtLine n) s w ways u lawful tells within = absurd (w.first.outside s lawful (ap (λ (ls : List (List ℕ)). take n ls) tells))
completes o text out (Limit which) s w ways u lawful tells within = absurd (within which (passes o text out which w))

pub complete_told : (left before after : Option (List ℕ)) (o : Over) (status : Status) → Told left before after (λ text out. Written o text status out) → IsOfLive status → IsUndisturbed status →
    IfSome left (λ text. (s : Script) → IsLiveScript s → Tells text s → PassesNone o text → (status ≡ Done) ⊎ (status ≡ NoMemory))
complete_told None before after o status h ways u = tt
complete_told (Some text) before after o status h ways u = λ s lawful tells within. completes o text h.0 status s h.2 ways u lawful tells within

-- whatever the link tells, it is run whole or a limit stops it
ends : (o : Over) (text out : List ℕ) (status : Status) (s : Script) → Written o text status out → IsOfLive status → IsUndisturbed status → IsLiveScript s → Tells text s → IsOrStops status Done
ends o text out Done s w ways u lawful tells = inl refl
ends o text out NoMemory s w ways u lawful tells = inr (inr refl)
ends o text out Words s w ways u lawful tells = absurd ways
ends o text out ReadFault s w ways u lawful tells = absurd (u.reads refl)
ends o text out WriteFault s w ways u lawful tells = absurd (u.writes refl)
ends o text out LinkFault s w ways u lawful tells = absurd (u.carries refl)
ends o text out (Illegal line clause) s w ways u lawful tells = absurd ways
ends o text out (AtLine n) s w ways u lawful tells = absurd (w.first.outside s lawful (ap (λ (ls : List (List ℕ)). take n ls) tells))
ends o text out (Limit which) s w ways u lawful tells = inr (inl (which, refl))

pub ends_told : (left before after : Option (List ℕ)) (o : Over) (status : Status) → Told left before after (λ text out. Written o text status out) → IsOfLive status → IsUndisturbed status →
    IfSome left (λ text. (s : Script) → IsLiveScript s → Tells text s → IsOrStops status Done)
ends_told None before after o status h ways u = tt
ends_told (Some text) before after o status h ways u = λ s lawful tells. ends o text h.0 status s h.2 ways u lawful tells
