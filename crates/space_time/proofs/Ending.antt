-- From what reading has come to to how the program ends.
use Rattle.std.specs.Prelude.{◌≡◌, ◌⊎◌, ℕ, true, false, List, [], Option, Some, None, IsSome, IfSome, refl}
use Rattle.std.proofs.Common.{sym, subst, ◌∙◌, inl}
use Rattle.tg_base.specs.declared.fault.Which.{Which}
use Rattle.tg_io.specs.declared.status.Status.{Status}
use Rattle.tg_io.specs.declared.status.Status.TheVariants.{Done, Script as AtLine, WriteFault, Limit, NoMemory}
use Rattle.tg_replay.specs.Outcomes.{IsFront}
use Rattle.tg_replay.specs.Runs.{Script, IsScript, IsWithin, Tells, FirstOutside, PassesLimit, Outcome, transcript, world_of}
use Rattle.tg_replay.specs.Stages.{Ends, Finished, status_of}
use Rattle.tg_replay.specs.declared.stages.Finish.{Finish}
use Rattle.tg_replay.specs.declared.stages.Run.{Run}
use Rattle.tg_replay.proofs.Exact.{IsUndisturbed, completes, refuses, limits}
use Rattle.tg_replay.proofs.Promises.{written_whole}
use Rattle.space_time.specs.Endings.{EndsAsReplay}
use Rattle.space_time.specs.declared.cut.Cut.{Cut}

-- what a replay would print
outcome : (text : List ℕ) (status : Status) (o : Option Run) → Ends text status o → (out : List ℕ) × Outcome text status out
outcome text status None e = ([], e)
outcome text status (Some r) e = (transcript e.0.header (world_of e.0), e.3)

pub ends_whole : (text : List ℕ) (f : Finish) (status : Status) → Finished text f → status ≡ status_of f.end → EndsAsReplay status text
ends_whole text f status h e =
    let o = outcome text (status_of f.end) f.run h in
    subst (λ (s : Status). EndsAsReplay s text) (sym e) (o.0, written_whole text f.end o.0 o.1)

front : (text : List ℕ) (f : Finish) → Finished text f → IsFront text []
front text f h = let o = outcome text (status_of f.end) f.run h in (status_of f.end, o.0, o.0, o.1, refl)

pub ends_unwritten : (text : List ℕ) (f : Finish) → Finished text f → EndsAsReplay WriteFault text
ends_unwritten text f h = ([], front text f h)

pub ends_for_memory : (text : List ℕ) → EndsAsReplay NoMemory text
ends_for_memory text = ([], inl refl)

-- a text whose reading has finished
pub ends_so : (left : Option (List ℕ)) (status : Status) (f : Finish) → IfSome left (λ text. Finished text f) → ((text : List ℕ) → Finished text f → EndsAsReplay status text) → IfSome left (EndsAsReplay status)
ends_so None status f h w = tt
ends_so (Some text) status f h w = w text h

pub ends_otherwise : (left : Option (List ℕ)) (status : Status) → ((text : List ℕ) → EndsAsReplay status text) → IfSome left (EndsAsReplay status)
ends_otherwise None status w = tt
ends_otherwise (Some text) status w = w text

pub complete_told : (left : Option (List ℕ)) (status : Status) → IfSome left (EndsAsReplay status) → IsUndisturbed status →
    IfSome left (λ text. (s : Script) → IsScript s → IsWithin s → Tells text s → (status ≡ Done) ⊎ (status ≡ NoMemory))
complete_told None status h u = tt
complete_told (Some text) status h u = λ s lawful within tells. completes text h.0 status s h.1 u lawful within tells

pub refuses_told : (left : Option (List ℕ)) (status : Status) → IfSome left (EndsAsReplay status) → IsUndisturbed status →
    IfSome left (λ text. (line : ℕ) (s : Script) → FirstOutside text line s → (status ≡ AtLine line) ⊎ (status ≡ NoMemory))
refuses_told None status h u = tt
refuses_told (Some text) status h u = λ line s first. refuses text h.0 status line s h.1 u first

pub limits_told : (left : Option (List ℕ)) (status : Status) → IfSome left (EndsAsReplay status) → IsUndisturbed status →
    IfSome left (λ text. (which : Which) (s : Script) → PassesLimit text which s → (status ≡ Limit which) ⊎ (status ≡ NoMemory))
limits_told None status h u = tt
limits_told (Some text) status h u = λ which s passes. limits text h.0 status which s h.1 u passes

never : {Y : Type 0} → false ≡ true → Y
never e = absurd cc

-- words that name no cut
pub unnamed : {X : Type 0} {Y : Type 0} (o p : Option X) → p ≡ o → p ≡ None → IsSome o → Y
unnamed {X = X} o p e none h = let k : IsSome {T = X} None = subst (λ (q : Option X). IsSome q) (sym e ∙ none) h in never k

-- one cut is named at most
pub same_cut : (a b : Cut) → Some a ≡ Some b → a ≡ b
same_cut a b e = cc
