-- No command is refused before any work because something is undecided, or for what its walks find.
use Rattle.std.proofs.Common.{ℕ, Option, Some, None}
use Rattle.tg_base.specs.Layouts.{Layout}
use Rattle.tg_kind.specs.Meaning.{Meaning}
use Rattle.tg_model.specs.declared.refusal.Refusal.{Refusal}
use Rattle.tg_model.specs.declared.refusal.Refusal.TheVariants as cause
use Rattle.tg_model.specs.Kinds.{CommandOf}
use Rattle.tg_protocol.specs.Clients.{Client, copy_fault, refusal}
use Rattle.tg_law_headline.proofs.Alike.Refusals.{IsAtOnce, IsByLayout, refused_at_once, copy_by_layout}

abbrev pub NotUndecided : Refusal → Type 0
NotUndecided (cause.Undecided p o) = ⊥
NotUndecided (cause.NoCheckpoint o) = ⊥
NotUndecided (cause.OpenDecision p) = ⊥
NotUndecided why = Unit {0}

abbrev pub Fine : Option Refusal → Type 0
Fine None = Unit {0}
Fine (Some why) = NotUndecided why

-- and none of them, nor that an object isn't hosted, is why a stripe may not be copied
abbrev pub NotFound : Refusal → Type 0
NotFound (cause.Undecided p o) = ⊥
NotFound (cause.NoCheckpoint o) = ⊥
NotFound (cause.OpenDecision p) = ⊥
NotFound (cause.NotHosted o) = ⊥
NotFound why = Unit {0}

abbrev pub FineCopy : Option Refusal → Type 0
FineCopy None = Unit {0}
FineCopy (Some why) = NotFound why

not_undecided : (o : Option Refusal) → IsAtOnce o → Fine o
not_undecided None k = tt
not_undecided (Some (cause.Undecided p o)) k = absurd k
not_undecided (Some (cause.NoCheckpoint o)) k = absurd k
not_undecided (Some (cause.OpenDecision p)) k = absurd k
not_undecided (Some why) k = tt

not_found : (o : Option Refusal) → IsByLayout o → FineCopy o
not_found None k = tt
not_found (Some (cause.Undecided p o)) k = absurd k
not_found (Some (cause.NoCheckpoint o)) k = absurd k
not_found (Some (cause.OpenDecision p)) k = absurd k
not_found (Some (cause.NotHosted o)) k = absurd k
not_found (Some why) k = tt

module _ (m : Meaning) where
  pub fine_refusal : (c : Client m) (x : CommandOf m) → Fine (refusal m c x)
  fine_refusal c x = not_undecided (refusal m c x) (refused_at_once m c x)

  pub fine_copy : (p : Layout) (u r s : ℕ) → FineCopy (copy_fault m p u r s)
  fine_copy p u r s = not_found (copy_fault m p u r s) (copy_by_layout m p u r s)
