-- Refusals of the store and their causes.
use Rattle.std.proofs.Common.{◌≡◌, ℕ, refl, sym, ◌∙◌}
use Rattle.tg_any.specs.AllKinds.{all_kinds}
use Rattle.tg_model.specs.declared.command.Event.TheVariants.{Command as Commands, Deliver, Lose, Tick, Stop}
use Rattle.tg_model.specs.declared.refusal.Refusal.{Refusal}
use Rattle.tg_model.specs.declared.refusal.Refusal.TheVariants as cause
use Rattle.tg_model.specs.declared.trace.What.TheVariants as told
use Rattle.tg_model.specs.Kinds.{CommandOf, EventOf}
use Rattle.tg_protocol.specs.Causes.{HasCause}
use Rattle.tg_protocol.specs.Playing.{Replies}
use Rattle.tg_protocol.specs.Runs.{EachStep}
use Rattle.tg_protocol.specs.Worlds.{World, Told}
use Rattle.tg_law_claims.specs.Causes.Sorts.{RefusedAtOnceTrue, RefusedLaterTrue, IsCaused, MostRefusalsTrue}
use Rattle.tg_law_claims.specs.Causes.Undecidings.{UndecidedTrue}
use Rattle.tg_law_claims.proofs.Causes.Given.{refused_at_once}
use Rattle.tg_law_claims.proofs.Causes.Heard.{refused_later_true}
use Rattle.tg_law_claims.proofs.Causes.Keeping.{all_fine}
use Rattle.tg_law_claims.proofs.Causes.Store.{directories_true}
use Rattle.tg_law_claims.proofs.Causes.StoreStalled.{undecided_true}

pub refused_at_once_true : EachStep all_kinds (RefusedAtOnceTrue all_kinds)
refused_at_once_true h ms w e r lawful few = refused_at_once all_kinds w e (all_fine all_kinds h ms w r) (directories_true h ms w r)

module _ (w : World all_kinds) (e : EventOf all_kinds) (now : RefusedAtOnceTrue all_kinds w e) (later : RefusedLaterTrue all_kinds w e) (undecided : UndecidedTrue all_kinds w e) where
  later_by : ((k : ℕ) (x : CommandOf all_kinds) → e ≡ Commands k x → ⊥) → (t : Told all_kinds) (why : Refusal) → Replies all_kinds w e t → t.mark.what ≡ told.Refused why → IsCaused all_kinds why → HasCause all_kinds w e t why
  later_by none t (cause.Undecided p o) rep is ok = undecided t p o rep is
  later_by none t (cause.NoCheckpoint o) rep is ok = absurd ok
  later_by none t (cause.OpenDecision p) rep is ok = absurd ok
  later_by none t (cause.NotHosted o) rep is ok = absurd ok
  later_by none t why rep is ok = later none t why rep is tt

  most : MostRefusalsTrue all_kinds w e
  most t why rep is ok = by e refl
    where
      no_deliver : (k i : ℕ) (x : CommandOf all_kinds) → ◌≡◌ {A = EventOf all_kinds} (Commands k x) (Deliver i) → ⊥
      no_deliver k i x z = cc

      no_lose : (k i : ℕ) (x : CommandOf all_kinds) → ◌≡◌ {A = EventOf all_kinds} (Commands k x) (Lose i) → ⊥
      no_lose k i x z = cc

      by : (x : EventOf all_kinds) → e ≡ x → HasCause all_kinds w e t why
      by (Commands k x) z = now k x z t why rep is
      by (Deliver i) z = later_by (λ k x q. no_deliver k i x (sym q ∙ z)) t why rep is ok
      by (Lose i) z = later_by (λ k x q. no_lose k i x (sym q ∙ z)) t why rep is ok
      by (Tick n) z = later_by (λ k x q. absurd (not_tick k x (sym q ∙ z))) t why rep is ok
        where
          not_tick : (k : ℕ) (x : CommandOf all_kinds) → ◌≡◌ {A = EventOf all_kinds} (Commands k x) (Tick n) → ⊥
          not_tick k x z = cc
      by (Stop n) z = later_by (λ k x q. absurd (not_stop k x (sym q ∙ z))) t why rep is ok
        where
          not_stop : (k : ℕ) (x : CommandOf all_kinds) → ◌≡◌ {A = EventOf all_kinds} (Commands k x) (Stop n) → ⊥
          not_stop k x z = cc

pub most_refusals_true : EachStep all_kinds (MostRefusalsTrue all_kinds)
most_refusals_true h ms w e r lawful few =
    most w e (refused_at_once_true h ms w e r lawful few) (refused_later_true all_kinds h ms w e r lawful few) (undecided_true h ms w e r lawful few)
