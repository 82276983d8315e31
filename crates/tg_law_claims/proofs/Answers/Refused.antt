-- Each refusal of the store has its cause.
use Rattle.std.proofs.Common.{◌≡◌, ℕ, [], ◌∷◌, ◌++◌, refl, sym, ◌∙◌}
use Rattle.tg_any.specs.AllKinds.{all_kinds}
use Rattle.tg_model.specs.declared.command.Event.TheVariants.{Command as Commands, Deliver, Lose, Tick, Stop}
use Rattle.tg_model.specs.declared.refusal.Refusal.{Refusal}
use Rattle.tg_model.specs.declared.refusal.Refusal.TheVariants as cause
use Rattle.tg_model.specs.declared.trace.What.TheVariants as told
use Rattle.tg_model.specs.Kinds.{CommandOf, EventOf}
use Rattle.tg_protocol.specs.Causes.{HasCause, RefusalsTrue}
use Rattle.tg_protocol.specs.Playing.{Replies}
use Rattle.tg_protocol.specs.Runs.{Takes, EachStep}
use Rattle.tg_protocol.specs.Worlds.{World, Told, happens}
use Rattle.tg_law_walks.proofs.Checkpoints.Checkpoints.{entries_own}
use Rattle.tg_law_syncs.proofs.Follow.Saves.{saves_precede}
use Rattle.tg_law_headline.proofs.AllKinds.Touching.{kinds_touch_parts}
use Rattle.tg_law_headline.proofs.Joint.Holding.{steps_hold}
use Rattle.tg_law_headline.proofs.Store.Steps.{store_trims_are_spare}
use Rattle.tg_law_claims.specs.Causes.Sorts.{RefusedAtOnceTrue, MostRefusalsTrue}
use Rattle.tg_law_claims.proofs.Causes.Reasons.{refused_at_once_true, most_refusals_true}
use Rattle.tg_law_claims.proofs.Causes.Stalled.{goes_reach}
use Rattle.tg_law_headline.proofs.Runs.Finding.{ends, found}
use Rattle.tg_law_claims.proofs.Answers.Caused.{IsFound, FoundTrue, found_true}

module _ (w : World all_kinds) (e : EventOf all_kinds) (now : RefusedAtOnceTrue all_kinds w e) (most : MostRefusalsTrue all_kinds w e) (later : FoundTrue all_kinds w e) where
  -- of what walks find, in whatever step
  found_now : (t : Told all_kinds) (why : Refusal) → Replies all_kinds w e t → t.mark.what ≡ told.Refused why → IsFound why → HasCause all_kinds w e t why
  found_now t why rep is ok = by e refl
    where
      no_deliver : (k i : ℕ) (x : CommandOf all_kinds) → ◌≡◌ {A = EventOf all_kinds} (Commands k x) (Deliver i) → ⊥
      no_deliver k i x z = cc

      no_lose : (k i : ℕ) (x : CommandOf all_kinds) → ◌≡◌ {A = EventOf all_kinds} (Commands k x) (Lose i) → ⊥
      no_lose k i x z = cc

      by : (x : EventOf all_kinds) → e ≡ x → HasCause all_kinds w e t why
      by (Commands k x) z = now k x z t why rep is
      by (Deliver i) z = later (λ k x q. no_deliver k i x (sym q ∙ z)) t why rep is ok
      by (Lose i) z = later (λ k x q. no_lose k i x (sym q ∙ z)) t why rep is ok
      by (Tick n) z = later (λ k x q. absurd (not_tick k x (sym q ∙ z))) t why rep is ok
        where
          not_tick : (k : ℕ) (x : CommandOf all_kinds) → ◌≡◌ {A = EventOf all_kinds} (Commands k x) (Tick n) → ⊥
          not_tick k x z = cc
      by (Stop n) z = later (λ k x q. absurd (not_stop k x (sym q ∙ z))) t why rep is ok
        where
          not_stop : (k : ℕ) (x : CommandOf all_kinds) → ◌≡◌ {A = EventOf all_kinds} (Commands k x) (Stop n) → ⊥
          not_stop k x z = cc

  each : RefusalsTrue all_kinds w e
  each t (cause.NoCheckpoint o) rep is = found_now t (cause.NoCheckpoint o) rep is tt
  each t (cause.OpenDecision p) rep is = found_now t (cause.OpenDecision p) rep is tt
  each t (cause.NotHosted o) rep is = found_now t (cause.NotHosted o) rep is tt
  each t why rep is = most t why rep is tt

pub refusals_true : EachStep all_kinds (RefusalsTrue all_kinds)
refusals_true h ms w e r lawful few =
    let g = goes_reach all_kinds h ms w e r lawful few in
    let z = (store_trims_are_spare h (ms ++ Takes e ∷ []) (happens all_kinds w e) g (steps_hold h (ms ++ Takes e ∷ []) (happens all_kinds w e) g)).were in
    each w e (refused_at_once_true h ms w e r lawful few) (most_refusals_true h ms w e r lawful few)
    (found_true all_kinds h ms w e r lawful few z
    (saves_precede all_kinds h (ms ++ Takes e ∷ []) (happens all_kinds w e) g z (entries_own all_kinds kinds_touch_parts h (ms ++ Takes e ∷ []) (happens all_kinds w e) g))
    (found h (ms ++ Takes e ∷ []) (happens all_kinds w e) g) (ends h (ms ++ Takes e ∷ []) (happens all_kinds w e) g))
