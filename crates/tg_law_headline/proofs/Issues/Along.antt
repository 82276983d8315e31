-- A fact along a run, each step of which goes on from a world of that run.
use Rattle.std.proofs.Common.{◌≡◌, [], ◌∷◌, ◌++◌, refl, sym, ◌∙◌, subst, append-nil}
use Rattle.tg_base.specs.Clusters.{Header}
use Rattle.tg_kind.specs.Meaning.{Meaning}
use Rattle.tg_model.specs.Kinds.{EventOf}
use Rattle.tg_protocol.specs.Worlds.{World, start, happens, next_event}
use Rattle.tg_protocol.specs.Runs.{Moves, Move, Next, Takes, run}
use Rattle.tg_law_layouts.specs.Moves.After.{after}
use Rattle.tg_law_layouts.specs.Moves.Configs.{Config, config}
use Rattle.tg_law_layouts.proofs.Moves.Moves.{Cases, step_cases}
use Rattle.tg_law_layouts.proofs.Moves.Scripts.{run_both}
use Rattle.tg_law_cells.proofs.Entries.Lists.{joined}

module _ (m : Meaning) (h : Header) (zs : Moves m) (P : Config m → Type 0)
    (steps : (xs : Moves m) (e : EventOf m) (ys : Moves m) → zs ≡ xs ++ Takes e ∷ ys → P (config m (after m h xs)) → Cases m (config m (after m h xs)) P) where
  then_takes : (xs : Moves m) (e : EventOf m) → after m h (xs ++ Takes e ∷ []) ≡ happens m (after m h xs) e
  unfolding run
  then_takes xs e = run_both m xs (Takes e ∷ []) (start m h)

  then_next : (xs : Moves m) → after m h (xs ++ Next ∷ []) ≡ next_event m (after m h xs)
  unfolding run
  then_next xs = run_both m xs (Next ∷ []) (start m h)

  shifts : (xs : Moves m) (x : Move m) (ys : Moves m) → zs ≡ xs ++ x ∷ ys → zs ≡ (xs ++ x ∷ []) ++ ys
  shifts xs x ys e = e ∙ sym (joined xs (x ∷ []) ys)

  goes_on : (xs ms ys : Moves m) → zs ≡ xs ++ (ms ++ ys) → P (config m (after m h xs)) → P (config m (after m h (xs ++ ms)))
  goes_on xs [] ys e a = subst (λ (us : Moves m). P (config m (after m h us))) (sym (append-nil xs)) a
  goes_on xs (Next ∷ ms) ys e a =
      subst (λ (us : Moves m). P (config m (after m h us))) (joined xs (Next ∷ []) ms)
      (goes_on (xs ++ Next ∷ []) ms ys (shifts xs Next (ms ++ ys) e) (subst (λ (u : World m). P (config m u)) (sym (then_next xs)) a))
  goes_on xs (Takes x ∷ ms) ys e a =
      subst (λ (us : Moves m). P (config m (after m h us))) (joined xs (Takes x ∷ []) ms)
      (goes_on (xs ++ Takes x ∷ []) ms ys (shifts xs (Takes x) (ms ++ ys) e) (subst (λ (u : World m). P (config m u)) (sym (then_takes xs x)) (step_cases m (after m h xs) P (steps xs x (ms ++ ys) e a) x)))

  at_first : after m h [] ≡ start m h
  unfolding run
  at_first = refl

  pub along : P (config m (start m h)) → (xs ys : Moves m) → zs ≡ xs ++ ys → P (config m (after m h xs))
  along a xs ys e = goes_on [] xs ys e (subst (λ (u : World m). P (config m u)) (sym at_first) a)
