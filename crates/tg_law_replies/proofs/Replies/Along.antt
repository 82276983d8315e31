-- What holds of each world that a run comes through.
use Rattle.std.proofs.Common.{◌≡◌, List, [], ◌∷◌, ◌++◌, refl, sym, ap, ◌∙◌, subst}
use Rattle.tg_base.specs.Clusters.{Header}
use Rattle.tg_kind.specs.Meaning.{Meaning}
use Rattle.tg_protocol.specs.Worlds.{World, start, happens, next_event}
use Rattle.tg_protocol.specs.Runs.{Move, Moves, Next, Takes, run}

pub with_none : {X : Type 0} → (xs : List X) → xs ++ [] ≡ xs
with_none [] = refl
with_none (x ∷ xs) = ap (λ ys. x ∷ ys) (with_none xs)

pub one_by_one : {X : Type 0} → (xs : List X) (y : X) (ys : List X) → xs ++ y ∷ ys ≡ (xs ++ y ∷ []) ++ ys
one_by_one [] y ys = refl
one_by_one (x ∷ xs) y ys = ap (λ zs. x ∷ zs) (one_by_one xs y ys)

module _ (m : Meaning) where
  abbrev pub moved_by : Move m → World m → World m
  moved_by Next w = next_event m w
  moved_by (Takes e) w = happens m w e

  pub run_on : (ms : Moves m) (x : Move m) (w : World m) → run m (ms ++ x ∷ []) w ≡ moved_by x (run m ms w)
  unfolding run
  run_on [] Next w = refl
  run_on [] (Takes e) w = refl
  run_on (Next ∷ ms) x w = run_on ms x (next_event m w)
  run_on (Takes e ∷ ms) x w = run_on ms x (happens m w e)

  module _ (Q : World m → Type 0) where
    -- in a world, and in each that these moves make of it
    abbrev pub Along : Moves m → World m → Type 0
    Along [] w = Q w
    Along (x ∷ ms) w = Q w × Along ms (moved_by x w)

    pub passed : (before after : Moves m) (w : World m) → Along (before ++ after) w → Q (run m before w)
    unfolding run
    passed [] [] w h = h
    passed [] (x ∷ after) w h = h.0
    passed (Next ∷ before) after w h = passed before after (next_event m w) h.1
    passed (Takes e ∷ before) after w h = passed before after (happens m w e) h.1

    pub at_end : (ms : Moves m) (w : World m) → Along ms w → Q (run m ms w)
    unfolding run
    at_end [] w h = h
    at_end (Next ∷ ms) w h = at_end ms (next_event m w) h.1
    at_end (Takes e ∷ ms) w h = at_end ms (happens m w e) h.1

    longer : (ms : Moves m) (x : Move m) (w : World m) → Along ms w → Q (moved_by x (run m ms w)) → Along (ms ++ x ∷ []) w
    unfolding run
    longer [] x w h q = (h, q)
    longer (Next ∷ ms) x w h q = (h.0, longer ms x (next_event m w) h.1 q)
    longer (Takes e ∷ ms) x w h q = (h.0, longer ms x (happens m w e) h.1 q)

    module _ (h : Header) (ms : Moves m) (first : Q (start m h))
        (next : (before after : Moves m) (x : Move m) → ms ≡ before ++ x ∷ after → Along before (start m h) → Q (moved_by x (run m before (start m h)))) where
      along_from : (before after : Moves m) → ms ≡ before ++ after → Along before (start m h) → Along ms (start m h)
      along_from before [] split k = subst (λ (xs : Moves m). Along xs (start m h)) (sym (split ∙ with_none before)) k
      along_from before (x ∷ after) split k =
          along_from (before ++ x ∷ []) after (split ∙ one_by_one before x after) (longer before x (start m h) k (next before after x split k))

      -- what holds at the start, and of each move after such worlds, holds all along a run
      pub along : Along ms (start m h)
      along = along_from [] ms refl first
