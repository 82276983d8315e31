-- A recording goes on by one move more.
use Rattle.std.specs.Prelude.{◌≡◌, ℕ, suc, ◌+◌, List, [], ◌∷◌, ◌++◌, length, refl}
use Rattle.std.proofs.Common.{sym, ap, subst, ◌∙◌, arith}
use Rattle.tg_base.specs.Clusters.{Header}
use Rattle.tg_model.specs.Kinds.{EventOf}
use Rattle.tg_picture.specs.declared.steps.Happening.{Happening}
use Rattle.tg_picture.specs.declared.steps.Step.{Step}
use Rattle.tg_protocol.specs.Runs.{Next, Takes, run as along}
use Rattle.tg_protocol.specs.Worlds.{start, happens, next_event, trace}
use Rattle.tg_world.specs.Kept.{KeepsWorld}
use Rattle.tg_world.proofs.Numbering.{none_begun}
use Rattle.tg_any.specs.AllKinds.{all_kinds}
use Rattle.tg_replay.specs.Runs.{Worlds}
use Rattle.space_time.specs.declared.recording.Recording.{Recording}
use Rattle.space_time.specs.Records.{Moves, IsRecorded, Begins, StepsTo, step_of, steps_from, lines_of, happening_of}

run_next : (ms : Moves) (w : Worlds) → along all_kinds (ms ++ Next ∷ []) w ≡ next_event all_kinds (along all_kinds ms w)
unfolding along
run_next [] w = refl
run_next (Next ∷ ms) w = run_next ms (next_event all_kinds w)
run_next (Takes e ∷ ms) w = run_next ms (happens all_kinds w e)

run_takes : (ms : Moves) (e : EventOf all_kinds) (w : Worlds) → along all_kinds (ms ++ Takes e ∷ []) w ≡ happens all_kinds (along all_kinds ms w) e
unfolding along
run_takes [] e w = refl
run_takes (Next ∷ ms) e w = run_takes ms e (next_event all_kinds w)
run_takes (Takes d ∷ ms) e w = run_takes ms e (happens all_kinds w d)

lines_next : (ms : Moves) → lines_of (ms ++ Next ∷ []) ≡ suc (lines_of ms)
unfolding lines_of
lines_next [] = refl
lines_next (Next ∷ ms) = ap (λ (n : ℕ). suc n) (lines_next ms)
lines_next (Takes e ∷ ms) = lines_next ms

lines_takes : (ms : Moves) (e : EventOf all_kinds) → lines_of (ms ++ Takes e ∷ []) ≡ lines_of ms
unfolding lines_of
lines_takes [] e = refl
lines_takes (Next ∷ ms) e = ap (λ (n : ℕ). suc n) (lines_takes ms e)
lines_takes (Takes d ∷ ms) e = lines_takes ms e

steps_next : (n : ℕ) (ms : Moves) (w : Worlds) → steps_from n (ms ++ Next ∷ []) w ≡ steps_from n ms w
unfolding steps_from
steps_next n [] w = refl
steps_next n (Next ∷ ms) w = steps_next (suc n) ms (next_event all_kinds w)
steps_next n (Takes e ∷ ms) w = ap (λ (ss : List Step). step_of n e (happens all_kinds w e) ∷ ss) (steps_next n ms (happens all_kinds w e))

steps_takes : (n : ℕ) (ms : Moves) (e : EventOf all_kinds) (w : Worlds)
    → steps_from n (ms ++ Takes e ∷ []) w ≡ steps_from n ms w ++ step_of (lines_of ms + n) e (happens all_kinds (along all_kinds ms w) e) ∷ []
unfolding steps_from lines_of along
steps_takes n [] e w = let same : n ≡ 0 + n = omega arith in ap (λ (k : ℕ). step_of k e (happens all_kinds w e) ∷ []) same
steps_takes n (Next ∷ ms) e w =
    let same : lines_of ms + suc n ≡ suc (lines_of ms) + n = omega arith in
    steps_takes (suc n) ms e (next_event all_kinds w)
    ∙ ap (λ (k : ℕ). steps_from (suc n) ms (next_event all_kinds w) ++ step_of k e (happens all_kinds (along all_kinds ms (next_event all_kinds w)) e) ∷ []) same
steps_takes n (Takes d ∷ ms) e w = ap (λ (ss : List Step). step_of n d (happens all_kinds w d) ∷ ss) (steps_takes n ms e (happens all_kinds w d))

abbrev step_at : ℕ → Happening → Worlds → Step
step_at line h w = record { line = line; happening = h; sent = length w.packets; told = length (trace all_kinds w) }

pub as_step : (line : ℕ) (h : Happening) (e : EventOf all_kinds) (w : Worlds) (s : Step) → s ≡ step_at line h w → h ≡ happening_of e → s ≡ step_of line e w
as_step line h e w s is same = is ∙ ap (λ (x : Happening). step_at line x w) same

-- before the first step
pub opened : (r : Recording) → KeepsWorld all_kinds r.run.world (start all_kinds r.run.cluster) → r.steps ≡ [] → IsRecorded r
unfolding along steps_from lines_of
opened r world steps = record { moves = []; world = world; steps = steps; events = none_begun all_kinds r.run.cluster r.run.world world }

pub begun : (r q : Recording) → IsRecorded r → q.run.cluster ≡ r.run.cluster → q.steps ≡ r.steps → q.run.world.event ≡ r.run.world.event + 1
    → ((w : Worlds) → KeepsWorld all_kinds r.run.world w → KeepsWorld all_kinds q.run.world (next_event all_kinds w)) → Begins r q
begun r q h cluster steps events keeps =
    let before = start all_kinds r.run.cluster in
    record {
      recorded = record {
        moves = h.moves ++ Next ∷ [];
        world = subst (λ (x : Header). KeepsWorld all_kinds q.run.world (along all_kinds (h.moves ++ Next ∷ []) (start all_kinds x))) (sym cluster)
            (subst (λ (w : Worlds). KeepsWorld all_kinds q.run.world w) (sym (run_next h.moves before)) (keeps (along all_kinds h.moves before) h.world));
        steps = steps ∙ h.steps ∙ sym (steps_next 0 h.moves before) ∙ ap (λ (x : Header). steps_from 0 (h.moves ++ Next ∷ []) (start all_kinds x)) (sym cluster);
        events = let a = h.events in let b = lines_next h.moves in omega arith;
      };
      world = keeps;
      cluster = cluster;
      events = events;
    }

pub stepped : (r q : Recording) (e : EventOf all_kinds) (s : Step) → IsRecorded r → q.run.cluster ≡ r.run.cluster → q.run.world.event ≡ r.run.world.event → q.steps ≡ r.steps ++ s ∷ []
    → ((w : Worlds) → KeepsWorld all_kinds r.run.world w → KeepsWorld all_kinds q.run.world (happens all_kinds w e))
    → ((w : Worlds) → KeepsWorld all_kinds q.run.world w → s ≡ step_of r.run.world.event e w) → StepsTo r e q
stepped r q e s h cluster events steps keeps is =
    let before = start all_kinds r.run.cluster in
    let now = happens all_kinds (along all_kinds h.moves before) e in
    let kept = keeps (along all_kinds h.moves before) h.world in
    let line : r.run.world.event ≡ lines_of h.moves + 0 = let a = h.events in omega arith in
    record {
      recorded = record {
        moves = h.moves ++ Takes e ∷ [];
        world = subst (λ (x : Header). KeepsWorld all_kinds q.run.world (along all_kinds (h.moves ++ Takes e ∷ []) (start all_kinds x))) (sym cluster)
            (subst (λ (w : Worlds). KeepsWorld all_kinds q.run.world w) (sym (run_takes h.moves e before)) kept);
        steps = steps ∙ ap (λ (ss : List Step). ss ++ s ∷ []) h.steps ∙ ap (λ (x : Step). steps_from 0 h.moves before ++ x ∷ []) (is now kept ∙ ap (λ (n : ℕ). step_of n e now) line)
            ∙ sym (steps_takes 0 h.moves e before) ∙ ap (λ (x : Header). steps_from 0 (h.moves ++ Takes e ∷ []) (start all_kinds x)) (sym cluster);
        events = events ∙ h.events ∙ sym (lines_takes h.moves e);
      };
      world = keeps;
      cluster = cluster;
      events = events;
    }
