-- A run of which no test fails: what is claimed holds of each of its steps, and of the world after each of its lines.
use Rattle.std.proofs.Common.{◌≡◌, ℕ, List, [], ◌∷◌, ◌++◌, Bool, true, false, refl}
use Rattle.std.specs.Prelude.{◌+◌}
use Rattle.tg_protocol.specs.Headline.{Holds}
use Rattle.tg_protocol.specs.Holding.{LogStays}
use Rattle.tg_protocol.specs.Playing.{PlaysOn}
use Rattle.tg_protocol.specs.Causes.{RefusalsTrue, CausesRefuse, UnsureTrue, NonesTrue, RefusalsKeep}
use Rattle.tg_protocol.specs.Stuck.{StuckTrue}
use Rattle.tg_protocol.specs.Worlds.{Line, next_event, happens}
use Rattle.tg_law_examples.proofs.SevenKinds.{kinds}
use Rattle.tg_law_instances.proofs.Tests.{Claim, Stands, Falls, GivesUp, ReadsOn, SyncsExact, CausesRefuse as Refuse, CausesTrue, NonesTrue as Nones, RefusalsKeep as Keep, StuckTrue as Stuck, LogStays as Stay, W, E, fails, world_fails}
use Rattle.tg_law_instances.proofs.StepTests.{each_client, stands_ok, falls_ok, gives_up_ok, reads_on_ok, exact_ok, refuse_ok, causes_ok, nones_ok, keeps_ok, stuck_ok, step_fails, steps_fail, line_ev, all_of, log_stays, settles_fail, run_fails}
use Rattle.tg_law_instances.proofs.Sound.{stays_sound}
use Rattle.tg_law_instances.proofs.HeadlineSound.{AllPass, none_fail, holds_sound}
use Rattle.tg_law_instances.proofs.LogSound.{LogHolds, log_sound}
use Rattle.tg_law_instances.proofs.PlaySound.{ExactIn, plays_sound, exact_sound, nones_sound, unsure_sound}
use Rattle.tg_law_instances.proofs.CauseSound.{refuse_sound, stuck_sound, causes_sound}
use Rattle.tg_law_instances.proofs.KeepSound.{keeps_sound}

-- what is claimed of one step; syncs are exact in the world after it
pub record StepHolds (w : W) (e : E) : Type 0 where
  pub playing_on : PlaysOn kinds w e
  pub exact_syncs : ExactIn w e (happens kinds w e)
  pub refusals : RefusalsTrue kinds w e
  pub refuse : CausesRefuse kinds w e
  pub unsure : UnsureTrue kinds w e
  pub nones : NonesTrue kinds w e
  pub keep : RefusalsKeep kinds w e
  pub rescues_stuck : StuckTrue kinds w e

pub step_sound : (w : W) (e : E) → step_fails w e (happens kinds w e) ≡ [] → StepHolds w e
unfolding step_fails AllPass
step_sound w e h =
    let v = happens kinds w e in
    let a0 = none_fail ((Stands, stands_ok w v) ∷ (Falls, each_client w (falls_ok w v)) ∷ (GivesUp, each_client v (gives_up_ok v)) ∷ (ReadsOn, each_client v (reads_on_ok w v))
    ∷ (SyncsExact, each_client w (exact_ok w e v)) ∷ (Refuse, refuse_ok w v e) ∷ (CausesTrue, causes_ok w e v) ∷ (Nones, nones_ok w v) ∷ (Keep, keeps_ok w e v) ∷ (Stuck, stuck_ok w v) ∷ []) h in
    let a1 = a0.1 in let a2 = a1.1 in let a3 = a2.1 in let a4 = a3.1 in let a5 = a4.1 in let a6 = a5.1 in let a7 = a6.1 in let a8 = a7.1 in let a9 = a8.1 in
    record {
      playing_on = plays_sound w e a0.0 a1.0 a2.0 a3.0;
      exact_syncs = exact_sound w e v a4.0;
      refusals = causes_sound w e a6.0;
      refuse = refuse_sound w e a5.0;
      unsure = unsure_sound w e a6.0;
      nones = nones_sound w e a7.0;
      keep = keeps_sound w e a8.0;
      rescues_stuck = stuck_sound w e a9.0;
    }

unfoldable pub StepsHold : List E → W → Type 0
StepsHold [] w = Unit {0}
StepsHold (e ∷ es) w = StepHolds w e × StepsHold es (happens kinds w e)

both_none : {X : Type 0} → (xs ys : List X) → xs ++ ys ≡ [] → (xs ≡ []) × (ys ≡ [])
both_none [] ys e = (refl, e)
both_none (x ∷ xs) ys e = absurd cc

pub steps_sound : (es : List E) (w : W) → steps_fail es w ≡ [] → StepsHold es w
unfolding StepsHold
steps_sound [] w h = tt
steps_sound (e ∷ es) w h =
    let v = happens kinds w e in
    let b = both_none (step_fails w e v) (steps_fail es v) h in
    (step_sound w e b.0, steps_sound es v b.1)

-- what is claimed of a line: of its steps, and of the world after them
pub record LineHolds (x : Line kinds) (w : W) : Type 0 where
  pub steps : StepsHold (line_ev w x) w
  pub holds : Holds kinds (all_of (line_ev w x) w)
  pub log : LogHolds (all_of (line_ev w x) w)
  pub stays : LogStays kinds w (all_of (line_ev w x) w)

unfoldable pub LinesHold : List (Line kinds) → W → Type 0
LinesHold [] w = Unit {0}
LinesHold (x ∷ xs) w = LineHolds x (next_event kinds w) × LinesHold xs (all_of (line_ev (next_event kinds w) x) (next_event kinds w))

abbrev with_failures : ℕ → List Claim → List (ℕ × List Claim) → List (ℕ × List Claim)
with_failures n f rest = elim f as (λ _. List (ℕ × List Claim)) [ [] ↦ rest | y ∷ ys ↦ (n, y ∷ ys) ∷ rest ]

no_failure : (n : ℕ) (f : List Claim) (rest : List (ℕ × List Claim)) → with_failures n f rest ≡ [] → (f ≡ []) × (rest ≡ [])
no_failure n [] rest e = (refl, e)
no_failure n (y ∷ ys) rest e = absurd cc

line_sound : (x : Line kinds) (w : W) → (steps_fail (line_ev w x) w ++ world_fails (all_of (line_ev w x) w) ++ fails Stay (log_stays w (all_of (line_ev w x) w)) ++ settles_fail w x (all_of (line_ev w x) w)) ≡ [] → LineHolds x w
line_sound x w h =
    let v = all_of (line_ev w x) w in
    let a = both_none (steps_fail (line_ev w x) w ++ world_fails v ++ fails Stay (log_stays w v)) (settles_fail w x v) h in
    let b = both_none (steps_fail (line_ev w x) w ++ world_fails v) (fails Stay (log_stays w v)) a.0 in
    let c = both_none (steps_fail (line_ev w x) w) (world_fails v) b.0 in
    record { steps = steps_sound (line_ev w x) w c.0; holds = holds_sound v c.1; log = log_sound v c.1; stays = stays_sound w v (stay_passed (log_stays w v) b.1) }
  where
    stay_passed : (b : Bool) → fails Stay b ≡ [] → b ≡ true
    stay_passed true e = refl
    stay_passed false e = absurd cc

pub run_sound : (n : ℕ) (xs : List (Line kinds)) (w : W) → run_fails n xs w ≡ [] → LinesHold xs w
unfolding run_fails LinesHold
run_sound n [] w h = tt
run_sound n (x ∷ xs) w h =
    let w1 = next_event kinds w in
    let v = all_of (line_ev w1 x) w1 in
    let b = no_failure n (steps_fail (line_ev w1 x) w1 ++ world_fails v ++ fails Stay (log_stays w1 v) ++ settles_fail w1 x v) (run_fails (n + 1) xs v) h in
    (line_sound x w1 b.0, run_sound (n + 1) xs v b.1)
