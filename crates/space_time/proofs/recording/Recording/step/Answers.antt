use Rattle.std.proofs.Common.{◌≡◌, ◌++◌, ◌∷◌, [], ℕ, refl, subst}
use Rattle.tg_world.proofs.Numbering.{event_same}
use Rattle.tg_any.specs.AllKinds.{all_kinds}
use Rattle.space_time.specs.Records.{step_of}
use Rattle.space_time.proofs.Moving.{stepped, as_step}
use Rattle.space_time.proofs.recording.Recording.step.Goals as goal

pub step-requires-clause-kept : goal.step-requires-clause-kept
step-requires-clause-kept c = record { world = _; keeps = c.requires.recorded.world }

pub returns-clause-step : goal.returns-clause-step
returns-clause-step c =
    let pushed = c.in_ok-push.ensures.ok in
    let before = c.steps.view_is in
    let steps : c.push.new.self ≡ c.args.self.steps ++ c.step_after.result ∷ [] = cc in
    let events = event_same all_kinds c.args.self.run.world c.in_ok-world.world c.args.event _ c.requires.recorded.world (c.in_ok-world.ensures.keeps _ c.requires.recorded.world) in
    stepped c.args.self _ c.args.event c.step_after.result c.requires.recorded refl events steps (λ w k. c.in_ok-world.ensures.keeps w k)
    (λ w k.
    subst (λ (n : ℕ). c.step_after.result ≡ step_of n c.args.event w) c.event-line.ensures
    (as_step c.event-line.result c.happening_of-happening.result c.args.event w c.step_after.result (c.step_after.ensures w k) c.happening_of-happening.ensures))
