use Rattle.std.proofs.Common.{ℕ, get_or, refl, ap, ◌∙◌}
use Rattle.tg_audit.specs.Places.{start_of}
use Rattle.tg_audit.proofs.Windows.{windows_next}
use Rattle.tg_audit.proofs.index.index_of.Goals as goal

pub loop-place-preserved : goal.loop-place-preserved
loop-place-preserved c =
    windows_next c.args.keys.now c.loop-place.place c.loop-place.windows c.insert.new.self (get_or c.args.keys.now c.loop-place.place 0) c.start_of-start.result
    refl (c.start_of-start.ensures ∙ ap (λ (w : ℕ × ℕ). start_of w c.loop-place.place) c.find.ensures) c.in_ok-insert.ensures.updates c.loop-place.invariant
