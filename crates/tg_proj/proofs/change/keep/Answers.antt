use Rattle.std.proofs.Common.{◌≡◌, ℕ, ◌+◌, get_or, sym, subst, ap, ◌∙◌}
use Rattle.tg_base.specs.Units.{has}
use Rattle.tg_proj.proofs.Chains.{KeptSoFar, KeptSoFar-yes, KeptSoFar-no}
use Rattle.tg_proj.proofs.change.keep.Goals.{then-not-contains, else-not-contains}
use Rattle.tg_proj.proofs.change.keep.Goals as goal

told : (c : goal.Joined-not-contains) → c.contains.result ≡ has c.args.drop.now (get_or c.as_slice-unit-items.result.now c.loop-unit.unit-index 0)
told c = c.contains.ensures.value ∙ ap (λ xs. has xs (get_or c.as_slice-unit-items.result.now c.loop-unit.unit-index 0)) c.as_slice.ensures

pub loop-unit-preserved : goal.loop-unit-preserved
loop-unit-preserved c =
    let i : ℕ = c.loop-unit.unit-index in
    let chain = c.as_slice-unit-items.result.now in
    let so_far = KeptSoFar c.args.drop.now chain (i + 1) in
    elim c.if-not-contains.branch as (λ w. so_far c.if-not-contains.units.items) [
      | then-not-contains w ↦
          subst so_far (sym (ap (λ v. v.items) w.units-is ∙ w.push.ensures.items))
          (KeptSoFar-yes c.args.drop.now chain i c.loop-unit.units.items 0 c.loop-unit.invariant c.loop-unit-test.true (sym (told c) ∙ w.if-not-contains.true))
      | else-not-contains w ↦
          subst so_far (sym (ap (λ v. v.items) w.units-is))
          (KeptSoFar-no c.args.drop.now chain i c.loop-unit.units.items 0 c.loop-unit.invariant c.loop-unit-test.true (sym (told c) ∙ w.if-not-contains.false))
    ]
