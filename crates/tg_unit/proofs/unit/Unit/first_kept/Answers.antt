use Rattle.std.proofs.Common.{◌∙◌, sym, ap, arith}
use Rattle.tg_protocol.specs.Units.{UnitState}
use Rattle.tg_unit.proofs.Gaps.{all-low, skip-to, skip-past, gap-none}
use Rattle.tg_unit.proofs.unit.Unit.first_kept.Goals as goal

pub returns-then-hi-low : goal.returns-then-hi-low
returns-then-hi-low c =
    let low = ap (λ (u : UnitState). u.low) c.self.view_is in
    all-low c.args.hi c.args.self.now c.args.step c.args.hi c.args.lo c.requires (omega (arith, low)) (omega arith)

pub returns-then-past-eq0 : goal.returns-then-past-eq0
returns-then-past-eq0 c =
    let low = ap (λ (u : UnitState). u.low) c.self.view_is in (
      omega (arith, low),
      skip-to c.args.self.now c.args.step c.args.hi c.args.lo c.self.inside.low (sym low) c.requires (omega arith) (omega arith) c.if-past-eq0.true,
    )

pub returns-then-hi-low-2 : goal.returns-then-hi-low-2
returns-then-hi-low-2 c =
    let low = ap (λ (u : UnitState). u.low) c.self.view_is in
    sym (skip-past c.args.self.now c.args.step c.args.hi c.args.lo c.self.inside.low (sym low) c.requires (omega arith) (omega arith) (omega arith))
    ∙ gap-none c.args.self.now c.args.step c.args.hi _ c.requires (omega arith)

pub returns : goal.returns
returns c =
    let low = ap (λ (u : UnitState). u.low) c.self.view_is in (
      omega (arith, low),
      skip-past c.args.self.now c.args.step c.args.hi c.args.lo c.self.inside.low (sym low) c.requires (omega arith) (omega arith) (omega arith),
    )
