use Rattle.std.proofs.Common.{◌∙◌, Option, None, ◌≡◌, subst}
use Rattle.std.specs.Prelude.{IsSome}
use Rattle.std.proofs.lemmas.Bool.{false≢true}
use Rattle.tg_unit.proofs.Drops.{drops-segment, from-first}
use Rattle.tg_unit.proofs.cells.drop_segments.Goals as goal

not-none : {X : Type 0} (o : Option X) → IsSome o → o ≡ None → ⊥
not-none o some none = false≢true (subst IsSome none some)

pub loop-first-preserved-else-first-num : goal.loop-first-preserved-else-first-num
loop-first-preserved-else-first-num c =
    let dropped =
    drops-segment c.loop-first.segments.entries c.pop_first.new.self.entries c.pop_first.result c.in-Some.first.now c.args.num c.in-Some.field-0-1.now c.in-Some.ensures.first
    c.if-first-num.false c.pop_first.ensures.removal c.pop_first.ensures.unchanged (λ lt. not-none c.pop_first.result (c.pop_first.ensures.variant.1 lt)) c.loop-first.invariant.whole in
    record { whole = dropped.whole; kept = λ j. dropped.kept j ∙ c.loop-first.invariant.kept j }

pub returns-then-first-num-clause-whole : goal.returns-then-first-num-clause-whole
returns-then-first-num-clause-whole c =
    from-first c.loop-first.segments.entries c.in-Some.first.now c.args.num c.in-Some.field-0-1.now c.in-Some.ensures.first c.if-first-num.true c.loop-first.invariant.whole
