use Rattle.std.proofs.Common.{◌≡◌, ◌+◌, ◌-◌, sym, ◌∙◌, arith}
use Rattle.tg_stream.proofs.Visits.{left-zero, left-none, left-known, left-unknown}
use Rattle.tg_stream.proofs.known.over_known.Goals as goal

pub returns-in-None : goal.returns-in-None
returns-in-None c = λ p n j.
    let one : c.loop-left.left ≡ (c.loop-left.left - 1) + 1 = omega (arith, c.loop-left-test.true) in
    c.loop-left.invariant p n j ∙ left-none p n j c.loop-left.left (c.loop-left.left - 1) c.loop-left.course one (sym c.next_visit.ensures ∙ c.in-None.is)

pub returns-then-not-branch : goal.returns-then-not-branch
returns-then-not-branch c = λ p n j.
    let one : c.loop-left.left ≡ (c.loop-left.left - 1) + 1 = omega (arith, c.loop-left-test.true) in
    c.loop-left.invariant p n j
    ∙ left-unknown p n j c.loop-left.left (c.loop-left.left - 1) c.loop-left.course c.visit_known.new.self c.in-Some.pos one (sym c.next_visit.ensures ∙ c.in-Some.is)
    (sym c.if-not-branch.true ∙ c.in_ok-visit_known-in-Some.ensures.known) c.in_ok-visit_known-in-Some.ensures.course

pub loop-left-preserved : goal.loop-left-preserved
loop-left-preserved c = λ p n j.
    let one : c.loop-left.left ≡ (c.loop-left.left - 1) + 1 = omega (arith, c.loop-left-test.true) in
    c.loop-left.invariant p n j
    ∙ left-known p n j c.loop-left.left (c.loop-left.left - 1) c.loop-left.course c.visit_known.new.self c.in-Some.pos one (sym c.next_visit.ensures ∙ c.in-Some.is)
    (sym c.if-not-branch.false ∙ c.in_ok-visit_known-in-Some.ensures.known) c.in_ok-visit_known-in-Some.ensures.course

pub returns : goal.returns
returns c = λ p n j.
    let none : c.loop-left.left ≡ 0 = omega (arith, c.loop-left-test.false) in
    c.loop-left.invariant p n j ∙ left-zero p n j c.loop-left.left c.loop-left.course none
