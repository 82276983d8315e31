use Rattle.std.proofs.Common.{sym, ◌∙◌, arith}
use Rattle.tg_audit.specs.Judging.{passes, holds_still}
use Rattle.tg_audit.proofs.Lists.{all_next, all_here}
use Rattle.tg_audit.proofs.Means.{means}
use Rattle.tg_audit.proofs.run.Run.all_hold.Goals as goal

pub bounds-trace-place : goal.bounds-trace-place
bounds-trace-place g c = omega (arith, c.window-window.ensures.within, c.loop-place-test.true)

pub loop-place-init : goal.loop-place-init
loop-place-init g c = c.window-window.ensures.front (holds_still (means g.K.Kind g.K.Registry) g.K.Judged.same_answers c.args.self.now.objects.now c.args.self.now.history.now c.args.at)

pub returns-then-not-branch : goal.returns-then-not-branch
returns-then-not-branch g c =
    all_here (passes (means g.K.Kind g.K.Registry) c.args.client c.args.tx (holds_still (means g.K.Kind g.K.Registry) g.K.Judged.same_answers c.args.self.now.objects.now c.args.self.now.history.now c.args.at))
    c.args.self.now.trace.now c.loop-place.place c.index-trace-place.result _ (omega (arith, c.window-window.ensures.within, c.loop-place-test.true)) c.index-trace-place.is (sym c.in_ok-passes.ensures ∙ c.if-not-branch.true) c.loop-place.invariant

pub loop-place-preserved : goal.loop-place-preserved
loop-place-preserved g c =
    all_next (passes (means g.K.Kind g.K.Registry) c.args.client c.args.tx (holds_still (means g.K.Kind g.K.Registry) g.K.Judged.same_answers c.args.self.now.objects.now c.args.self.now.history.now c.args.at))
    c.args.self.now.trace.now c.loop-place.place c.index-trace-place.result _ (omega (arith, c.window-window.ensures.within, c.loop-place-test.true)) c.index-trace-place.is (sym c.in_ok-passes.ensures ∙ c.if-not-branch.false) c.loop-place.invariant

pub returns : goal.returns
returns g c =
    c.window-window.ensures.back (holds_still (means g.K.Kind g.K.Registry) g.K.Judged.same_answers c.args.self.now.objects.now c.args.self.now.history.now c.args.at) c.loop-place.place c.loop-place-test.false
    ∙ c.loop-place.invariant
