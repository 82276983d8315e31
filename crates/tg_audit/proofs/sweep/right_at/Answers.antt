use Rattle.std.proofs.Common.{ap, sym, ◌∙◌, arith, rules}
use Rattle.tg_audit.proofs.Means.{means}
use Rattle.tg_audit.proofs.Sweeping.{fresh_sweep, right_here, right_next}
use Rattle.tg_audit.proofs.sweep.right_at.Goals as goal

pub loop-before-init : goal.loop-before-init
loop-before-init g c = (fresh_sweep (means g.K.Kind g.K.Registry) c.args.objects.now c.args.history.now _ c.in_ok-state.state c.in_ok-state.ensures, search rules)

pub loop-before-preserved : goal.loop-before-preserved
loop-before-preserved g c = (
  c.in_ok-later.ensures.sweep,
  right_next (means g.K.Kind g.K.Registry) g.K.Judged.same_answers c.args.objects.now c.args.history.now c.args.trace.now c.loop-before.right c.note_right.new.right _ _ c.is_same_answer.result c.loop-before.invariant.1 c.in_ok-note_right.ensures
      (λ e. right_here (means g.K.Kind g.K.Registry) g.K.Judged.same_answers c.args.objects.now c.args.history.now c.args.trace.now _ _ c.in_ok-later.later c.in_ok-later.most _ c.index-trace-place.result c.in-Asked.ask _ c.in-Asked.ans
      (c.requires.rise c.if-not-rise.false) c.in_ok-later.ensures (omega arith) c.index-trace-place.is c.in-Asked.is
      (ap (g.K.Judged.same_answers c.in-Asked.ans) (sym c.in_ok-answer.ensures) ∙ sym c.is_same_answer.ensures ∙ e)),
)
