use Rattle.std.proofs.Common.{◌≤◌, sym, subst, arith}
use Rattle.tg_protocol.specs.Views.{Entries, play}
use Rattle.tg_play.specs.Kept.{Kept}
use Rattle.tg_play.specs.Relations.{KeepsView, PlayedOn}
use Rattle.tg_play.proofs.Means.{means}
use Rattle.tg_play.proofs.Playing.{before_keeps, on_keeps}
use Rattle.tg_play.proofs.view.View.play.Goals as goal

pub returns-then-upto-from-clause-view : goal.returns-then-upto-from-clause-view
returns-then-upto-from-clause-view g c = λ v k. (before_keeps (means g.K.Kind g.K.Registry) v c.args.entries.now c.args.upto c.end-from.result c.args.self c.end-from.ensures c.if-upto-from.true k).view

pub returns-then-upto-from-clause-came : goal.returns-then-upto-from-clause-came
returns-then-upto-from-clause-came g c = λ v k. (before_keeps (means g.K.Kind g.K.Registry) v c.args.entries.now c.args.upto c.end-from.result c.args.self c.end-from.ensures c.if-upto-from.true k).came

pub returns-clause-view : goal.returns-clause-view
returns-clause-view g c = λ v k.
    let le : c.end-from.result ≤ c.args.upto = omega arith in
    (subst (λ (es : Entries). PlayedOn (means g.K.Kind g.K.Registry) c.play_on.new.self c.in_ok-came.came (play (means g.K.Kind g.K.Registry) v es c.args.upto)) c.as_slice-entries.ensures.entries
    (on_keeps (means g.K.Kind g.K.Registry) v c.as_slice-entries.result.now c.args.upto c.end-from.result c.args.self c.play_on.new.self c.in_ok-came.came c.end-from.ensures le k (c.in_ok-came.ensures.played v (subst (λ (x : Kept g.row.K.Denot). KeepsView (means g.K.Kind g.K.Registry) x v) (sym c.self.view_is) k)))).view

pub returns-clause-came : goal.returns-clause-came
returns-clause-came g c = λ v k.
    let le : c.end-from.result ≤ c.args.upto = omega arith in
    (subst (λ (es : Entries). PlayedOn (means g.K.Kind g.K.Registry) c.play_on.new.self c.in_ok-came.came (play (means g.K.Kind g.K.Registry) v es c.args.upto)) c.as_slice-entries.ensures.entries
    (on_keeps (means g.K.Kind g.K.Registry) v c.as_slice-entries.result.now c.args.upto c.end-from.result c.args.self c.play_on.new.self c.in_ok-came.came c.end-from.ensures le k (c.in_ok-came.ensures.played v (subst (λ (x : Kept g.row.K.Denot). KeepsView (means g.K.Kind g.K.Registry) x v) (sym c.self.view_is) k)))).came

pub invariant_of-result : goal.invariant_of-result
invariant_of-result g c = c.in_ok-came.ensures.lawful c.self.invariant
