use Rattle.std.proofs.Common.{◌≡◌, List, ◌∷◌, Option, Some, None, IfSome, inl, subst, arith}
use Rattle.tg_node.specs.Lines.{IsAsked}
use Rattle.tg_node.specs.declared.asked.Asked.{Asked}
use Rattle.tg_node.specs.Stages.{seen}
use Rattle.tg_node.proofs.Following.{line_refused, cut_here}
use Rattle.tg_node.proofs.Ending.{line_none, line_refuses, refused_next, refused_sound}
use Rattle.tg_node.proofs.follow.follow_line.Goals as goal

pub returns-in-Ok-Some-clause-follows : goal.returns-in-Ok-Some-clause-follows
returns-in-Ok-Some-clause-follows g c = λ text before more f. c.follow_asked.ensures.follows text before c.args.line.now more
    (subst (λ (o : Option Asked). IfSome o (IsAsked c.args.run.cluster c.args.run.id c.args.line.now)) c.in-Ok-Some.field-0-is c.in-Ok-Some.ensures.found) f

pub returns-in-Ok-None-clause-follows : goal.returns-in-Ok-None-clause-follows
returns-in-Ok-None-clause-follows g c = λ text before more f.
    line_refused text before (seen (g.L.Link.sent c.args.link.now) (g.L.Link.handed c.args.link.now) (g.L.Link.acts c.args.link.now) (g.K.Sink.written c.args.sink.now)) c.args.run c.args.line.now more c.refuse.result f
    (λ a is. let e : c.in-Ok-None.field-0 ≡ Some a = c.in-Ok-None.ensures.only a is in let n : c.in-Ok-None.field-0 ≡ None = c.in-Ok-None.field-0-is in absurd cc) c.refuse.ensures

pub returns-in-Ok-None-clause-sound : goal.returns-in-Ok-None-clause-sound
returns-in-Ok-None-clause-sound g c = refused_sound c.args.run.lines c.refuse.result c.refuse.ensures

pub returns-in-Ok-None-clause-causes : goal.returns-in-Ok-None-clause-causes
returns-in-Ok-None-clause-causes g c = line_refuses (g.K.Sink.faults c.args.sink.now) (g.L.Link.faults c.args.link.now) c.args.run.lines c.refuse.result c.refuse.ensures

pub returns-in-Err-clause-follows : goal.returns-in-Err-clause-follows
returns-in-Err-clause-follows g c = λ text before more f.
    inl (cut_here text before (seen (g.L.Link.sent c.args.link.now) (g.L.Link.handed c.args.link.now) (g.L.Link.acts c.args.link.now) (g.K.Sink.written c.args.sink.now)) c.args.run (c.args.line.now ∷ more) f)

pub returns-in-Err-clause-causes : goal.returns-in-Err-clause-causes
returns-in-Err-clause-causes g c = line_none (g.K.Sink.faults c.args.sink.now) (g.L.Link.faults c.args.link.now) (g.L.Link.faults c.args.link.now) (omega arith)

pub returns-in-Ok-None-clause-next : goal.returns-in-Ok-None-clause-next
returns-in-Ok-None-clause-next g c = refused_next c.args.run.lines c.refuse.result c.refuse.ensures
