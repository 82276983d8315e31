use Rattle.std.proofs.Common.{◌+◌, inl, inr, refl, subst}
use Rattle.tg_io.specs.declared.status.Status.TheVariants as status
use Rattle.tg_node.specs.Stages.{IsWritten, seen}
use Rattle.tg_node.specs.declared.stages.Next.{Next}
use Rattle.tg_node.specs.declared.stages.Next.TheVariants.{Ends}
use Rattle.tg_node.proofs.Following.{line_follows, line_cut}
use Rattle.tg_node.proofs.Ending.{line_writes, line_link, line_none, written_next, failed}
use Rattle.tg_node.proofs.follow.follow_asked.Goals as goal

pub write-requires : goal.write-requires
write-requires g c = c.in-Ok.ensures.took.takes.sound

pub returns-in-Ok-clause-follows : goal.returns-in-Ok-clause-follows
returns-in-Ok-clause-follows g c = λ text before line more is f.
    line_follows text before (seen (g.L.Link.sent c.args.link.now) (g.L.Link.handed c.args.link.now) (g.L.Link.acts c.args.link.now) (g.K.Sink.written c.args.sink.now)) c.args.run line more c.args.asked (c.args.run.lines + 1) c.in-Ok.moved (g.L.Link.sent c.follow.new.link)
    (g.L.Link.handed c.follow.new.link) (g.L.Link.acts c.follow.new.link) f is refl c.in-Ok.ensures.took (g.K.Sink.written c.write.new.sink) c.write.result c.write.ensures.written

pub returns-in-Ok-clause-causes : goal.returns-in-Ok-clause-causes
returns-in-Ok-clause-causes g c =
    line_writes (g.K.Sink.faults c.args.sink.now) (g.K.Sink.faults c.write.new.sink) (g.L.Link.faults c.args.link.now) (g.L.Link.faults c.follow.new.link) c.write.result c.write.ensures.ways c.write.ensures.write_fault
    (λ e. let no : IsWritten c.args.run.id c.args.run.cluster (c.args.run.lines + 1) c.in-Ok.moved (g.K.Sink.written c.args.sink.now) (g.K.Sink.written c.write.new.sink) (Ends status.LinkFault) =
    subst (λ (x : Next). IsWritten c.args.run.id c.args.run.cluster (c.args.run.lines + 1) c.in-Ok.moved (g.K.Sink.written c.args.sink.now) (g.K.Sink.written c.write.new.sink) x) e c.write.ensures.written in
    no) c.write.ensures.later c.write.ensures.still c.in-Ok.ensures.still

pub returns-in-Err-Failed-clause-follows : goal.returns-in-Err-Failed-clause-follows
returns-in-Err-Failed-clause-follows g c = λ text before line more is f.
    line_cut text before (seen (g.L.Link.sent c.args.link.now) (g.L.Link.handed c.args.link.now) (g.L.Link.acts c.args.link.now) (g.K.Sink.written c.args.sink.now)) c.args.run line more c.args.asked (c.args.run.lines + 1) (g.L.Link.sent c.follow.new.link) (g.L.Link.handed c.follow.new.link)
    (g.L.Link.acts c.follow.new.link) f is refl c.in-Err-Failed.ensures.breaks

pub returns-in-Err-Failed-clause-causes : goal.returns-in-Err-Failed-clause-causes
returns-in-Err-Failed-clause-causes g c =
    line_link (g.K.Sink.faults c.args.sink.now) (g.L.Link.faults c.args.link.now) (g.L.Link.faults c.follow.new.link) c.in-Err-Failed.ensures.cause.later (c.in-Err-Failed.ensures.cause.failed (failed c.in-Err-Failed.field-0 c.in-Err-Failed.field-0-is))

pub returns-clause-follows : goal.returns-clause-follows
returns-clause-follows g c = λ text before line more is f.
    inr (inl (line_cut text before (seen (g.L.Link.sent c.args.link.now) (g.L.Link.handed c.args.link.now) (g.L.Link.acts c.args.link.now) (g.K.Sink.written c.args.sink.now)) c.args.run line more c.args.asked (c.args.run.lines + 1) (g.L.Link.sent c.follow.new.link) (g.L.Link.handed c.follow.new.link)
    (g.L.Link.acts c.follow.new.link) f is refl c.in-Err-NoMemory.ensures.breaks))

pub returns-clause-causes : goal.returns-clause-causes
returns-clause-causes g c = line_none (g.K.Sink.faults c.args.sink.now) (g.L.Link.faults c.args.link.now) (g.L.Link.faults c.follow.new.link) c.in-Err-NoMemory.ensures.cause.later

pub returns-in-Ok-clause-next : goal.returns-in-Ok-clause-next
returns-in-Ok-clause-next g c =
    written_next c.args.run.id c.args.run.cluster (c.args.run.lines + 1) c.args.run.lines c.in-Ok.moved (g.K.Sink.written c.args.sink.now) (g.K.Sink.written c.write.new.sink) c.write.result refl c.write.ensures.written
