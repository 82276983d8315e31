use Rattle.tg_audit_run.proofs.Promises.{told_read}
use Rattle.tg_audit_run.proofs.judging.read_and_tell.Goals as goal

pub returns-in-Ok-clause-written : goal.returns-in-Ok-clause-written
returns-in-Ok-clause-written g c =
    told_read (g.S.Source.left c.args.source.now) (g.K.Sink.written c.args.sink.now) (g.K.Sink.written c.tell.new.sink) c.tell.result c.in-Ok.text c.as_slice.result.now
    c.as_slice.ensures c.in-Ok.ensures.read c.tell.ensures.written
