use Rattle.tg_replay.proofs.Promises.{finish_told}
use Rattle.tg_replay.proofs.writing.read_and_write.Goals as goal

pub returns-in-Ok-clause-written : goal.returns-in-Ok-clause-written
returns-in-Ok-clause-written g c =
    finish_told (g.S.Source.left c.args.source.now) (g.K.Sink.written c.args.sink.now) (g.K.Sink.written c.report.new.sink) c.report.result c.in-Ok.finish c.in-Ok.ensures.finished c.report.ensures.written
