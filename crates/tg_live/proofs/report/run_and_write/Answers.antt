use Rattle.tg_live.specs.Stages.{over}
use Rattle.tg_live.proofs.Promises.{finish_told}
use Rattle.tg_live.specs.Sends.{carried}
use Rattle.tg_live.proofs.Broken.{finished_done}
use Rattle.tg_live.proofs.report.run_and_write.Goals as goal

pub returns-in-Ok-clause-written : goal.returns-in-Ok-clause-written
returns-in-Ok-clause-written g c =
    finish_told (g.S.Source.left c.args.source.now) (g.K.Sink.written c.args.sink.now) (g.K.Sink.written c.report.new.sink)
    (over (g.L.Link.handed c.args.link.now) (g.L.Link.handed c.run_script.new.link) (carried (g.L.Link.sent c.args.link.now) (g.L.Link.acts c.args.link.now)) (carried (g.L.Link.sent c.run_script.new.link) (g.L.Link.acts c.run_script.new.link)))
    c.report.result c.in-Ok.finish c.in-Ok.ensures.finished c.report.ensures.written

pub returns-in-Ok-clause-acts : goal.returns-in-Ok-clause-acts
returns-in-Ok-clause-acts g c =
    finished_done (g.S.Source.left c.args.source.now)
    (over (g.L.Link.handed c.args.link.now) (g.L.Link.handed c.run_script.new.link) (carried (g.L.Link.sent c.args.link.now) (g.L.Link.acts c.args.link.now)) (carried (g.L.Link.sent c.run_script.new.link) (g.L.Link.acts c.run_script.new.link)))
    c.in-Ok.finish c.in-Ok.ensures.finished
