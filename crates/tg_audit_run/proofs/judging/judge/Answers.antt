use Rattle.tg_audit_run.proofs.Promises.{undisturbed, complete_told, refuses_told}
use Rattle.tg_audit_run.proofs.judging.judge.Goals as goal

pub returns-clause-complete : goal.returns-clause-complete
returns-clause-complete g c = λ no_read no_write.
    let r = c.read_and_tell in
    complete_told (g.S.Source.left c.args.source.now) (g.K.Sink.written c.args.sink.now) (g.K.Sink.written r.new.sink) r.result r.ensures.written
    (undisturbed r.result _ _ _ _ r.ensures.read_fault r.ensures.write_fault no_read no_write)

pub returns-clause-refuses : goal.returns-clause-refuses
returns-clause-refuses g c = λ no_read no_write.
    let r = c.read_and_tell in
    refuses_told (g.S.Source.left c.args.source.now) (g.K.Sink.written c.args.sink.now) (g.K.Sink.written r.new.sink) r.result r.ensures.written
    (undisturbed r.result _ _ _ _ r.ensures.read_fault r.ensures.write_fault no_read no_write)
