use Rattle.tg_bench.specs.Loads.{load}
use Rattle.tg_bench.proofs.Scripts.{load_lawful, load_tells}
use Rattle.tg_bench.proofs.Promises.{completes, limits}
use Rattle.tg_bench.proofs.loading.bench.Goals as goal

pub returns-clause-load : goal.returns-clause-load
returns-clause-load g c = (load_lawful c.args.start c.args.count, load_tells c.args.start c.args.count)

pub returns-clause-complete : goal.returns-clause-complete
returns-clause-complete g c = λ calm.
    let r = c.run_and_write in
    completes (load c.args.start c.args.count) (g.K.Sink.written c.args.sink.now) (g.K.Sink.written r.new.sink) r.result r.ensures.written (λ e. calm (r.ensures.write_fault e))

pub returns-clause-limits : goal.returns-clause-limits
returns-clause-limits g c = λ calm which.
    let r = c.run_and_write in
    limits (load c.args.start c.args.count) (g.K.Sink.written c.args.sink.now) (g.K.Sink.written r.new.sink) r.result which r.ensures.written (λ e. calm (r.ensures.write_fault e))
