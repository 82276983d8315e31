use Rattle.tg_gen.specs.Loads.{load_text}
use Rattle.tg_bench.specs.Loads.{load}
use Rattle.tg_bench.proofs.Scripts.{load_lawful, load_tells}
use Rattle.tg_bench.proofs.Promises.{has_run, written_none}
use Rattle.tg_bench.proofs.loading.run_and_write.Goals as goal

pub returns-in-Ok-clause-written : goal.returns-in-Ok-clause-written
returns-in-Ok-clause-written g c =
    let start = c.args.start in
    let count = c.args.count in
    c.report.ensures.written (load start count) (load_text start count) (load_lawful start count) (load_tells start count) c.in-Ok.ensures.finished

pub returns-in-Err-NoMemory-clause-written : goal.returns-in-Err-NoMemory-clause-written
returns-in-Err-NoMemory-clause-written g c = written_none (load c.args.start c.args.count) (g.K.Sink.written c.args.sink.now)

pub report-requires : goal.report-requires
report-requires g c =
    let start = c.args.start in
    let count = c.args.count in
    has_run (load start count) (load_text start count) c.in-Ok.finish.end c.in-Ok.finish.run (load_lawful start count) (load_tells start count) c.in-Ok.ensures.finished
