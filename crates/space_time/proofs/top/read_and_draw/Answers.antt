use Rattle.std.specs.Prelude.{[]}
use Rattle.std.proofs.Common.{refl}
use Rattle.tg_io.specs.declared.status.Status.TheVariants.{ReadFault, NoMemory}
use Rattle.space_time.specs.Records.{finish_in}
use Rattle.space_time.proofs.Ending.{ends_so, ends_otherwise, ends_for_memory}
use Rattle.space_time.proofs.Showing.{told}
use Rattle.space_time.proofs.top.read_and_draw.Goals as goal

pub returns-in-Ok-clause-pictured : goal.returns-in-Ok-clause-pictured
returns-in-Ok-clause-pictured g c = λ drawn.
    told c.args.cut (g.S.Source.left c.args.source.now) (g.K.Sink.written c.args.sink.now) (g.K.Sink.written c.report.new.sink) (finish_in c.in-Ok.recorded) c.report.result c.in-Ok.ensures.finished
    (c.report.ensures.pictured drawn)

pub returns-in-Ok-clause-as_replay : goal.returns-in-Ok-clause-as_replay
returns-in-Ok-clause-as_replay g c = ends_so (g.S.Source.left c.args.source.now) c.report.result (finish_in c.in-Ok.recorded) c.in-Ok.ensures.finished c.report.ensures.as_replay

pub returns-in-Err-Failed-clause-as_replay : goal.returns-in-Err-Failed-clause-as_replay
returns-in-Err-Failed-clause-as_replay g c = ends_otherwise (g.S.Source.left c.args.source.now) ReadFault (λ text. ([], refl))

pub returns-in-Err-NoMemory-clause-as_replay : goal.returns-in-Err-NoMemory-clause-as_replay
returns-in-Err-NoMemory-clause-as_replay g c = ends_otherwise (g.S.Source.left c.args.source.now) NoMemory (λ text. ends_for_memory text)
