use Rattle.std.proofs.Common.{List, ℕ, sym, subst, ◌∙◌}
use Rattle.tg_io.specs.declared.status.Status.{Status}
use Rattle.tg_replay.specs.Outcomes.{IsOfReplay}
use Rattle.tg_replay.specs.Stages.{status_of}
use Rattle.tg_replay.proofs.Promises.{ends_well, ends_read, ends_so}
use Rattle.space_time.specs.Pictures.{IsPictured}
use Rattle.space_time.specs.Records.{finish_in}
use Rattle.space_time.proofs.Ending.{ends_whole, ends_unwritten, ends_for_memory}
use Rattle.space_time.proofs.Showing.{written}
use Rattle.space_time.proofs.top.report.Goals as goal

pub returns-in-Ok-write_all-clause-pictured : goal.returns-in-Ok-write_all-clause-pictured
returns-in-Ok-write_all-clause-pictured g c = λ drawn text h.
    let end = c.args.recorded.end in
    written c.args.cut (finish_in c.args.recorded) (g.K.Sink.written c.args.sink.now) (g.K.Sink.written c.write_all.new.sink) c.as_slice.result.now c.status.result c.in-Ok-write_all.ensures.taken
    (λ text h. subst (λ (out : List ℕ). IsPictured c.args.cut (status_of end) text out) (sym c.as_slice.ensures) (c.in-Ok.ensures text h)) c.status.ensures text h

pub returns-in_default-clause-as_replay : goal.returns-in_default-clause-as_replay
returns-in_default-clause-as_replay g c = λ text h. ends_for_memory text

pub returns-in-Ok-write_all-clause-as_replay : goal.returns-in-Ok-write_all-clause-as_replay
returns-in-Ok-write_all-clause-as_replay g c = λ text h. ends_whole text (finish_in c.args.recorded) c.status.result h c.status.ensures

pub returns-in-Err-Failed-clause-as_replay : goal.returns-in-Err-Failed-clause-as_replay
returns-in-Err-Failed-clause-as_replay g c = λ text h. ends_unwritten text (finish_in c.args.recorded) h

pub returns-clause-as_replay : goal.returns-clause-as_replay
returns-clause-as_replay g c = λ text h. ends_for_memory text

pub returns-in-Ok-write_all-clause-write_fault : goal.returns-in-Ok-write_all-clause-write_fault
returns-in-Ok-write_all-clause-write_fault g c = λ e. ends_well c.args.recorded.end _ (sym c.status.ensures ∙ e)

pub returns-in-Ok-write_all-clause-ways : goal.returns-in-Ok-write_all-clause-ways
returns-in-Ok-write_all-clause-ways g c = subst (λ (s : Status). IsOfReplay s) (sym c.status.ensures) (ends_so c.args.recorded.end)

pub returns-in-Ok-write_all-clause-no_read : goal.returns-in-Ok-write_all-clause-no_read
returns-in-Ok-write_all-clause-no_read g c = λ e. ends_read c.args.recorded.end (sym c.status.ensures ∙ e)
