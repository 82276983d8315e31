use Rattle.std.proofs.Common.{[], sym, subst, refl, inl, inr, ◌∙◌}
use Rattle.tg_io.proofs.Bytes.{grows_none}
use Rattle.tg_io.specs.declared.status.Status.{Status}
use Rattle.tg_audit_run.specs.Outcomes.{Written, IsOfJudge, IsSilent}
use Rattle.tg_audit_run.proofs.Promises.{written_whole, written_front, tells_no_fault, tells_no_read, tells_something, tells_so}
use Rattle.tg_audit_run.proofs.judging.write_verdict.Goals as goal

pub returns-in_default-clause-written : goal.returns-in_default-clause-written
returns-in_default-clause-written g c = λ text has. ([], grows_none (g.K.Sink.written c.args.sink.now), inl refl)

pub returns-in-Ok-write_all-clause-written : goal.returns-in-Ok-write_all-clause-written
returns-in-Ok-write_all-clause-written g c = λ text has.
    let out = c.as_slice.result.now in
    let v = c.args.verdict in (
      out,
      c.in-Ok-write_all.ensures.taken,
      subst (λ (s : Status). Written text s out) (sym c.status_of.ensures) (written_whole text v out has (c.as_slice.ensures ∙ c.in-Ok.ensures)),
    )

pub returns-in-Err-Failed-clause-written : goal.returns-in-Err-Failed-clause-written
returns-in-Err-Failed-clause-written g c = λ text has.
    written_front (g.K.Sink.written c.args.sink.now) (g.K.Sink.written c.write_all.new.sink) text c.args.verdict c.as_slice.result.now has
    (c.as_slice.ensures ∙ c.in-Ok.ensures) c.in-Err-Failed.ensures.front

pub returns-clause-written : goal.returns-clause-written
returns-clause-written g c = λ text has.
    let front = written_front (g.K.Sink.written c.args.sink.now) (g.K.Sink.written c.write_all.new.sink) text c.args.verdict c.as_slice.result.now has
    (c.as_slice.ensures ∙ c.in-Ok.ensures) c.in-Err-NoMemory.ensures.front in
    (front.0, front.1, inr front.2)

pub returns-in-Ok-write_all-clause-silent : goal.returns-in-Ok-write_all-clause-silent
returns-in-Ok-write_all-clause-silent g c = λ silent. tells_something c.args.verdict _ (subst IsSilent c.status_of.ensures silent)

pub returns-in-Ok-write_all-clause-write_fault : goal.returns-in-Ok-write_all-clause-write_fault
returns-in-Ok-write_all-clause-write_fault g c = λ e. tells_no_fault c.args.verdict _ (sym c.status_of.ensures ∙ e)

pub returns-in-Ok-write_all-clause-ways : goal.returns-in-Ok-write_all-clause-ways
returns-in-Ok-write_all-clause-ways g c = subst (λ (s : Status). IsOfJudge s) (sym c.status_of.ensures) (tells_so c.args.verdict)

pub returns-in-Ok-write_all-clause-no_read : goal.returns-in-Ok-write_all-clause-no_read
returns-in-Ok-write_all-clause-no_read g c = λ e. tells_no_read c.args.verdict (sym c.status_of.ensures ∙ e)
