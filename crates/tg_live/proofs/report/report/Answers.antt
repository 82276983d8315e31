use Rattle.std.proofs.Common.{ℕ, List, sym, subst, inr, ◌∙◌}
use Rattle.tg_io.specs.declared.status.Status.{Status}
use Rattle.tg_replay.specs.Stages.{status_of}
use Rattle.tg_live.specs.Scripts.{Outcome}
use Rattle.tg_live.specs.Outcomes.{Written, IsOfLive}
use Rattle.tg_live.proofs.Promises.{written_none, written_whole, written_front, ends_well, ends_read, ends_link, ends_so}
use Rattle.tg_live.proofs.report.report.Goals as goal

pub returns-in_default-clause-written : goal.returns-in_default-clause-written
returns-in_default-clause-written g c = λ o text h. written_none (g.K.Sink.written c.args.sink.now) o text

pub returns-in-Ok-write_all-clause-written : goal.returns-in-Ok-write_all-clause-written
returns-in-Ok-write_all-clause-written g c = λ o text h.
    let out = c.as_slice.result.now in
    let end = c.args.finish.end in
    let outcome = subst (λ (x : List ℕ). Outcome o text (status_of end) x) (sym c.as_slice.ensures) (c.in-Ok.ensures o text (status_of end) h) in
    (out, c.in-Ok-write_all.ensures.taken, subst (λ (s : Status). Written o text s out) (sym c.status.ensures) (written_whole o text end out outcome))

pub returns-in-Err-Failed-clause-written : goal.returns-in-Err-Failed-clause-written
returns-in-Err-Failed-clause-written g c = λ o text h.
    let end = c.args.finish.end in
    let outcome = subst (λ (x : List ℕ). Outcome o text (status_of end) x) (sym c.as_slice.ensures) (c.in-Ok.ensures o text (status_of end) h) in
    written_front (g.K.Sink.written c.args.sink.now) (g.K.Sink.written c.write_all.new.sink) o text end c.as_slice.result.now outcome c.in-Err-Failed.ensures.front

pub returns-clause-written : goal.returns-clause-written
returns-clause-written g c = λ o text h.
    let end = c.args.finish.end in
    let outcome = subst (λ (x : List ℕ). Outcome o text (status_of end) x) (sym c.as_slice.ensures) (c.in-Ok.ensures o text (status_of end) h) in
    let front = written_front (g.K.Sink.written c.args.sink.now) (g.K.Sink.written c.write_all.new.sink) o text end c.as_slice.result.now outcome c.in-Err-NoMemory.ensures.front in
    (front.0, front.1, inr front.2)

pub returns-in-Ok-write_all-clause-write_fault : goal.returns-in-Ok-write_all-clause-write_fault
returns-in-Ok-write_all-clause-write_fault g c = λ e. ends_well c.args.finish.end _ (sym c.status.ensures ∙ e)

pub returns-in-Ok-write_all-clause-ways : goal.returns-in-Ok-write_all-clause-ways
returns-in-Ok-write_all-clause-ways g c = subst (λ (s : Status). IsOfLive s) (sym c.status.ensures) (ends_so c.args.finish.end)

pub returns-in-Ok-write_all-clause-no_read : goal.returns-in-Ok-write_all-clause-no_read
returns-in-Ok-write_all-clause-no_read g c = λ e. ends_read c.args.finish.end (sym c.status.ensures ∙ e)

pub returns-in-Ok-write_all-clause-no_link : goal.returns-in-Ok-write_all-clause-no_link
returns-in-Ok-write_all-clause-no_link g c = λ e. ends_link c.args.finish.end (sym c.status.ensures ∙ e)
