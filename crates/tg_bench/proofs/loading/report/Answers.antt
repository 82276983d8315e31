use Rattle.std.proofs.Common.{ℕ, List, sym, subst, ◌∙◌}
use Rattle.tg_io.specs.declared.status.Status.{Status}
use Rattle.tg_bench.specs.Loads.{IsSummed, Written}
use Rattle.tg_bench.proofs.Promises.{written_none, written_whole, written_front, ends_well}
use Rattle.tg_bench.proofs.loading.report.Goals as goal

pub returns-in_default-clause-written : goal.returns-in_default-clause-written
returns-in_default-clause-written g c = λ s text lawful tells finished. written_none s (g.K.Sink.written c.args.sink.now)

pub returns-in-Ok-write_all-clause-written : goal.returns-in-Ok-write_all-clause-written
returns-in-Ok-write_all-clause-written g c = λ s text lawful tells finished.
    let end = c.args.finish.end in
    let summed = subst (λ (x : List ℕ). IsSummed s end x) (sym c.as_slice.ensures) (c.in-Ok.ensures s text end lawful tells finished) in
    let before = g.K.Sink.written c.args.sink.now in
    let after = g.K.Sink.written c.write_all.new.sink in
    subst (λ (x : Status). Written s x before after) (sym c.status.ensures) (written_whole s end before after c.as_slice.result.now summed c.in-Ok-write_all.ensures.taken)

pub returns-in-Err-Failed-clause-written : goal.returns-in-Err-Failed-clause-written
returns-in-Err-Failed-clause-written g c = λ s text lawful tells finished.
    let end = c.args.finish.end in
    let summed = subst (λ (x : List ℕ). IsSummed s end x) (sym c.as_slice.ensures) (c.in-Ok.ensures s text end lawful tells finished) in
    written_front s end (g.K.Sink.written c.args.sink.now) (g.K.Sink.written c.write_all.new.sink) c.as_slice.result.now summed c.in-Err-Failed.ensures.front

pub returns-clause-written : goal.returns-clause-written
returns-clause-written g c = λ s text lawful tells finished.
    let end = c.args.finish.end in
    let summed = subst (λ (x : List ℕ). IsSummed s end x) (sym c.as_slice.ensures) (c.in-Ok.ensures s text end lawful tells finished) in
    written_front s end (g.K.Sink.written c.args.sink.now) (g.K.Sink.written c.write_all.new.sink) c.as_slice.result.now summed c.in-Err-NoMemory.ensures.front

pub returns-in-Ok-write_all-clause-write_fault : goal.returns-in-Ok-write_all-clause-write_fault
returns-in-Ok-write_all-clause-write_fault g c = λ e. ends_well c.args.finish.end _ (sym c.status.ensures ∙ e)
