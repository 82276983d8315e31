use Rattle.std.proofs.Common.{sym, subst}
use Rattle.tg_play.proofs.Means.{means}
use Rattle.tg_play.proofs.Splitting.{if_ok}
use Rattle.tg_protocol.specs.Clients.{Work}
use Rattle.tg_protocol.specs.ClientSteps.{new_work}
use Rattle.tg_client_state.specs.Tasks.{JobOf, work_of, KeepsJob}
use Rattle.tg_client_tasks.proofs.small.new_job.Goals as goal

pub returns : goal.returns
returns g c =
    let m = means g.K.Kind g.K.Registry in
    let w : Work m = new_work m c.args.command in
    let parts : JobOf m = record { command = c.args.command; gone = 0; gone_before = 0; tail = 0; lasts = c.new.result; oids = c.new-2.result; lo = 0; found = c.new-3.result; trims = c.new-4.result; at = 0 } in
    let kept : KeepsJob m parts w = λ i. work_of m (record { command = c.args.command; gone = 0; gone_before = 0; tail = 0; lasts = (sym c.new.ensures) i; oids = (sym c.new-2.ensures) i; lo = 0; found = (sym c.new-3.ensures) i; trims = (sym c.new-4.ensures) i; at = 0 }) w.hand in
    if_ok _ (λ j. KeepsJob m j w) c.new-5.result (λ j e. subst (λ (k : JobOf m). KeepsJob m k w) (sym e) kept) c.new-5.ensures
