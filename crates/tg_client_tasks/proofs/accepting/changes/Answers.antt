use Rattle.std.proofs.Common.{ℕ, ◌≤◌, None, arith}
use Rattle.tg_model.specs.declared.command.Command.TheVariants as cmd
use Rattle.tg_protocol.specs.ClientSteps.{new_work}
use Rattle.tg_play.proofs.Means.{means}
use Rattle.tg_client_tasks.proofs.Accepted.{changed_so}
use Rattle.tg_client_tasks.proofs.accepting.changes.Goals as goal

pub returns : goal.returns
returns g c = λ v n h.
    let old : ℕ = c.args.state.rids.next in
    let le : old ≤ old = omega arith in
    changed_so (means g.K.Kind g.K.Registry) c.args.state v n old c.args.change c.in_ok-kept.kept c.reconfigures.result c.in_ok-kept.ensures
    (c.reconfigures.ensures (record { view = v; played = n; work = None }) (new_work (means g.K.Kind g.K.Registry) (cmd.Reconf c.in_ok-kept.kept)) old le h c.in_ok-job.ensures)
