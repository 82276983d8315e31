use Rattle.std.proofs.Common.{ℕ, ◌≤◌, None, Result, Ok, Err, arith}
use Rattle.tg_model.specs.declared.command.Command.TheVariants as cmd
use Rattle.tg_protocol.specs.ClientSteps.{new_work}
use Rattle.tg_client_state.specs.Tasks.{told_purpose}
use Rattle.tg_play.proofs.Means.{means}
use Rattle.tg_client_tasks.proofs.Accepted.{ended_writes_if}
use Rattle.tg_client_tasks.proofs.ends.ends_writes.Goals as goal

pub returns : goal.returns
returns g c = λ t hk hd hp v n h.
    let old : ℕ = c.args.state.rids.next in
    let le : old ≤ old = omega arith in
    ended_writes_if (means g.K.Kind g.K.Registry) c.args.state v n old c.args.number t c.args.draft (told_purpose (means g.K.Kind g.K.Registry) c.args.purpose) c.in_ok-notes.notes c.appends.result hk hd hp c.in_ok-notes.ensures
    (c.appends.ensures (record { view = v; played = n; work = None }) (new_work (means g.K.Kind g.K.Registry) cmd.End) old le h c.in_ok-job.ensures)
