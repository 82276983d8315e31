use Rattle.std.proofs.Common.{ℕ, ◌≤◌, None, refl, arith}
use Rattle.tg_model.specs.declared.command.Command.TheVariants as cmd
use Rattle.tg_protocol.specs.ClientSteps.{new_work, accepts}
use Rattle.tg_protocol.specs.Trimming as copying
use Rattle.tg_play.proofs.Means.{means}
use Rattle.tg_client_tasks.proofs.accepting.brings.Goals as goal

pub returns : goal.returns
unfolding accepts
returns g c = λ v n h.
    let old : ℕ = c.args.state.rids.next in
    let le : old ≤ old = omega arith in
    c.copies.ensures (record { view = v; played = n; work = None }) (new_work (means g.K.Kind g.K.Registry) (cmd.Copy c.args.spare.unit c.args.spare.range c.args.spare.stripe)) old
    (record { unit = c.args.spare.unit; range = c.args.spare.range; stripe = c.args.spare.stripe; work = copying.Sealing 0 }) le h c.in_ok-job.ensures refl
