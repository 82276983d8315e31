use Rattle.std.proofs.Common.{◌≡◌, Some, subst, ◌∙◌}
use Rattle.std.specs.Prelude.{IfOk}
use Rattle.tg_model.specs.declared.command.Command.TheVariants as cmd
use Rattle.tg_play.proofs.Means.{means}
use Rattle.tg_protocol.specs.Clients.{write_of}
use Rattle.tg_protocol.specs.ClientSteps.{refused_or}
use Rattle.tg_client_state.specs.States.{StateOf, KeepsViewIf, KeepsMoved}
use Rattle.tg_client_tasks.specs.Idle.{idle}
use Rattle.tg_client_tasks.specs.Tests.{put_by}
use Rattle.tg_client_tasks.proofs.Putting.{put_kept}
use Rattle.tg_client_tasks.proofs.puts.puts_in.Goals as goal

pub returns : goal.returns
returns g c = λ v n h.
    let m = means g.K.Kind g.K.Registry in
    let was : c.deref_mut.result.now ≡ c.args.state = c.deref_mut.ensures.value ∙ c.state.view_is in
    let said = subst (λ (s : StateOf m). Some c.in_ok-tx.tx ≡ Some (put_by c.in_ok-tx.why c.args.tx (write_of m c.args.oid c.in_ok-kept.kept)) → KeepsViewIf m s.view v →
    IfOk c.put_said.result (λ x. KeepsMoved m s.rids.next x (refused_or m (idle m (record s { tx = Some c.args.tx }) v n) (cmd.Put c.args.oid c.in_ok-kept.kept) c.in_ok-tx.why))) was
    (λ e i. c.put_said.ensures c.args.tx c.number-number.ensures e v n i) in
    put_kept m c.args.state v n c.args.state.rids.next c.args.tx c.in_ok-tx.tx c.args.oid c.args.op c.in_ok-kept.kept c.in_ok-tx.why c.put_said.result c.in_ok-kept.ensures c.in_ok-tx.ensures.why c.in_ok-tx.ensures.now
    (λ e. said e h)
