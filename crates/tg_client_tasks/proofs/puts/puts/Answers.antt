use Rattle.std.proofs.Common.{◌≡◌, Option, Some, None, sym, ap, subst, ◌∙◌}
use Rattle.std.specs.Prelude.{IfOk}
use Rattle.tg_model.specs.declared.command.Command.TheVariants as cmd
use Rattle.tg_play.proofs.Means.{means}
use Rattle.tg_protocol.specs.Transactions.{Tx}
use Rattle.tg_protocol.specs.Answers.{moved}
use Rattle.tg_protocol.specs.Clients.{put_fault, write_of}
use Rattle.tg_protocol.specs.ClientSteps.{refused_or}
use Rattle.tg_client_state.specs.States.{StateOf, KeepsViewIf, KeepsMoved}
use Rattle.tg_client_tasks.specs.Idle.{idle}
use Rattle.tg_client_tasks.proofs.Accepted.{puts_none, puts_some}
use Rattle.tg_client_tasks.proofs.puts.puts.Goals as goal

pub returns-in-None : goal.returns-in-None
returns-in-None g c = λ v n h.
    let m = means g.K.Kind g.K.Registry in
    let old = c.args.state.rids.next in
    let was : c.deref_mut.result.now ≡ c.args.state = c.deref_mut.ensures.value ∙ c.state.view_is in
    let taken : c.take-open.result ≡ c.args.state.tx = c.take-open.ensures.value ∙ ap (λ (s : StateOf m). s.tx) was in
    let now : record c.deref_mut.result.now { tx = c.take-open.new.self } ≡ record c.args.state { tx = None } =
    ap (λ (o : Option Tx). record c.deref_mut.result.now { tx = o }) c.take-open.ensures.after ∙ ap (λ (s : StateOf m). record s { tx = None }) was in
    let said = subst (λ (s : StateOf m). KeepsViewIf m s.view v → KeepsMoved m old c.says.result (moved m (idle m s v n) c.new.result)) now (c.says.ensures v n old) h in
    puts_none m c.args.state v n old c.args.oid c.args.op c.args.state.tx c.new.result c.says.result (sym taken ∙ c.in-None.is) c.new.ensures said

pub returns-in-Some : goal.returns-in-Some
returns-in-Some g c = λ v n h.
    let m = means g.K.Kind g.K.Registry in
    let was : c.deref_mut.result.now ≡ c.args.state = c.deref_mut.ensures.value ∙ c.state.view_is in
    let taken : c.take-open.result ≡ c.args.state.tx = c.take-open.ensures.value ∙ ap (λ (s : StateOf m). s.tx) was in
    let put = subst (λ (s : StateOf m). KeepsViewIf m s.view v → IfOk c.puts_in.result (λ x. KeepsMoved m s.rids.next x (refused_or m (idle m (record s { tx = Some c.in-Some.tx }) v n) (cmd.Put c.args.oid c.args.op) (put_fault m (Some c.in-Some.tx) (write_of m c.args.oid c.args.op))))) was
    (c.puts_in.ensures v n) h in
    puts_some m c.args.state v n c.args.state.rids.next c.args.oid c.args.op c.in-Some.tx c.puts_in.result (sym taken ∙ c.in-Some.is) put
