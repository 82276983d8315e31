use Rattle.std.proofs.Common.{refl, ap, not, ◌∙◌, Bool}
use Rattle.tg_model.specs.declared.command.Command.TheVariants as cmd
use Rattle.tg_model.specs.declared.refusal.Refusal.TheVariants as cause
use Rattle.tg_protocol.specs.Words.{where_true}
use Rattle.tg_protocol.specs.Layouts.{change_fault, spare_fault}
use Rattle.tg_protocol.specs.Clients.{tests, copy_fault, by_layout, ask_fault}
use Rattle.tg_client_state.specs.States.{StateOf, client_of}
use Rattle.tg_play.proofs.Means.{means}
use Rattle.tg_client_tasks.proofs.Early.{early_one, early_two, early_three, early_four}
use Rattle.tg_client_tasks.proofs.refusals.refusal.Goals as goal

pub returns-in-Host : goal.returns-in-Host
unfolding tests copy_fault
returns-in-Host g c = λ r. early_three (means g.K.Kind g.K.Registry) (client_of (means g.K.Kind g.K.Registry) c.args.state.now r) c.args.command.now (cmd.Host c.in-Host.oid) _ _ _ _ _ _ _ c.in-Host.is refl c.first.ensures (c.tx_open.ensures r) (c.not_registered.ensures r) (c.too_many_hosted.ensures r)

pub returns-in-Begin : goal.returns-in-Begin
unfolding tests
returns-in-Begin g c = λ r. early_one (means g.K.Kind g.K.Registry) (client_of (means g.K.Kind g.K.Registry) c.args.state.now r) c.args.command.now cmd.Begin _ _ c.in-Begin.is refl (c.tx_open-in-Begin.ensures r)

pub returns-in-Put : goal.returns-in-Put
unfolding tests copy_fault
returns-in-Put g c = λ r. early_three (means g.K.Kind g.K.Registry) (client_of (means g.K.Kind g.K.Registry) c.args.state.now r) c.args.command.now (cmd.Put c.in-Put.oid c.in-Put.op) _ _ _ _ _ _ _ c.in-Put.is refl c.first-in-Put.ensures (c.no_tx.ensures r) (c.wrong_kind.ensures ∙ ap (λ (b : Bool). where_true (not b) (cause.WrongKind c.in-Put.oid)) c.allows.ensures) (c.not_registered-in-Put.ensures r)

pub returns-in_ok-fault-in-Ask : goal.returns-in_ok-fault-in-Ask
unfolding tests copy_fault
returns-in_ok-fault-in-Ask g c = λ r. early_four (means g.K.Kind g.K.Registry) (client_of (means g.K.Kind g.K.Registry) c.args.state.now r) c.args.command.now (cmd.Ask c.in-Ask.oid c.in-Ask.ask) _ _ _ _ _ _ _ _ _ c.in-Ask.is refl c.first-in-Ask.ensures (c.no_tx-in-Ask.ensures r) (c.wrong_kind-in-Ask.ensures ∙ ap (λ (b : Bool). where_true (not b) (cause.WrongKind c.in-Ask.oid)) c.allows_ask.ensures) (c.not_hosted.ensures r) (c.in_ok-fault-in-Ask.ensures ∙ ap (λ (s : StateOf (means g.K.Kind g.K.Registry)). ask_fault (means g.K.Kind g.K.Registry) s.tx c.in-Ask.oid ((means g.K.Kind g.K.Registry).look c.in-Ask.ask)) (c.deref.ensures ∙ c.state.view_is))

pub returns-in-End : goal.returns-in-End
unfolding tests
returns-in-End g c = λ r. early_one (means g.K.Kind g.K.Registry) (client_of (means g.K.Kind g.K.Registry) c.args.state.now r) c.args.command.now cmd.End _ _ c.in-End.is refl (c.no_tx-in-End.ensures r)

pub returns-in-Drop : goal.returns-in-Drop
unfolding tests
returns-in-Drop g c = λ r. early_one (means g.K.Kind g.K.Registry) (client_of (means g.K.Kind g.K.Registry) c.args.state.now r) c.args.command.now cmd.Drop _ _ c.in-Drop.is refl (c.no_tx-in-Drop.ensures r)

pub returns-in-Fate : goal.returns-in-Fate
unfolding tests
returns-in-Fate g c = λ r. early_one (means g.K.Kind g.K.Registry) (client_of (means g.K.Kind g.K.Registry) c.args.state.now r) c.args.command.now (cmd.Fate c.in-Fate.at) _ _ c.in-Fate.is refl (c.tx_open-in-Fate.ensures r)

pub returns-in-Decide : goal.returns-in-Decide
unfolding tests
returns-in-Decide g c = λ r. early_one (means g.K.Kind g.K.Registry) (client_of (means g.K.Kind g.K.Registry) c.args.state.now r) c.args.command.now (cmd.Decide c.in-Decide.at) _ _ c.in-Decide.is refl (c.tx_open-in-Decide.ensures r)

pub returns-in-Checkpoint : goal.returns-in-Checkpoint
unfolding tests copy_fault
returns-in-Checkpoint g c = λ r. early_two (means g.K.Kind g.K.Registry) (client_of (means g.K.Kind g.K.Registry) c.args.state.now r) c.args.command.now (cmd.Checkpoint c.in-Checkpoint.oid) _ _ _ _ _ c.in-Checkpoint.is refl c.first-in-Checkpoint.ensures (c.tx_open-in-Checkpoint.ensures r) (c.not_hosted-in-Checkpoint.ensures r)

pub returns-in-Forget : goal.returns-in-Forget
unfolding tests copy_fault
returns-in-Forget g c = λ r. early_two (means g.K.Kind g.K.Registry) (client_of (means g.K.Kind g.K.Registry) c.args.state.now r) c.args.command.now (cmd.Forget c.in-Forget.oid c.in-Forget.mark) _ _ _ _ _ c.in-Forget.is refl c.first-in-Forget.ensures (c.tx_open-in-Forget.ensures r) (c.not_hosted-in-Forget.ensures r)

pub returns-in-Trim : goal.returns-in-Trim
unfolding tests
returns-in-Trim g c = λ r. early_one (means g.K.Kind g.K.Registry) (client_of (means g.K.Kind g.K.Registry) c.args.state.now r) c.args.command.now cmd.Trim _ _ c.in-Trim.is refl (c.tx_open-in-Trim.ensures r)

pub returns-in-Reconf : goal.returns-in-Reconf
unfolding tests copy_fault
returns-in-Reconf g c = λ r. early_two (means g.K.Kind g.K.Registry) (client_of (means g.K.Kind g.K.Registry) c.args.state.now r) c.args.command.now (cmd.Reconf c.in-Reconf.change) _ _ _ _ _ c.in-Reconf.is refl c.first-in-Reconf.ensures (c.tx_open-in-Reconf.ensures r) (c.reconf_fault.ensures ∙ ap (λ (s : StateOf (means g.K.Kind g.K.Registry)). by_layout (means g.K.Kind g.K.Registry) (change_fault s.stand c.in-Reconf.change)) (c.deref-in-Reconf.ensures ∙ c.state.view_is))

pub returns-in-Copy : goal.returns-in-Copy
unfolding tests copy_fault
returns-in-Copy g c = λ r. early_two (means g.K.Kind g.K.Registry) (client_of (means g.K.Kind g.K.Registry) c.args.state.now r) c.args.command.now (cmd.Copy c.in-Copy.unit c.in-Copy.range c.in-Copy.stripe) _ _ _ _ _ c.in-Copy.is refl c.first-in-Copy.ensures (c.tx_open-in-Copy.ensures r) (c.copy_fault.ensures ∙ ap (λ (s : StateOf (means g.K.Kind g.K.Registry)). by_layout (means g.K.Kind g.K.Registry) (spare_fault s.stand (record { unit = c.in-Copy.unit; range = c.in-Copy.range; stripe = c.in-Copy.stripe }))) (c.deref-in-Copy.ensures ∙ c.state.view_is))

pub returns-in-AskAt : goal.returns-in-AskAt
unfolding tests copy_fault
returns-in-AskAt g c = λ r. early_three (means g.K.Kind g.K.Registry) (client_of (means g.K.Kind g.K.Registry) c.args.state.now r) c.args.command.now (cmd.AskAt c.in-AskAt.at c.in-AskAt.oid c.in-AskAt.ask) _ _ _ _ _ _ _ c.in-AskAt.is refl c.first-in-AskAt.ensures (c.tx_open-in-AskAt.ensures r) (c.wrong_kind-in-AskAt.ensures ∙ ap (λ (b : Bool). where_true (not b) (cause.WrongKind c.in-AskAt.oid)) c.allows_ask-in-AskAt.ensures) (c.not_hosted-in-AskAt.ensures r)

pub returns-in-Rescue : goal.returns-in-Rescue
unfolding tests
returns-in-Rescue g c = λ r. early_one (means g.K.Kind g.K.Registry) (client_of (means g.K.Kind g.K.Registry) c.args.state.now r) c.args.command.now (cmd.Rescue c.in-Rescue.at) _ _ c.in-Rescue.is refl (c.tx_open-in-Rescue.ensures r)
