use Rattle.std.proofs.Common.{sym, subst}
use Rattle.std.specs.Prelude.{IfOk}
use Rattle.tg_play.proofs.Means.{means}
use Rattle.tg_protocol.specs.ClientSteps.{at_trim}
use Rattle.tg_client_state.specs.States.{client_of, KeepsMoved}
use Rattle.tg_client_sync.proofs.walking.goes_on_from.Goals as goal

pub returns-then-is_old : goal.returns-then-is_old
returns-then-is_old g c = λ r w old h.
    subst (λ b. IfOk c.syncs_again.result (λ x. KeepsMoved (means g.K.Kind g.K.Registry) old x (at_trim (means g.K.Kind g.K.Registry) (client_of (means g.K.Kind g.K.Registry) c.args.state r) w c.args.rest b c.args.is_over)))
    (sym c.if-is_old.true) (c.syncs_again.ensures r w old h)

pub returns : goal.returns
returns g c = λ r w old h.
    subst (λ b. IfOk c.starts_over.result (λ x. KeepsMoved (means g.K.Kind g.K.Registry) old x (at_trim (means g.K.Kind g.K.Registry) (client_of (means g.K.Kind g.K.Registry) c.args.state r) w c.args.rest b c.args.is_over)))
    (sym c.if-is_old.false) (c.starts_over.ensures r w old h)

pub syncs_again-requires : goal.syncs_again-requires
syncs_again-requires g c = c.requires.next
