use Rattle.std.proofs.Common.{◌∙◌, sym, ap, subst}
use Rattle.std.specs.Prelude.{IfOk, option_copied}
use Rattle.tg_play.proofs.Means.{means}
use Rattle.tg_protocol.specs.Replies.{Reply, reply}
use Rattle.tg_protocol.specs.ClientSteps.{feed}
use Rattle.tg_client_state.specs.States.{KeepsMoved}
use Rattle.tg_client.proofs.Delivered.{told_latest}
use Rattle.tg_client.proofs.delivering.deliver.Goals as goal

pub returns-in-Some : goal.returns-in-Some
returns-in-Some g c = λ k h.
    subst (λ (y : Reply). IfOk c.on_latest.result (λ x. KeepsMoved (means g.K.Kind g.K.Registry) c.args.state.rids.next x (feed (means g.K.Kind g.K.Registry) k k.work c.args.from c.args.rid y))) (told_latest (reply c.args.msg.now) c.in-Some.proj.now (sym (ap option_copied c.in-Some.is) ∙ c.latest_in.ensures)) (c.on_latest.ensures k h)
