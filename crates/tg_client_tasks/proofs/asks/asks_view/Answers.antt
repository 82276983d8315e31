use Rattle.std.proofs.Common.{Some, None, sym, ◌∙◌}
use Rattle.tg_play.proofs.Means.{means}
use Rattle.tg_client_tasks.specs.Idle.{idle}
use Rattle.tg_client_tasks.proofs.Accepted.{unanswered_so, answered}
use Rattle.tg_client_state.proofs.Boxed.{view_read}
use Rattle.tg_client_tasks.proofs.asks.asks_view.Goals as goal

pub returns-in-None : goal.returns-in-None
returns-in-None g c = λ t e v n h.
    let old = c.args.state.rids.next in
    unanswered_so (means g.K.Kind g.K.Registry) (idle (means g.K.Kind g.K.Registry) c.args.state v n) t c.args.at c.args.oid c.args.ask v c.says.result old c.new.result (sym (c.in_ok-answer_in.ensures v (view_read (means g.K.Kind g.K.Registry) c.deref.result.now c.args.state v (c.deref.ensures ∙ c.state.view_is) h)) ∙ c.in-None.is) c.new.ensures (c.says.ensures v n old h)

pub returns-in-Some : goal.returns-in-Some
returns-in-Some g c = λ t e v n h.
    answered (means g.K.Kind g.K.Registry) (idle (means g.K.Kind g.K.Registry) c.args.state v n) t c.args.at c.args.oid c.args.ask v c.in-Some.answer c.in-Some.version c.asked.result c.args.state.rids.next (sym (c.in_ok-answer_in.ensures v (view_read (means g.K.Kind g.K.Registry) c.deref.result.now c.args.state v (c.deref.ensures ∙ c.state.view_is) h)) ∙ c.in-Some.is)
    (λ w s ha hi. c.asked.ensures t w s e ha hi v n h)
