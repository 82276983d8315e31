use Rattle.std.proofs.Common.{Option, subst, ◌∙◌}
use Rattle.tg_play.proofs.Means.{means}
use Rattle.tg_client_state.specs.States.{client_of}
use Rattle.tg_client_answers.specs.Fates.{IsAnswer}
use Rattle.tg_client_answers.specs.declared.asked.Answer.{Answer}
use Rattle.tg_client_answers.proofs.TellingTx.{moves_same, kept_view, not_hosted, hosted_told}
use Rattle.tg_client_state.proofs.Boxed.{view_read}
use Rattle.tg_client_answers.proofs.ask.asks.Goals as goal

pub returns-in-None-2 : goal.returns-in-None-2
returns-in-None-2 g c = λ t ht hm r w v old hv hk he.
    moves_same (means g.K.Kind g.K.Registry) c.refuses.result old _ _ (not_hosted (means g.K.Kind g.K.Registry) (client_of (means g.K.Kind g.K.Registry) c.args.state r) w t c.args.oid c.args.ask v c.args.number hm (subst (λ (x : Option (Answer _)). IsAnswer (means g.K.Kind g.K.Registry) v c.args.oid c.args.ask x) c.in-None-2.is (c.in_ok-answer_of-in-Some.ensures.told v (kept_view (means g.K.Kind g.K.Registry) c.deref.result.now.view c.in-Some.view r.view v c.in-Some.is hv (view_read (means g.K.Kind g.K.Registry) c.deref.result.now c.args.state r.view (c.deref.ensures ∙ c.state.view_is) hk))))) (c.refuses.ensures r old hk)

pub returns-in-Some-2 : goal.returns-in-Some-2
returns-in-Some-2 g c = λ t ht hm r w v old hv hk he.
    moves_same (means g.K.Kind g.K.Registry) c.asked.result old _ _ (hosted_told (means g.K.Kind g.K.Registry) (client_of (means g.K.Kind g.K.Registry) c.args.state r) w c.args.state.tx t c.args.oid c.args.ask v c.in-Some-2.answer c.args.tail ht (subst (λ (x : Option (Answer _)). IsAnswer (means g.K.Kind g.K.Registry) v c.args.oid c.args.ask x) c.in-Some-2.is (c.in_ok-answer_of-in-Some.ensures.told v (kept_view (means g.K.Kind g.K.Registry) c.deref.result.now.view c.in-Some.view r.view v c.in-Some.is hv (view_read (means g.K.Kind g.K.Registry) c.deref.result.now c.args.state r.view (c.deref.ensures ∙ c.state.view_is) hk)))) he) (c.asked.ensures r old hk)
