use Rattle.std.proofs.Common.{ap, subst, Some}
use Rattle.std.specs.Prelude.{IfOk}
use Rattle.tg_play.proofs.Means.{means}
use Rattle.tg_protocol.specs.Replies.{reply}
use Rattle.tg_protocol.specs.ClientSteps.{feed}
use Rattle.tg_client_state.specs.Tasks.{HandOf, WorkOf}
use Rattle.tg_client_state.specs.States.{KeepsClient, KeepsMoved}
use Rattle.tg_client.proofs.Delivered.{by_client, task_kept, task_feeds, nothing_taken}
use Rattle.tg_client.proofs.delivering.on_answer.Goals as goal

pub feeds-requires-clause-kept : goal.feeds-requires-clause-kept
feeds-requires-clause-kept g c = task_kept (means g.K.Kind g.K.Registry) c.args.state c.args.work c.in-Doing.task c.into_inner.result c.into_inner.ensures c.in-Doing.is c.requires.kept

pub returns-in-Doing : goal.returns-in-Doing
returns-in-Doing g c = λ k h.
    by_client (means g.K.Kind g.K.Registry) (λ d. IfOk c.feeds.result (λ x. KeepsMoved (means g.K.Kind g.K.Registry) c.args.state.rids.next x (feed (means g.K.Kind g.K.Registry) d d.work c.args.from c.args.rid (reply c.args.msg.now)))) c.args.state c.args.work k h
    (λ r w b. task_feeds (means g.K.Kind g.K.Registry) (λ z. IfOk c.feeds.result (λ x. KeepsMoved (means g.K.Kind g.K.Registry) c.args.state.rids.next x z)) c.args.state c.args.work r w c.in-Doing.task c.into_inner.result c.args.from c.args.rid (reply c.args.msg.now) c.into_inner.ensures c.requires.other c.in-Doing.is b
    (λ i. c.feeds.ensures r w b.holds i))

pub returns-in-Learning : goal.returns-in-Learning
returns-in-Learning g c = λ k h.
    subst (λ z. KeepsMoved (means g.K.Kind g.K.Registry) c.args.state.rids.next c.stays.result z)
    (nothing_taken (means g.K.Kind g.K.Registry) c.args.state c.args.work k c.in-Learning.waits c.in-Learning.paused c.args.from c.args.rid (reply c.args.msg.now) c.requires.other c.in-Learning.is h)
    (c.stays.ensures k (subst (λ (v : WorkOf (means g.K.Kind g.K.Registry)). KeepsClient (means g.K.Kind g.K.Registry) c.args.state (Some v) k) (ap (λ (x : HandOf (means g.K.Kind g.K.Registry)). record c.args.work { hand = x }) c.in-Learning.is) h))
