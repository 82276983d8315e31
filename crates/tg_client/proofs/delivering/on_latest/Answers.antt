use Rattle.std.proofs.Common.{sym, ◌∙◌, subst}
use Rattle.std.specs.Prelude.{IfOk}
use Rattle.tg_base.specs.Layouts.{Layout}
use Rattle.tg_play.proofs.Means.{means}
use Rattle.tg_protocol.specs.Replies.{IsLatest}
use Rattle.tg_protocol.specs.ClientSteps.{task_in, feed, on_newer}
use Rattle.tg_client_state.specs.States.{client_of, KeepsMoved}
use Rattle.tg_client.proofs.Delivered.{by_client, left_fit, left_kept, older_passed, newer_taken}
use Rattle.tg_client.proofs.delivering.on_latest.Goals as goal

pub goes_on_in-requires-clause-kept : goal.goes_on_in-requires-clause-kept
goes_on_in-requires-clause-kept g c = left_kept (means g.K.Kind g.K.Registry) c.args.state c.args.work c.paused_in.result c.paused_in.ensures c.requires.kept

pub returns-then-is_newer : goal.returns-then-is_newer
returns-then-is_newer g c = λ k h.
    by_client (means g.K.Kind g.K.Registry) (λ d. IfOk c.goes_on_in.result (λ x. KeepsMoved (means g.K.Kind g.K.Registry) c.args.state.rids.next x (feed (means g.K.Kind g.K.Registry) d d.work c.args.from c.args.rid (IsLatest c.args.proj.now)))) c.args.state c.args.work k h
    (λ r w b. newer_taken (means g.K.Kind g.K.Registry) (λ z. IfOk c.goes_on_in.result (λ x. KeepsMoved (means g.K.Kind g.K.Registry) c.args.state.rids.next x z)) c.args.state c.args.work r w c.args.from c.args.rid c.args.proj.now (sym c.is_newer.ensures ∙ c.if-is_newer.true) b
    (subst (λ (q : Layout). IfOk c.goes_on_in.result (λ x. KeepsMoved (means g.K.Kind g.K.Registry) c.args.state.rids.next x (on_newer (means g.K.Kind g.K.Registry) (client_of (means g.K.Kind g.K.Registry) c.args.state r) w (task_in (means g.K.Kind g.K.Registry) w.hand) c.args.from.num c.args.rid q))) c.in_ok-proj.ensures
    (c.goes_on_in.ensures r w (task_in (means g.K.Kind g.K.Registry) w.hand) b.holds (c.paused_in.ensures w.hand b.hand) (left_fit (means g.K.Kind g.K.Registry) c.args.state.known c.args.state.stand w.hand b.fit))))

pub returns : goal.returns
returns g c = λ k h.
    subst (λ z. KeepsMoved (means g.K.Kind g.K.Registry) c.args.state.rids.next c.stays.result z) (older_passed (means g.K.Kind g.K.Registry) c.args.state c.args.work k c.args.from c.args.rid c.args.proj.now (sym c.is_newer.ensures ∙ c.if-is_newer.false) h) (c.stays.ensures k h)
