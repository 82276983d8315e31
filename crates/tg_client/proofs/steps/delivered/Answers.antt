use Rattle.std.proofs.Common.{Option, Some, None, [], refl, subst, ap, ◌∙◌}
use Rattle.tg_client_state.specs.Tasks.{WorkOf}
use Rattle.tg_client_state.specs.States.{KeepsClient}
use Rattle.tg_play.proofs.Means.{means}
use Rattle.tg_protocol.specs.Answers.{moved}
use Rattle.tg_protocol.specs.ClientSteps.{feed}
use Rattle.tg_protocol.specs.Replies.{reply}
use Rattle.tg_client_state.specs.Moves.{IsKept}
use Rattle.tg_client_tasks.specs.Idle.{idle}
use Rattle.tg_client_tasks.proofs.Said.{is_idle, next_is}
use Rattle.tg_client_tasks.proofs.Stepping.{step_as, says_as, delivery_told, fed_told}
use Rattle.tg_client.proofs.Counted.{moved_room, fed_calls}
use Rattle.tg_protocol.specs.Clients.{Client}
use Rattle.tg_client.proofs.steps.delivered.Goals as goal

pub returns-in-None : goal.returns-in-None
returns-in-None g c = λ d h.
    let k = subst (λ (w : Option (WorkOf (means g.K.Kind g.K.Registry))). KeepsClient (means g.K.Kind g.K.Registry) c.args.state w d) c.in-None.is h in
    let i = idle (means g.K.Kind g.K.Registry) c.args.state d.view d.played in
    step_as (means g.K.Kind g.K.Registry) c.given.result _ _ (delivery_told (means g.K.Kind g.K.Registry) c.args.state d c.args.from c.args.rid c.args.msg.now (is_idle (means g.K.Kind g.K.Registry) c.args.state d k))
    (c.given.ensures i (moved (means g.K.Kind g.K.Registry) i []) c.args.state.rids.next refl (says_as (means g.K.Kind g.K.Registry) c.says.result c.args.state.rids.next i c.new.result [] c.new.ensures (c.says.ensures d.view d.played c.args.state.rids.next k.view)))

pub deliver-requires-clause-kept : goal.deliver-requires-clause-kept
deliver-requires-clause-kept g c = subst (λ (w : Option (WorkOf (means g.K.Kind g.K.Registry))). IsKept (means g.K.Kind g.K.Registry) c.args.state w) c.in-Some.is c.requires.kept

pub returns-in_ok-moved-in-Some : goal.returns-in_ok-moved-in-Some
returns-in_ok-moved-in-Some g c = λ d h.
    let k = subst (λ (w : Option (WorkOf (means g.K.Kind g.K.Registry))). KeepsClient (means g.K.Kind g.K.Registry) c.args.state w d) c.in-Some.is h in
    step_as (means g.K.Kind g.K.Registry) c.given-in-Some.result _ _ (fed_told (means g.K.Kind g.K.Registry) d c.args.from c.args.rid c.args.msg.now)
    (c.given-in-Some.ensures d (feed (means g.K.Kind g.K.Registry) d d.work c.args.from c.args.rid (reply c.args.msg.now)) c.args.state.rids.next (next_is (means g.K.Kind g.K.Registry) c.args.state (Some c.in-Some.work) d k) (c.in_ok-moved-in-Some.ensures d k))

pub given-requires : goal.given-requires
given-requires g c =
    let m = means g.K.Kind g.K.Registry in
    let k = c.requires.kept.client in
    let keeps = subst (λ (w : Option (WorkOf m)). KeepsClient m c.args.state w k) c.in-None.is c.requires.kept.keeps in
    let i = idle m c.args.state k.view k.played in
    moved_room m c.says.result c.args.state.rids.next c.args.state.calls (moved m i c.new.result) (c.says.ensures k.view k.played c.args.state.rids.next keeps.view) refl c.requires.room

pub given-requires-in-Some : goal.given-requires-in-Some
given-requires-in-Some g c =
    let m = means g.K.Kind g.K.Registry in
    let k = c.requires.kept.client in
    let keeps = subst (λ (w : Option (WorkOf m)). KeepsClient m c.args.state w k) c.in-Some.is c.requires.kept.keeps in
    moved_room m c.in_ok-moved-in-Some.moved c.args.state.rids.next c.args.state.calls (feed m k k.work c.args.from c.args.rid (reply c.args.msg.now)) (c.in_ok-moved-in-Some.ensures k keeps) (fed_calls m k c.args.from c.args.rid c.args.msg.now ∙ ap (λ (x : Client m). x.calls) keeps.is) c.requires.room
