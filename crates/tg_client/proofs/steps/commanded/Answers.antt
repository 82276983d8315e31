use Rattle.std.proofs.Common.{Option, Some, None, [], refl, subst}
use Rattle.tg_client_state.specs.Tasks.{WorkOf}
use Rattle.tg_client_state.specs.States.{KeepsClient}
use Rattle.tg_play.proofs.Means.{means}
use Rattle.tg_protocol.specs.Clients.{refusal}
use Rattle.tg_protocol.specs.ClientSteps.{refused_or}
use Rattle.tg_client_tasks.specs.Idle.{idle}
use Rattle.tg_client_tasks.proofs.Said.{is_idle}
use Rattle.tg_client_tasks.proofs.Stepping.{step_as, command_told}
use Rattle.tg_client.proofs.Counted.{moved_room, commanded_calls}
use Rattle.tg_client.proofs.steps.commanded.Goals as goal

pub returns-in-Some : goal.returns-in-Some
returns-in-Some g c = λ d h. c.busy.ensures d c.args.command (subst (λ (w : Option (WorkOf (means g.K.Kind g.K.Registry))). KeepsClient (means g.K.Kind g.K.Registry) c.args.state w d) c.in-Some.is h)

pub returns-in_ok-moved-in-None : goal.returns-in_ok-moved-in-None
returns-in_ok-moved-in-None g c = λ d h.
    let k = subst (λ (w : Option (WorkOf (means g.K.Kind g.K.Registry))). KeepsClient (means g.K.Kind g.K.Registry) c.args.state w d) c.in-None.is h in
    let i = idle (means g.K.Kind g.K.Registry) c.args.state d.view d.played in
    step_as (means g.K.Kind g.K.Registry) c.given.result _ _ (command_told (means g.K.Kind g.K.Registry) c.args.state d c.args.command (is_idle (means g.K.Kind g.K.Registry) c.args.state d k))
    (c.given.ensures i (refused_or (means g.K.Kind g.K.Registry) i c.args.command (refusal (means g.K.Kind g.K.Registry) i c.args.command)) c.args.state.rids.next refl (c.in_ok-moved-in-None.ensures d.view d.played k.view))

pub given-requires : goal.given-requires
given-requires g c =
    let m = means g.K.Kind g.K.Registry in
    let k = c.requires.kept.client in
    let keeps = subst (λ (w : Option (WorkOf m)). KeepsClient m c.args.state w k) c.in-None.is c.requires.kept.keeps in
    let i = idle m c.args.state k.view k.played in
    moved_room m c.in_ok-moved-in-None.moved c.args.state.rids.next c.args.state.calls (refused_or m i c.args.command (refusal m i c.args.command)) (c.in_ok-moved-in-None.ensures k.view k.played keeps.view) (commanded_calls m i c.args.command) c.requires.room
