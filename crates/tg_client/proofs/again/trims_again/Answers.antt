use Rattle.std.proofs.Common.{ap, ◌∙◌, ◌≡◌, arith}
use Rattle.tg_play.proofs.Means.{means}
use Rattle.tg_client.proofs.Resumed.{trims_resume}
use Rattle.tg_client_state.specs.States.{StateOf}
use Rattle.tg_trim.specs.Turns.{by_trim}
use Rattle.tg_protocol.specs.Trimming.{trim_start}
use Rattle.tg_client.proofs.again.trims_again.Goals as goal

pub returns : goal.returns
returns g c = λ r w old t h k.
    trims_resume (means g.K.Kind g.K.Registry) t c.on_trims.result c.args.state c.args.job r w old c.args.below c.deref.result.now.rids c.start.new.rids.next c.in_ok-step.step h k (ap (λ (s : StateOf (means g.K.Kind g.K.Registry)). s.rids) (c.deref.ensures ∙ c.state.view_is)) (c.in_ok-step.ensures.turn ∙ ap (λ (s : StateOf (means g.K.Kind g.K.Registry)). by_trim s.stand c.deref.result.now.rids.next (trim_start s.stand c.args.below c.deref.result.now.rids.next)) (c.deref-2.ensures ∙ c.state.view_is)) (λ u l. c.on_trims.ensures r w old u h l)

pub start-requires : goal.start-requires
start-requires g c =
    let old : c.deref.result.now.rids.next ≡ c.args.state.rids.next = ap (λ (s : StateOf (means g.K.Kind g.K.Registry)). s.rids.next) (c.deref.ensures ∙ c.state.view_is) in
    let near = c.requires in
    omega (arith, old, near)

pub on_trims-requires : goal.on_trims-requires
on_trims-requires g c =
    let old : c.deref.result.now.rids.next ≡ c.args.state.rids.next = ap (λ (s : StateOf (means g.K.Kind g.K.Registry)). s.rids.next) (c.deref.ensures ∙ c.state.view_is) in
    let drawn = c.in_ok-step.ensures.drawn in
    let near = c.requires in
    omega (arith, old, drawn, near)
