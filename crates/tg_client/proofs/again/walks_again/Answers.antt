use Rattle.std.proofs.Common.{ap, ◌∙◌, ◌≡◌, arith}
use Rattle.tg_play.proofs.Means.{means}
use Rattle.tg_client.proofs.Resumed.{walk_resumes, walk_again_fit}
use Rattle.tg_client_state.specs.States.{StateOf}
use Rattle.tg_stream.specs.Turns.{by_walk}
use Rattle.tg_stream.specs.Walks.{walk_of}
use Rattle.tg_protocol.specs.Walking.{walk_again}
use Rattle.tg_client.proofs.Near.{near_after}
use Rattle.tg_client.proofs.again.walks_again.Goals as goal

pub on_walk-requires-clause-fit : goal.on_walk-requires-clause-fit
on_walk-requires-clause-fit g c = walk_again_fit (means g.K.Kind g.K.Registry) c.deref-2.result.now.stand c.args.state.known c.args.walk c.deref.result.now.rids.next c.resume.new.rids.next c.in_ok-step.step c.in_ok-step.ensures.turn c.requires.fit

pub returns : goal.returns
returns g c = λ r w old t h k.
    walk_resumes (means g.K.Kind g.K.Registry) t c.on_walk.result c.args.state c.args.job r w old c.args.walk c.oid-oid.result c.args.rest c.deref.result.now.rids c.resume.new.rids.next c.in_ok-step.step h k c.requires.fit c.oid-oid.ensures (ap (λ (s : StateOf (means g.K.Kind g.K.Registry)). s.rids) (c.deref.ensures ∙ c.state.view_is)) (λ b. c.in_ok-step.ensures.turn b ∙ ap (λ (s : StateOf (means g.K.Kind g.K.Registry)). by_walk c.deref.result.now.rids.next (walk_again s.stand (walk_of c.args.walk b) c.deref.result.now.rids.next)) (c.deref-2.ensures ∙ c.state.view_is))
    (λ u l. c.on_walk.ensures r w old u h l)

pub resume-requires : goal.resume-requires
resume-requires g c =
    let old : c.deref.result.now.rids.next ≡ c.args.state.rids.next = ap (λ (s : StateOf (means g.K.Kind g.K.Registry)). s.rids.next) (c.deref.ensures ∙ c.state.view_is) in
    let near = c.requires.numbers.next in
    omega (arith, old, near)

pub on_walk-requires-clause-numbers : goal.on_walk-requires-clause-numbers
on_walk-requires-clause-numbers g c =
    let old : c.deref.result.now.rids.next ≡ c.args.state.rids.next = ap (λ (s : StateOf (means g.K.Kind g.K.Registry)). s.rids.next) (c.deref.ensures ∙ c.state.view_is) in
    let drawn = c.in_ok-step.ensures.drawn in
    near_after _ _ _ _ _ c.requires.numbers (omega (arith, old, drawn))
