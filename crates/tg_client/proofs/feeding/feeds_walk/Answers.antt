use Rattle.std.proofs.Common.{◌≡◌, ap, ◌∙◌, arith}
use Rattle.std.specs.Prelude.{IfOk}
use Rattle.tg_play.proofs.Means.{means}
use Rattle.tg_stream.specs.Turns.{by_walk}
use Rattle.tg_stream.specs.Walks.{walk_fed}
use Rattle.tg_client_state.specs.States.{StateOf, client_of, KeepsMoved}
use Rattle.tg_client.proofs.Fed.{walk_fed_shown, walk_fed_fit, from_oid}
use Rattle.tg_client.proofs.Near.{near_after}
use Rattle.tg_client.proofs.feeding.feeds_walk.Goals as goal

pub on_walk-requires-clause-fit : goal.on_walk-requires-clause-fit
on_walk-requires-clause-fit g c =
    walk_fed_fit (means g.K.Kind g.K.Registry) c.deref-2.result.now.stand c.args.state.known c.args.walk c.args.from c.args.rid c.args.msg.now c.deref.result.now.rids.next c.feed.new.rids.next c.in_ok-step.step c.in_ok-step.ensures.turn c.requires.walks

pub returns : goal.returns
returns g c = λ r w h d.
    let rids : c.deref.result.now.rids ≡ c.args.state.rids = ap (λ (s : StateOf (means g.K.Kind g.K.Registry)). s.rids) (c.deref.ensures ∙ c.state.view_is) in
    let stand : c.deref-2.result.now ≡ c.args.state = c.deref-2.ensures ∙ c.state.view_is in
    let turn : by_walk c.deref.result.now.rids.next (walk_fed c.deref-2.result.now.stand c.args.walk c.args.from c.args.rid c.args.msg.now c.deref.result.now.rids.next)
    ≡ by_walk c.args.state.rids.next (walk_fed c.args.state.stand c.args.walk c.args.from c.args.rid c.args.msg.now c.args.state.rids.next)
    = λ i. by_walk (rids i).next (walk_fed (stand i).stand c.args.walk c.args.from c.args.rid c.args.msg.now (rids i).next) in
    from_oid (means g.K.Kind g.K.Registry) (λ z. IfOk c.on_walk.result (λ x. KeepsMoved (means g.K.Kind g.K.Registry) c.args.state.rids.next x z)) (client_of (means g.K.Kind g.K.Registry) c.args.state r) w c.oid-oid.result c.args.walk.oid c.args.rest
    (walk_fed c.args.state.stand c.args.walk c.args.from c.args.rid c.args.msg.now c.args.state.rids.next) c.oid-oid.ensures
    (c.on_walk.ensures r w c.args.state.rids.next (walk_fed c.args.state.stand c.args.walk c.args.from c.args.rid c.args.msg.now c.args.state.rids.next) h
    (walk_fed_shown (means g.K.Kind g.K.Registry) c.args.state.stand c.args.state.known c.args.walk c.args.from c.args.rid c.args.msg.now c.args.state.rids.next c.feed.new.rids.next c.in_ok-step.step (c.in_ok-step.ensures.turn ∙ turn) d c.requires.walks))

pub feed-requires : goal.feed-requires
feed-requires g c =
    let old : c.deref.result.now.rids.next ≡ c.args.state.rids.next = ap (λ (s : StateOf (means g.K.Kind g.K.Registry)). s.rids.next) (c.deref.ensures ∙ c.state.view_is) in
    let near = c.requires.numbers.next in
    omega (arith, old, near)

pub on_walk-requires-clause-numbers : goal.on_walk-requires-clause-numbers
on_walk-requires-clause-numbers g c =
    let old : c.deref.result.now.rids.next ≡ c.args.state.rids.next = ap (λ (s : StateOf (means g.K.Kind g.K.Registry)). s.rids.next) (c.deref.ensures ∙ c.state.view_is) in
    let drawn = c.in_ok-step.ensures.drawn in
    near_after _ _ _ _ _ c.requires.numbers (omega (arith, old, drawn))
