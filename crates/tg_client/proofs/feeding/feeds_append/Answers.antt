use Rattle.std.proofs.Common.{◌≡◌, ap, ◌∙◌, arith}
use Rattle.tg_append.specs.Appends.{append_fed, by_append}
use Rattle.tg_client.proofs.Fed.{append_shown}
use Rattle.tg_play.proofs.Means.{means}
use Rattle.tg_client_state.specs.States.{StateOf}
use Rattle.tg_client.proofs.feeding.feeds_append.Goals as goal

pub returns : goal.returns
returns g c = λ r w h d near.
    let rids : c.deref.result.now.rids ≡ c.args.state.rids = ap (λ (s : StateOf (means g.K.Kind g.K.Registry)). s.rids) (c.deref.ensures ∙ c.state.view_is) in
    let stand : c.deref-2.result.now ≡ c.args.state = c.deref-2.ensures ∙ c.state.view_is in
    let turn : by_append c.deref-2.result.now.stand c.deref.result.now.rids.next (append_fed c.deref-2.result.now.stand c.args.append c.args.from c.args.rid c.args.msg.now c.deref.result.now.rids.next)
    ≡ by_append c.args.state.stand c.args.state.rids.next (append_fed c.args.state.stand c.args.append c.args.from c.args.rid c.args.msg.now c.args.state.rids.next)
    = λ i. by_append (stand i).stand (rids i).next (append_fed (stand i).stand c.args.append c.args.from c.args.rid c.args.msg.now (rids i).next) in
    c.on_append.ensures r w c.args.state.rids.next (append_fed c.args.state.stand c.args.append c.args.from c.args.rid c.args.msg.now c.args.state.rids.next) h
    (append_shown c.args.state.stand c.args.append c.args.from c.args.rid c.args.msg.now c.args.state.rids.next c.feed.new.rids.next c.in_ok-step.step (c.in_ok-step.ensures.turn ∙ turn) d near)

pub feed-requires : goal.feed-requires
feed-requires g c =
    let old : c.deref.result.now.rids.next ≡ c.args.state.rids.next = ap (λ (s : StateOf (means g.K.Kind g.K.Registry)). s.rids.next) (c.deref.ensures ∙ c.state.view_is) in
    let near = c.requires in
    omega (arith, old, near)

pub on_append-requires : goal.on_append-requires
on_append-requires g c =
    let old : c.deref.result.now.rids.next ≡ c.args.state.rids.next = ap (λ (s : StateOf (means g.K.Kind g.K.Registry)). s.rids.next) (c.deref.ensures ∙ c.state.view_is) in
    let drawn = c.in_ok-step.ensures.drawn in
    let near = c.requires in
    omega (arith, old, drawn, near)
