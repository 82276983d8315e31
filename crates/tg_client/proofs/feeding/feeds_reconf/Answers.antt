use Rattle.std.proofs.Common.{◌≡◌, ap, ◌∙◌, arith}
use Rattle.tg_reconf.specs.Turns.{by_reconf, fed}
use Rattle.tg_client.proofs.Fed.{reconf_fed_shown}
use Rattle.tg_play.proofs.Means.{means}
use Rattle.tg_client_state.specs.States.{StateOf}
use Rattle.tg_client.proofs.feeding.feeds_reconf.Goals as goal

pub returns : goal.returns
returns g c = λ r w h.
    let rids : c.deref.result.now.rids ≡ c.args.state.rids = ap (λ (s : StateOf (means g.K.Kind g.K.Registry)). s.rids) (c.deref.ensures ∙ c.state.view_is) in
    let turn : by_reconf c.deref.result.now.rids.next (fed c.args.reconf c.args.from c.args.rid c.args.msg.now c.deref.result.now.rids.next)
    ≡ by_reconf c.args.state.rids.next (fed c.args.reconf c.args.from c.args.rid c.args.msg.now c.args.state.rids.next)
    = λ i. by_reconf (rids i).next (fed c.args.reconf c.args.from c.args.rid c.args.msg.now (rids i).next) in
    c.on_reconf.ensures r w c.args.state.rids.next (fed c.args.reconf c.args.from c.args.rid c.args.msg.now c.args.state.rids.next) h
    (reconf_fed_shown c.args.reconf c.args.from c.args.rid c.args.msg.now c.args.state.rids.next c.feed.new.rids.next c.in_ok-step.step (c.in_ok-step.ensures.turn ∙ turn) c.requires.drawn.all)

pub feed-requires-clause-numbers : goal.feed-requires-clause-numbers
feed-requires-clause-numbers g c =
    let old : c.deref.result.now.rids.next ≡ c.args.state.rids.next = ap (λ (s : StateOf (means g.K.Kind g.K.Registry)). s.rids.next) (c.deref.ensures ∙ c.state.view_is) in
    let near = c.requires.numbers in
    omega (arith, old, near)

pub on_reconf-requires : goal.on_reconf-requires
on_reconf-requires g c =
    let old : c.deref.result.now.rids.next ≡ c.args.state.rids.next = ap (λ (s : StateOf (means g.K.Kind g.K.Registry)). s.rids.next) (c.deref.ensures ∙ c.state.view_is) in
    let drawn = c.in_ok-step.ensures.drawn in
    let near = c.requires.numbers in
    omega (arith, old, drawn, near)
