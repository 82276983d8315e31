use Rattle.std.proofs.Common.{◌≡◌, sym, ap, ◌∙◌, arith}
use Rattle.tg_copy.specs.Turns.{by_copy}
use Rattle.tg_copy.specs.Copies.{copy_fed}
use Rattle.tg_client.proofs.Fed.{copy_fed_shown}
use Rattle.tg_play.proofs.Means.{means}
use Rattle.tg_client_state.specs.States.{StateOf}
use Rattle.tg_client.proofs.feeding.feeds_copy.Goals as goal

pub returns : goal.returns
returns g c = λ r w h d.
    let rids : c.deref.result.now.rids ≡ c.args.state.rids = ap (λ (s : StateOf (means g.K.Kind g.K.Registry)). s.rids) (c.deref.ensures ∙ c.state.view_is) in
    let stand : c.deref-2.result.now ≡ c.args.state = c.deref-2.ensures ∙ c.state.view_is in
    let turn : by_copy c.deref-2.result.now.stand c.deref.result.now.rids.next (copy_fed c.deref-2.result.now.stand c.args.copy c.args.from c.args.rid c.args.msg.now c.deref.result.now.rids.next)
    ≡ by_copy c.args.state.stand c.args.state.rids.next (copy_fed c.args.state.stand c.args.copy c.args.from c.args.rid c.args.msg.now c.args.state.rids.next)
    = λ i. by_copy (stand i).stand (rids i).next (copy_fed (stand i).stand c.args.copy c.args.from c.args.rid c.args.msg.now (rids i).next) in
    c.on_copy.ensures r w c.args.state.rids.next c.args.copy (copy_fed c.args.state.stand c.args.copy c.args.from c.args.rid c.args.msg.now c.args.state.rids.next) h (sym c.spare-spare.ensures)
    (copy_fed_shown c.args.state.stand c.args.copy c.args.from c.args.rid c.args.msg.now c.args.state.rids.next c.feed.new.rids.next c.in_ok-step.step (c.in_ok-step.ensures.turn ∙ turn) d c.requires.there)

pub feed-requires-clause-numbers : goal.feed-requires-clause-numbers
feed-requires-clause-numbers g c =
    let old : c.deref.result.now.rids.next ≡ c.args.state.rids.next = ap (λ (s : StateOf (means g.K.Kind g.K.Registry)). s.rids.next) (c.deref.ensures ∙ c.state.view_is) in
    let near = c.requires.numbers in
    omega (arith, old, near)

pub on_copy-requires : goal.on_copy-requires
on_copy-requires g c =
    let old : c.deref.result.now.rids.next ≡ c.args.state.rids.next = ap (λ (s : StateOf (means g.K.Kind g.K.Registry)). s.rids.next) (c.deref.ensures ∙ c.state.view_is) in
    let drawn = c.in_ok-step.ensures.drawn in
    let near = c.requires.numbers in
    omega (arith, old, drawn, near)
