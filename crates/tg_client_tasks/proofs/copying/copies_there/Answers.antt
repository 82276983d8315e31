use Rattle.std.proofs.Common.{ap, ◌∙◌, ◌≡◌, arith}
use Rattle.tg_base.specs.declared.packet.Rids.{Rids}
use Rattle.tg_protocol.specs.Trimming.{copy_start}
use Rattle.tg_client_tasks.proofs.Starting.{copy_begins}
use Rattle.tg_copy.specs.Turns.{by_copy}
use Rattle.tg_play.proofs.Means.{means}
use Rattle.tg_client_state.specs.States.{StateOf}
use Rattle.tg_client_tasks.proofs.copying.copies_there.Goals as goal

pub returns : goal.returns
returns g c = λ r w old b le hv hj e.
    c.on_copy.ensures r w old b (copy_start b.unit b.range b.stripe c.args.state.rids.next) (record { since = le; view = hv; job = hj }) e
    (copy_begins c.args.state.stand c.args.spare b old c.args.state.rids.next c.deref.result.now.rids c.start.new.rids c.in_ok-step.step le c.requires.there (ap (λ (i : Rids). i.next) (ap (λ (s : StateOf (means g.K.Kind g.K.Registry)). s.rids) (c.deref.ensures ∙ c.state.view_is))) e (c.in_ok-step.ensures.turn ∙ ap (λ (s : StateOf (means g.K.Kind g.K.Registry)). by_copy s.stand c.deref.result.now.rids.next (copy_start c.args.spare.unit c.args.spare.range c.args.spare.stripe c.deref.result.now.rids.next)) (c.deref-2.ensures ∙ c.state.view_is)))

pub start-requires-clause-numbers : goal.start-requires-clause-numbers
start-requires-clause-numbers g c =
    let old : c.deref.result.now.rids.next ≡ c.args.state.rids.next = ap (λ (s : StateOf (means g.K.Kind g.K.Registry)). s.rids.next) (c.deref.ensures ∙ c.state.view_is) in
    let near = c.requires.numbers in
    omega (arith, old, near)

pub on_copy-requires : goal.on_copy-requires
on_copy-requires g c =
    let old : c.deref.result.now.rids.next ≡ c.args.state.rids.next = ap (λ (s : StateOf (means g.K.Kind g.K.Registry)). s.rids.next) (c.deref.ensures ∙ c.state.view_is) in
    let drawn = c.in_ok-step.ensures.drawn in
    let near = c.requires.numbers in
    omega (arith, old, drawn, near)
