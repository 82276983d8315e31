use Rattle.std.proofs.Common.{◌≡◌, ap, ◌∙◌, arith}
use Rattle.tg_base.specs.declared.packet.Rids.{Rids}
use Rattle.tg_play.proofs.Means.{means}
use Rattle.tg_protocol.specs.Reconfiguring.{reconf_start}
use Rattle.tg_reconf.specs.Turns.{by_reconf}
use Rattle.tg_client_state.specs.States.{StateOf}
use Rattle.tg_client_tasks.proofs.Starting.{change_begins}
use Rattle.tg_client_tasks.proofs.changing.begins_change.Goals as goal

pub returns : goal.returns
returns g c = λ r w old le hv hj.
    let m = means g.K.Kind g.K.Registry in
    let s : StateOf m = c.args.state in
    let i = c.deref.result.now.rids.next in
    let rids : c.deref.result.now.rids ≡ s.rids = ap (λ (u : StateOf m). u.rids) (c.deref.ensures ∙ c.state.view_is) in
    let proj : c.in_ok-proj.proj ≡ s.stand = c.in_ok-proj.ensures ∙ ap (λ (u : StateOf m). u.stand) (c.deref-2.ensures ∙ c.state.view_is) in
    let layouts : c.deref-3.result.now ≡ s = c.deref-3.ensures ∙ c.state.view_is in
    let num : c.deref-4.result.now ≡ s = c.deref-4.ensures ∙ c.state.view_is in
    let turn : by_reconf i (reconf_start c.in_ok-proj.proj c.deref-3.result.now.layouts c.args.change c.deref-4.result.now.num i) ≡ by_reconf i (reconf_start s.stand s.layouts c.args.change s.num i)
    = λ k. by_reconf i (reconf_start (proj k) (layouts k).layouts c.args.change (num k).num i) in
    c.on_reconf.ensures r w old (reconf_start s.stand s.layouts c.args.change s.num s.rids.next) (record { since = le; view = hv; job = hj })
    (change_begins s.stand s.layouts c.args.change s.num old s.rids.next c.deref.result.now.rids c.start.new.rids c.in_ok-step.step le (ap (λ (k : Rids). k.next) rids) (c.in_ok-step.ensures.turn ∙ turn))

pub start-requires-clause-numbers : goal.start-requires-clause-numbers
start-requires-clause-numbers g c =
    let old : c.deref.result.now.rids.next ≡ c.args.state.rids.next = ap (λ (s : StateOf (means g.K.Kind g.K.Registry)). s.rids.next) (c.deref.ensures ∙ c.state.view_is) in
    let near = c.requires.numbers in
    omega (arith, old, near)

pub on_reconf-requires : goal.on_reconf-requires
on_reconf-requires g c =
    let old : c.deref.result.now.rids.next ≡ c.args.state.rids.next = ap (λ (s : StateOf (means g.K.Kind g.K.Registry)). s.rids.next) (c.deref.ensures ∙ c.state.view_is) in
    let drawn = c.in_ok-step.ensures.drawn in
    let near = c.requires.numbers in
    omega (arith, old, drawn, near)
