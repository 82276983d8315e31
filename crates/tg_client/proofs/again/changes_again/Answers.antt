use Rattle.std.proofs.Common.{◌≡◌, subst, ap, ◌∙◌, arith}
use Rattle.tg_base.specs.declared.packet.Rids.{Rids}
use Rattle.tg_protocol.specs.Reconfiguring.{reconf_latest}
use Rattle.tg_reconf.specs.Turns.{shown, by_reconf}
use Rattle.tg_client.proofs.Fed.{reconf_latest_shown}
use Rattle.tg_play.proofs.Means.{means}
use Rattle.tg_client_state.specs.States.{StateOf}
use Rattle.tg_client.proofs.again.changes_again.Goals as goal

pub returns : goal.returns
returns g c = λ r w h.
    c.on_reconf.ensures r w c.args.state.rids.next (reconf_latest c.args.reconf c.args.reconf.work c.args.server c.args.rid c.args.proj c.args.state.rids.next) h
    (reconf_latest_shown c.args.reconf c.args.server c.args.rid c.args.proj c.args.state.rids.next c.latest.new.rids.next c.in_ok-step.step
    (subst (λ (i : Rids). shown c.in_ok-step.step c.latest.new.rids.next ≡ by_reconf i.next (reconf_latest c.args.reconf c.args.reconf.work c.args.server c.args.rid c.args.proj i.next)) (ap (λ (s : StateOf (means g.K.Kind g.K.Registry)). s.rids) (c.deref.ensures ∙ c.state.view_is)) c.in_ok-step.ensures.turn) c.requires.drawn.all)

pub latest-requires-clause-numbers : goal.latest-requires-clause-numbers
latest-requires-clause-numbers g c =
    let old : c.deref.result.now.rids.next ≡ c.args.state.rids.next = ap (λ (s : StateOf (means g.K.Kind g.K.Registry)). s.rids.next) (c.deref.ensures ∙ c.state.view_is) in
    let near = c.requires.numbers in
    omega (arith, old, near)

pub on_reconf-requires : goal.on_reconf-requires
on_reconf-requires g c =
    let old : c.deref.result.now.rids.next ≡ c.args.state.rids.next = ap (λ (s : StateOf (means g.K.Kind g.K.Registry)). s.rids.next) (c.deref.ensures ∙ c.state.view_is) in
    let drawn = c.in_ok-step.ensures.drawn in
    let near = c.requires.numbers in
    omega (arith, old, drawn, near)
