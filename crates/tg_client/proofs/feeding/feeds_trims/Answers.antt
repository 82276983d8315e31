use Rattle.std.proofs.Common.{◌≡◌, ℕ, ap, sym, subst, ◌∙◌, arith}
use Rattle.std.specs.Prelude.{IfOk}
use Rattle.tg_play.proofs.Means.{means}
use Rattle.tg_protocol.specs.ClientSteps.{on_trims}
use Rattle.tg_client_state.specs.States.{StateOf, client_of, KeepsMoved}
use Rattle.tg_trim.specs.Turns.{shown, by_trim, trim_fed}
use Rattle.tg_client.proofs.Fed.{trim_fed_shown}
use Rattle.tg_client.proofs.feeding.feeds_trims.Goals as goal

pub returns : goal.returns
returns g c = λ r w h d.
    let m = means g.K.Kind g.K.Registry in
    let next = c.args.state.rids.next in
    let turn = trim_fed c.args.state.stand c.args.trims c.args.from c.args.rid c.args.msg.now next in
    let rids : c.deref.result.now.rids.next ≡ next = ap (λ (s : StateOf m). s.rids.next) (c.deref.ensures ∙ c.state.view_is) in
    let stand : c.deref-2.result.now ≡ c.args.state = c.deref-2.ensures ∙ c.state.view_is in
    let told : shown c.in_ok-step.step next ≡ by_trim c.args.state.stand next turn =
    c.in_ok-step.ensures.turn next ∙ ap (λ (s : StateOf m). by_trim s.stand next (trim_fed s.stand c.args.trims c.args.from c.args.rid c.args.msg.now next)) stand in
    subst (λ (b : ℕ). IfOk c.on_trims.result (λ x. KeepsMoved m next x (on_trims m (client_of m c.args.state r) w b turn))) c.below-below.ensures
    (c.on_trims.ensures r w next turn h
    (trim_fed_shown c.args.state.stand c.args.trims c.args.from c.args.rid c.args.msg.now next c.deref.result.now.rids.next c.in_ok-step.step (subst (λ (k : ℕ). shown c.in_ok-step.step k ≡ by_trim c.args.state.stand next turn) (sym rids) told) d))

pub on_trims-requires : goal.on_trims-requires
on_trims-requires g c =
    let old : c.deref.result.now.rids.next ≡ c.args.state.rids.next = ap (λ (s : StateOf (means g.K.Kind g.K.Registry)). s.rids.next) (c.deref.ensures ∙ c.state.view_is) in
    let near = c.requires in
    omega (arith, old, near)
