use Rattle.std.proofs.Common.{◌≡◌, ◌<◌, ◌∙◌, ap, subst}
use Rattle.std.specs.Prelude.{◌^◌}
use Rattle.tg_base.specs.Layouts.{Layout, IsLayout}
use Rattle.tg_play.proofs.Means.{means}
use Rattle.tg_client_state.specs.States.{StateOf}
use Rattle.tg_client.proofs.Bounded.{idle_client_few, busy_client_few}
use Rattle.tg_client.proofs.few.asks_few.Goals as goal

pub returns-in-Some : goal.returns-in-Some
returns-in-Some g c = λ d h.
    let m = means g.K.Kind g.K.Registry in
    let was : c.deref.result.now ≡ c.args.state.now = c.deref.ensures ∙ c.state.view_is in
    let was_here : c.deref-2.result.now ≡ c.args.state.now = c.deref-2.ensures ∙ c.state.view_is in
    let less : c.args.state.now.layouts < 2 ^ 16 = subst (λ (s : StateOf m). s.layouts < 2 ^ 16) was c.few_servers.ensures in
    let rules : IsLayout c.args.state.now.stand = subst (λ (s : StateOf m). IsLayout s.stand) was_here c.rules.ensures.rules in
    busy_client_few m c.args.state.now c.args.work.now c.in-Some.work d less rules c.in-Some.is c.hand_asks_few.ensures h

pub returns-in_default : goal.returns-in_default
returns-in_default g c = λ d h.
    let m = means g.K.Kind g.K.Registry in
    let was : c.deref.result.now ≡ c.args.state.now = c.deref.ensures ∙ c.state.view_is in
    let was_here : c.deref-2.result.now ≡ c.args.state.now = c.deref-2.ensures ∙ c.state.view_is in
    let less : c.args.state.now.layouts < 2 ^ 16 = subst (λ (s : StateOf m). s.layouts < 2 ^ 16) was c.few_servers.ensures in
    let rules : IsLayout c.args.state.now.stand = subst (λ (s : StateOf m). IsLayout s.stand) was_here c.rules.ensures.rules in
    idle_client_few m c.args.state.now c.args.work.now d less rules c.in_default.is h
