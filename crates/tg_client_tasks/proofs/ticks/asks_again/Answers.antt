use Rattle.std.proofs.Common.{ap, ◌∙◌}
use Rattle.std.specs.Prelude.{◌+◌, ◌++◌}
use Rattle.tg_play.proofs.Means.{means}
use Rattle.tg_protocol.specs.ClientSteps.{hand_again_asks, asks_latest}
use Rattle.tg_protocol.specs.Requests.{waits_for}
use Rattle.tg_protocol.specs.Words.{numbers}
use Rattle.tg_client_state.specs.States.{StateOf}
use Rattle.tg_client_tasks.proofs.Ticking.{given_fit}
use Rattle.tg_client_tasks.proofs.ticks.asks_again.Goals as goal

pub outstanding-requires-clause-fit : goal.outstanding-requires-clause-fit
outstanding-requires-clause-fit g c = given_fit (means g.K.Kind g.K.Registry) c.args.state c.args.work c.requires.kept

pub returns : goal.returns
returns g c = λ x h.
    let m = means g.K.Kind g.K.Registry in
    c.asked.ensures x (record {
      later = c.in_ok-sends.ensures.next ∙ ap (λ (s : StateOf m). s.rids.next + c.args.state.layouts) (c.deref.ensures ∙ c.state.view_is);
      sent = λ u k. c.in_ok-sends.ensures.sends u k ∙ ap (λ (s : StateOf m). hand_again_asks m c.args.state.stand u ++ asks_latest m (waits_for (numbers c.args.state.layouts 0) s.rids.next)) (c.deref.ensures ∙ c.state.view_is);
    }) h
