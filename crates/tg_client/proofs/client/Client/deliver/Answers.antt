use Rattle.std.proofs.Common.{sym, subst, ◌∙◌, arith}
use Rattle.tg_protocol.specs.ClientSteps.{client_deliver}
use Rattle.tg_play.proofs.Means.{means}
use Rattle.tg_client.specs.Kept.{Kept, KeepsClient}
use Rattle.std.specs.Prelude.{◌<◌}
use Rattle.tg_client.proofs.Counted.{has_numbers, deliver_counted}
use Rattle.tg_client.proofs.client.Client.deliver.Goals as goal

pub delivered-requires : goal.delivered-requires
delivered-requires g c =
    let m = means g.K.Kind g.K.Registry in
    let k = c.requires.kept in
    let room : c.args.self.state.calls < 200000 = c.requires.room in
    let numbers = has_numbers m c.args.self.state c.args.self.work k.client k.keeps.kept k.keeps.counted c.requires.room in
    record { kept = record { client = k.client; keeps = k.keeps.kept }; numbers = numbers; room = omega (arith, room) }

pub returns-clause-now : goal.returns-clause-now
returns-clause-now g c = λ d h.
    let m = means g.K.Kind g.K.Registry in
    subst (λ (k : Kept m). KeepsClient m k (client_deliver m d c.args.from c.args.rid c.args.msg.now).now) (sym c.after_step.ensures.now)
    (record { kept = (c.in_ok-moved.ensures d h.kept).now; counted = deliver_counted m d c.args.from c.args.rid c.args.msg.now (c.asks_few.ensures d h.kept) c.tells_few.ensures h.counted })

pub returns-clause-sends : goal.returns-clause-sends
returns-clause-sends g c = λ d h. c.after_step.ensures.sends ∙ (c.in_ok-moved.ensures d h.kept).sends

pub returns-clause-notes : goal.returns-clause-notes
returns-clause-notes g c = λ d h. c.after_step.ensures.notes ∙ (c.in_ok-moved.ensures d h.kept).notes
