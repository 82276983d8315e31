use Rattle.std.proofs.Common.{◌≡◌, length}
use Rattle.tg_replay.specs.Runs.{line_on}
use Rattle.tg_live.proofs.Packets.{made_over}
use Rattle.tg_live.proofs.Steps.{line_grows}
use Rattle.tg_live.specs.Sends.{carried}
use Rattle.tg_live.proofs.Breaking.{on_err, front_none, front_made}
use Rattle.tg_live.proofs.live.make_over.Goals as goal

pub returns-clause-kept : goal.returns-clause-kept
returns-clause-kept g c = record {
  world = (line_on c.requires.kept.world c.args.line).world;
  keeps = c.in_ok-ran.ensures.world c.requires.kept.world c.requires.kept.keeps;
}

pub returns-clause-sent : goal.returns-clause-sent
returns-clause-sent g c = λ w k fit.
    let many : c.sent-from.result ≡ length w.packets = c.sent-from.ensures w k in
    made_over w.packets (line_on w c.args.line).world.packets c.sent-from.result c.args.book.now c.send_from.new.book (carried (g.L.Link.sent c.args.link.now) (g.L.Link.acts c.args.link.now)) (carried (g.L.Link.sent c.send_from.new.link) (g.L.Link.acts c.send_from.new.link))
    (line_grows w c.args.line c.requires.steps) many fit
    (λ le fits. c.in_ok-send_from.ensures.sent (line_on w c.args.line).world (c.in_ok-ran.ensures.world w k) le fits)

pub returns-in_err-ran-clause-broken : goal.returns-in_err-ran-clause-broken
returns-in_err-ran-clause-broken g c = λ w k fit. on_err c.from_residual.result (front_none (g.L.Link.acts c.args.link.now) _)

pub returns-in_err-send_from-clause-broken : goal.returns-in_err-send_from-clause-broken
returns-in_err-send_from-clause-broken g c = λ w k fit.
    let many : c.sent-from.result ≡ length w.packets = c.sent-from.ensures w k in
    on_err c.from_residual-in_err-send_from.result (front_made w.packets (line_on w c.args.line).world.packets c.sent-from.result (g.L.Link.acts c.args.link.now) (g.L.Link.acts c.send_from.new.link)
    (line_grows w c.args.line c.requires.steps) many fit
    (λ le fits. c.in_err-send_from.ensures.broken (line_on w c.args.line).world (c.in_ok-ran.ensures.world w k) le fits))
