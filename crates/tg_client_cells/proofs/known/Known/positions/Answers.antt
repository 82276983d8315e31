use Rattle.std.proofs.Common.{ap, ◌∙◌}
use Rattle.tg_protocol.specs.Words.{with_nums}
use Rattle.tg_stream.proofs.Subs.{ok_then}
use Rattle.tg_client_cells.specs.Words.{positions_of, within}
use Rattle.tg_client_cells.specs.Known.{Knowledge}
use Rattle.tg_client_cells.proofs.Gathering.{positions_are}
use Rattle.tg_client_cells.proofs.known.Known.positions.Goals as goal

pub returns : goal.returns
returns c =
    let members = within c.args.low c.args.high (positions_of c.args.found.now c.args.streams.now) in
    ok_then c.put_within.result c.put_within.ensures
    (λ p e.
    e
    ∙ ap (with_nums (within c.args.low c.args.high c.self.inside.own)) c.in_ok-members.ensures
    ∙ ap (λ (k : Knowledge). with_nums (within c.args.low c.args.high k.own) members) c.self.view_is
    ∙ positions_are c.args.self.now c.args.found.now c.args.streams.now c.args.low c.args.high)
