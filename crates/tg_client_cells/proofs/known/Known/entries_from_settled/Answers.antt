use Rattle.std.proofs.Common.{ap, subst, ◌∙◌}
use Rattle.tg_stream.proofs.Subs.{ok_then}
use Rattle.tg_client_cells.specs.Words.{within, below, entries_at}
use Rattle.tg_client_cells.specs.Known.{Knowledge, all_positions, CommitsBelow}
use Rattle.tg_client_cells.proofs.Finding.{commits_at}
use Rattle.tg_client_cells.proofs.Gathering.{new_are}
use Rattle.tg_client_cells.proofs.known.Known.entries_from_settled.Goals as goal

pub returns-in_err-positions-clause-others : goal.returns-in_err-positions-clause-others
returns-in_err-positions-clause-others c =
    let here = below c.args.tail (all_positions c.args.self.now c.args.found.now c.args.streams.now) in
    subst (λ (k : Knowledge). CommitsBelow k.settled (entries_at k.cells here)) c.self.view_is (commits_at c.self.inside.own c.self.inside.settled c.self.inside.cells.entries here c.self.invariant)

pub returns-clause-entries : goal.returns-clause-entries
returns-clause-entries c =
    let all = all_positions c.args.self.now c.args.found.now c.args.streams.now in
    ok_then c.entries_at.result c.entries_at.ensures.entries
    (λ es e.
    e
    ∙ ap (entries_at c.self.inside.cells.entries) c.in_ok-positions.ensures
    ∙ ap (λ (k : Knowledge). entries_at k.cells (within k.settled c.args.tail all)) c.self.view_is
    ∙ new_are c.args.self.now c.args.found.now c.args.streams.now c.args.tail)

pub returns-clause-others : goal.returns-clause-others
returns-clause-others c =
    let here = below c.args.tail (all_positions c.args.self.now c.args.found.now c.args.streams.now) in
    subst (λ (k : Knowledge). CommitsBelow k.settled (entries_at k.cells here)) c.self.view_is (commits_at c.self.inside.own c.self.inside.settled c.self.inside.cells.entries here c.self.invariant)
