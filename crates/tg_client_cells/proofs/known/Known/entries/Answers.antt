use Rattle.std.proofs.Common.{ap, ◌∙◌}
use Rattle.tg_entry.specs.Drafts.{all_below}
use Rattle.tg_stream.proofs.Subs.{ok_then}
use Rattle.tg_client_cells.specs.Words.{within, entries_at}
use Rattle.tg_client_cells.specs.Known.{Knowledge, all_positions}
use Rattle.tg_client_cells.proofs.Gathering.{all_are, all_below_tail}
use Rattle.tg_client_cells.proofs.known.Known.entries.Goals as goal

pub returns-clause-entries : goal.returns-clause-entries
returns-clause-entries c =
    let here = within 0 c.args.tail (all_positions c.args.self.now c.args.found.now c.args.streams.now) in
    ok_then c.entries_at.result c.entries_at.ensures.entries
    (λ es e.
    e
    ∙ ap (entries_at c.self.inside.cells.entries) c.in_ok-positions.ensures
    ∙ ap (λ (k : Knowledge). entries_at k.cells here) c.self.view_is
    ∙ all_are c.args.self.now c.args.found.now c.args.streams.now c.args.tail)

pub returns-clause-below : goal.returns-clause-below
returns-clause-below c =
    let here = within 0 c.args.tail (all_positions c.args.self.now c.args.found.now c.args.streams.now) in
    ok_then c.entries_at.result c.entries_at.ensures.entries
    (λ es e.
    ap (all_below c.args.tail)
    (e
    ∙ ap (entries_at c.self.inside.cells.entries) c.in_ok-positions.ensures
    ∙ ap (λ (k : Knowledge). entries_at k.cells here) c.self.view_is
    ∙ all_are c.args.self.now c.args.found.now c.args.streams.now c.args.tail)
    ∙ all_below_tail c.args.self.now c.args.found.now c.args.streams.now c.args.tail)
