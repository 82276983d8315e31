use Rattle.std.proofs.Common.{None, cond, sym, ap, ◌∙◌}
use Rattle.tg_protocol.specs.Words.{cell_at}
use Rattle.tg_stream.proofs.Subs.{ok_then}
use Rattle.tg_client_cells.specs.Words.{commit_of}
use Rattle.tg_protocol.specs.Pages.{cell_entry}
use Rattle.tg_client_cells.specs.Known.{Knowledge}
use Rattle.tg_client_cells.proofs.Gathering.{commit_is}
use Rattle.tg_client_cells.proofs.known.Known.commit_at.Goals as goal

pub returns-then-not-has : goal.returns-then-not-has
returns-then-not-has c =
    let entry = commit_of (cell_entry (cell_at c.args.self.now.cells c.args.pos)) in
    sym (commit_is c.args.self.now c.args.found.now c.args.streams.now c.args.tail c.args.pos c.has.result c.has.ensures ∙ ap (λ b. cond b entry None) c.if-not-has.true)

pub returns : goal.returns
returns c =
    let entry = commit_of (cell_entry (cell_at c.args.self.now.cells c.args.pos)) in
    ok_then c.commit_at.result c.commit_at.ensures
    (λ e h.
    h
    ∙ ap (λ (k : Knowledge). commit_of (cell_entry (cell_at k.cells c.args.pos))) c.self.view_is
    ∙ sym (commit_is c.args.self.now c.args.found.now c.args.streams.now c.args.tail c.args.pos c.has.result c.has.ensures ∙ ap (λ b. cond b entry None) c.if-not-has.false))
