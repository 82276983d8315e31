use Rattle.std.proofs.Common.{ℕ, List, ap, sym, subst, ◌∙◌}
use Rattle.std.specs.Prelude.{min}
use Rattle.tg_base.specs.declared.cell.Cell.{Cell}
use Rattle.tg_protocol.specs.Words.{with_cell}
use Rattle.tg_client_cells.specs.Known.{Knowledge, IsSettled, learnt}
use Rattle.tg_client_cells.proofs.Making.{made}
use Rattle.tg_client_cells.proofs.Settling.{learnt_settled}
use Rattle.tg_client_cells.proofs.known.Known.learn.Goals as goal

pub invariant_of-result : goal.invariant_of-result
invariant_of-result c =
    subst (λ n. IsSettled c.self.inside.own n c.insert.new.self.entries) (sym c.min.ensures)
    (subst (λ (cs : List (ℕ × Cell)). IsSettled c.self.inside.own (min c.self.inside.settled c.args.pos) cs) (sym c.in_ok-insert.ensures.entries)
    (learnt_settled c.self.inside.own c.self.inside.settled c.args.pos c.unread-page.result c.self.inside.cells.entries c.self.invariant))

pub returns : goal.returns
returns c =
    ap (λ (n : ℕ). made c.insert.new.self.entries c.self.inside.own n) c.min.ensures
    ∙ ap (λ (cs : List (ℕ × Cell)). made cs c.self.inside.own (min c.self.inside.settled c.args.pos)) c.in_ok-insert.ensures.entries
    ∙ ap (λ (x : Cell). made (with_cell c.self.inside.cells.entries c.args.pos x) c.self.inside.own (min c.self.inside.settled c.args.pos)) c.unread-page.ensures
    ∙ ap (λ (k : Knowledge). learnt k c.args.pos c.args.cell) c.self.view_is
