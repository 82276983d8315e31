use Rattle.std.proofs.Common.{ℕ, List, ap, sym, subst, ◌∙◌}
use Rattle.std.specs.Prelude.{min}
use Rattle.tg_base.specs.declared.cell.Cell.{Cell}
use Rattle.tg_protocol.specs.Words.{with_num, with_cell}
use Rattle.tg_client_cells.specs.Known.{Knowledge, IsSettled, owned}
use Rattle.tg_client_cells.proofs.Making.{made}
use Rattle.tg_client_cells.proofs.Settling.{owned_settled}
use Rattle.tg_client_cells.proofs.known.Known.own_record.Goals as goal

pub invariant_of-result : goal.invariant_of-result
invariant_of-result c =
    let low = min c.self.inside.settled c.args.pos in
    subst (λ n. IsSettled c.in_ok-own.own n c.insert.new.self.entries) (sym c.min.ensures)
    (subst (λ (ps : List ℕ). IsSettled ps low c.insert.new.self.entries) (sym c.in_ok-own.ensures)
    (subst (λ (cs : List (ℕ × Cell)). IsSettled (with_num c.args.pos c.self.inside.own) low cs) (sym c.in_ok-insert.ensures.entries)
    (owned_settled c.self.inside.own c.self.inside.settled c.args.pos c.unread-page.result c.self.inside.cells.entries c.self.invariant)))

pub returns : goal.returns
returns c =
    let low = min c.self.inside.settled c.args.pos in
    ap (λ (n : ℕ). made c.insert.new.self.entries c.in_ok-own.own n) c.min.ensures
    ∙ ap (λ (ps : List ℕ). made c.insert.new.self.entries ps low) c.in_ok-own.ensures
    ∙ ap (λ (cs : List (ℕ × Cell)). made cs (with_num c.args.pos c.self.inside.own) low) c.in_ok-insert.ensures.entries
    ∙ ap (λ (x : Cell). made (with_cell c.self.inside.cells.entries c.args.pos x) (with_num c.args.pos c.self.inside.own) low) c.unread-page.ensures
    ∙ ap (λ (k : Knowledge). owned k c.args.pos c.args.page) c.self.view_is
