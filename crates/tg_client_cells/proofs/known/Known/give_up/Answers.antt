use Rattle.std.proofs.Common.{ℕ, List, cond, filter, ap, sym, subst, ◌∙◌}
use Rattle.std.specs.Prelude.{max}
use Rattle.tg_base.specs.declared.cell.Cell.{Cell}
use Rattle.tg_client_cells.specs.Known.{Knowledge, IsSettled, keeps, given_up}
use Rattle.tg_client_cells.proofs.Making.{made}
use Rattle.tg_client_cells.proofs.Settling.{given_settled, pruned_is}
use Rattle.tg_client_cells.proofs.known.Known.give_up.Goals as goal

pub invariant_of-result : goal.invariant_of-result
invariant_of-result c =
    let own = c.self.inside.own in
    let s = c.self.inside.settled in
    let cells = c.self.inside.cells.entries in
    subst (λ n. IsSettled own n c.drop_others.new.cells.entries) (sym c.settled_after.ensures)
    (subst (λ (cs : List (ℕ × Cell)). IsSettled own (cond c.in_ok-all.all (max s c.args.upto) s) cs) (sym (c.in_ok-drop_others.ensures ∙ pruned_is own s c.args.upto cells c.self.invariant))
    (given_settled own s c.args.upto cells c.in_ok-all.all (sym c.in_ok-all.ensures) c.self.invariant))

pub returns : goal.returns
returns c =
    let own = c.self.inside.own in
    let s = c.self.inside.settled in
    let cells = c.self.inside.cells.entries in
    ap (λ (cs : List (ℕ × Cell)). made cs own c.settled_after.result) (c.in_ok-drop_others.ensures ∙ pruned_is own s c.args.upto cells c.self.invariant)
    ∙ ap (made (filter (keeps c.args.upto own) cells) own) (c.settled_after.ensures ∙ ap (λ b. cond b (max s c.args.upto) s) c.in_ok-all.ensures)
    ∙ ap (λ (k : Knowledge). given_up k c.args.upto) c.self.view_is
