use Rattle.std.proofs.Common.{◌≡◌, ℕ, List, BTreeMap, ap, sym, subst, ◌∙◌}
use Rattle.std.specs.Prelude.{min}
use Rattle.tg_base.specs.declared.cell.Cell.{Cell}
use Rattle.tg_client_cells.specs.Known.{IsSettled}
use Rattle.tg_client_cells.proofs.Settling.{lent_settled}
use Rattle.tg_client_cells.proofs.known.Known.lend.Goals as goal

pub returns-clause-settled : goal.returns-clause-settled
returns-clause-settled c =
    let same : c.from_map.result ≡ c.self.inside.cells.entries = c.from_map.ensures ∙ ap (λ (m : BTreeMap ℕ Cell). m.entries) c.replace-cells.ensures.value in
    subst (λ n. IsSettled c.self.inside.own n c.from_map.result) (sym c.min-self-inside.ensures)
    (subst (λ (cs : List (ℕ × Cell)). IsSettled c.self.inside.own (min c.self.inside.settled c.args.lo) cs) (sym same)
    (lent_settled c.self.inside.own c.self.inside.settled c.args.lo c.self.inside.cells.entries c.self.invariant))
