use Rattle.std.proofs.Common.{◌≡◌, ◌<◌, false, Some, List, length, sym, ap, ◌∙◌, subst}
use Rattle.tg_base.specs.declared.marks.ReadMark.{ReadMark}
use Rattle.tg_protocol.specs.Transactions.{Tx, tx_read, with_read}
use Rattle.tg_tx.specs.Pendings.{read_cmp, has_key, IsPending}
use Rattle.tg_tx.proofs.Drafting.{read_kept}
use Rattle.tg_tx.proofs.Orders.{with_read_is}
use Rattle.tg_tx.proofs.pending.Pending.read.Goals as goal

pub invariant_of-self-2 : goal.invariant_of-self-2
invariant_of-self-2 c =
    let few : has_key read_cmp c.args.mark c.self.inside.reads ≡ false → length c.self.inside.reads < 64 =
    subst (λ (xs : List ReadMark). has_key read_cmp c.args.mark xs ≡ false → length xs < 64) c.as_slice.ensures c.in_ok-may_read.ensures.few in
    subst (λ (xs : List ReadMark). IsPending c.self.inside.number xs c.self.inside.writes) (sym c.in_ok-add_read.ensures.ok)
    (read_kept c.self.inside.number c.self.inside.reads c.self.inside.writes c.args.mark c.self.invariant c.requires few)

pub returns-clause-ok : goal.returns-clause-ok
returns-clause-ok c =
    let taken : c.add_read.new.reads ≡ with_read c.args.mark c.self.inside.reads = c.in_ok-add_read.ensures.ok ∙ sym (with_read_is c.args.mark c.self.inside.reads) in
    let with : List ReadMark → Tx = λ (rs : List ReadMark). record { number = c.self.inside.number; reads = rs; writes = c.self.inside.writes; snapshot = Some c.args.at } in
    ap with taken ∙ ap (λ (t : Tx). tx_read t c.args.mark c.args.at) c.self.view_is
