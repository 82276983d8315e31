use Rattle.std.proofs.Common.{◌≡◌, ◌+◌, true, sym, subst, ◌∙◌, arith}
use Rattle.std.specs.Prelude.{◌==◌, IfOk}
use Rattle.std.proofs.lemmas.Bool.Decides.{nat_tests}
use Rattle.tg_protocol.specs.Reconfiguring.{ReconfTurn}
use Rattle.tg_reconf.specs.Turns.{shown, by_reconf}
use Rattle.tg_reconf.proofs.Voting.{sealed_done, front}
use Rattle.tg_reconf.proofs.sealing.count.Goals as goal

pub returns-then-is_empty-clause-turn : goal.returns-then-is_empty-clause-turn
returns-then-is_empty-clause-turn c =
    let t : (c.args.epoch == (c.args.plan.stand.proj.epoch + 1)) ≡ true = grind (arith, nat_tests) in
    let e = sealed_done c.args.plan c.args.waits c.in_ok-kept.kept c.args.acks _ c.args.unit c.args.high c.args.rids.now.next _ c.in_ok-kept.ensures (sym c.is_empty.ensures ∙ c.if-is_empty.true)
    (c.in_ok-insert.ensures.ok ∙ front c.args.acks (c.args.unit, c.args.high)) t in
    subst (λ (x : ReconfTurn). IfOk c.after.result (λ s. shown s c.after.new.rids.next ≡ by_reconf c.args.rids.now.next x)) (sym e) c.after.ensures.turn
