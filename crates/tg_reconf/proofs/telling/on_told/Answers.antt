use Rattle.std.proofs.Common.{◌≡◌, ◌+◌, true, false, ◌&&◌, sym, subst}
use Rattle.std.specs.Prelude.{◌==◌, IfOk}
use Rattle.tg_protocol.specs.Reconfiguring.{ReconfTurn, has_rid}
use Rattle.tg_reconf.specs.Turns.{shown, by_reconf}
use Rattle.tg_reconf.proofs.Told.{told_heard, told_newer}
use Rattle.tg_reconf.proofs.telling.on_told.Goals as goal

pub returns-then-not-is_heard-clause-turn : goal.returns-then-not-is_heard-clause-turn
returns-then-not-is_heard-clause-turn c =
    let old = c.args.rids.now.next in
    let f : (has_rid c.args.server c.args.rid c.args.waits && (c.args.proj.epoch == c.args.plan.stand.proj.epoch + 1)) ≡ false = cc in
    let e = told_newer c.args.plan c.args.waits c.args.heard c.args.server c.args.rid c.args.told c.args.proj old f in
    subst (λ (x : ReconfTurn). IfOk c.on_newer.result (λ s. shown s c.on_newer.new.rids.next ≡ by_reconf old x)) (sym e) c.on_newer.ensures.turn

pub returns-clause-turn : goal.returns-clause-turn
returns-clause-turn c =
    let old = c.args.rids.now.next in
    let t : (has_rid c.args.server c.args.rid c.args.waits && (c.args.proj.epoch == c.args.plan.stand.proj.epoch + 1)) ≡ true = cc in
    let e = told_heard c.args.plan c.args.waits c.in_ok-kept.kept c.args.heard c.args.server c.args.rid c.args.told c.args.proj old c.in_ok-kept.ensures t in
    subst (λ (x : ReconfTurn). IfOk c.on_heard.result (λ s. shown s c.on_heard.new.rids.next ≡ by_reconf old x)) (sym e) c.on_heard.ensures.turn
