use Rattle.std.proofs.Common.{◌≡◌, false, sym, subst}
use Rattle.tg_protocol.specs.Reconfiguring.{on_newer, is_own}
use Rattle.tg_reconf.specs.States.{working, work_of}
use Rattle.tg_reconf.specs.Turns.{shown, by_reconf}
use Rattle.tg_reconf.proofs.telling.on_newer.Goals as goal

pub returns-then-not-is_own_layout-clause-turn : goal.returns-then-not-is_own_layout-clause-turn
returns-then-not-is_own_layout-clause-turn c =
    let r = working c.args.plan (work_of c.args.work) in
    let e : is_own r c.args.proj ≡ false = cc in
    subst (λ b. shown c.overtake.result c.args.rids.now.next ≡ by_reconf c.args.rids.now.next (on_newer r c.args.proj c.args.rids.now.next b)) (sym e)
    (c.overtake.ensures c.args.rids.now.next)
