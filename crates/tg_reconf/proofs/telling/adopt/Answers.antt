use Rattle.std.proofs.Common.{◌≡◌, false, sym, subst}
use Rattle.std.specs.Prelude.{◌==◌}
use Rattle.tg_protocol.specs.Reconfiguring.{SealingSpare, adopts}
use Rattle.tg_reconf.specs.States.{working}
use Rattle.tg_reconf.specs.Turns.{shown, by_reconf}
use Rattle.tg_reconf.proofs.telling.adopt.Goals as goal

pub returns-then-not-is_by-clause-turn : goal.returns-then-not-is_by-clause-turn
returns-then-not-is_by-clause-turn c =
    let e : (c.args.told.by == c.args.plan.me) ≡ false = cc in
    subst (λ b. shown c.overtake.result c.args.rids.now.next ≡ by_reconf c.args.rids.now.next (adopts (working c.args.plan (SealingSpare 0)) c.args.told c.args.rids.now.next b)) (sym e)
    (c.overtake.ensures c.args.rids.now.next)
