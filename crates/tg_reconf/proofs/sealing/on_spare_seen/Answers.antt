use Rattle.std.proofs.Common.{◌≡◌, sym, subst}
use Rattle.tg_base.specs.declared.msg.Msg.{Msg}
use Rattle.tg_protocol.specs.Replies.{reply}
use Rattle.tg_protocol.specs.Reconfiguring.{LookingSpare, LookingAgain, reconf_feed}
use Rattle.tg_reconf.specs.States.{working}
use Rattle.tg_reconf.specs.Turns.{shown, by_reconf}
use Rattle.tg_reconf.proofs.sealing.on_spare_seen.Goals as goal

pub returns-in-Missing-clause-turn : goal.returns-in-Missing-clause-turn
unfolding reply
returns-in-Missing-clause-turn c = λ k.
    subst (λ (m : Msg). shown c.miss.result c.args.rids.now.next ≡ by_reconf c.args.rids.now.next (reconf_feed (working c.args.plan (LookingSpare c.args.own)) (LookingSpare c.args.own) c.args.spare k (reply m) c.args.rids.now.next)) (sym c.in-Missing.is)
    (c.miss.ensures k c.args.rids.now.next)
