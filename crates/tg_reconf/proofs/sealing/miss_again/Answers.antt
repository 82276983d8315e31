use Rattle.std.proofs.Common.{◌≡◌, false, sym, subst, arith}
use Rattle.std.specs.Prelude.{if◌then◌else◌}
use Rattle.std.proofs.lemmas.Bool.Decides.{nat_tests}
use Rattle.tg_protocol.specs.Words.{too_far}
use Rattle.tg_protocol.specs.Replies.{IsOther, IsMissing}
use Rattle.tg_protocol.specs.Reconfiguring.{LookingSpare, LookingAgain, reconf_feed}
use Rattle.tg_reconf.specs.States.{working}
use Rattle.tg_reconf.specs.Turns.{shown, by_reconf}
use Rattle.tg_reconf.proofs.sealing.miss_again.Goals as goal

pub returns : goal.returns
unfolding reconf_feed
returns c = λ k n.
    let f : too_far c.args.pos ≡ false = grind (arith, nat_tests) in
    subst (λ b. shown c.not_whole.result n ≡ by_reconf n (reconf_feed (working c.args.plan (LookingAgain c.args.own c.args.acks)) (LookingAgain c.args.own c.args.acks) c.args.spare k (if b then IsOther else IsMissing c.args.pos) n)) (sym f) (c.not_whole.ensures n)
