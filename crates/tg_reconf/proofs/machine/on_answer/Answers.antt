use Rattle.std.proofs.Common.{◌≡◌, sym, subst}
use Rattle.std.specs.Prelude.{IfOk}
use Rattle.tg_protocol.specs.Replies.{reply}
use Rattle.tg_protocol.specs.Reconfiguring.{SealingSpare, LookingSpare, Sealing, LookingAgain, Starting, reconf_feed}
use Rattle.tg_reconf.specs.declared.job.Work.{Work}
use Rattle.tg_reconf.specs.States.{working, work_of}
use Rattle.tg_reconf.specs.Turns.{shown, by_reconf}
use Rattle.tg_reconf.proofs.Voting.{at_one, at_two}
use Rattle.tg_reconf.proofs.machine.on_answer.Goals as goal

pub returns-in-SealsSpare-clause-turn : goal.returns-in-SealsSpare-clause-turn
returns-in-SealsSpare-clause-turn c =
    subst (λ (w : Work). IfOk c.on_spare_sealed.result (λ s. shown s c.on_spare_sealed.new.rids.next ≡ by_reconf c.args.rids.now.next (reconf_feed (working c.args.plan (work_of w)) (work_of w) c.args.node c.args.rid (reply c.args.msg.now) c.args.rids.now.next))) (sym c.in-SealsSpare.is)
    (at_two c.on_spare_sealed.result (λ s n k. shown s c.on_spare_sealed.new.rids.next ≡ by_reconf c.args.rids.now.next (reconf_feed (working c.args.plan (SealingSpare c.in-SealsSpare.own)) (SealingSpare c.in-SealsSpare.own) n k (reply c.args.msg.now) c.args.rids.now.next)) c.args.node c.args.rid c.on_spare_sealed.ensures.turn)

pub returns-in-LooksAtSpare-clause-turn : goal.returns-in-LooksAtSpare-clause-turn
returns-in-LooksAtSpare-clause-turn c =
    subst (λ (w : Work). IfOk c.on_spare_seen.result (λ s. shown s c.on_spare_seen.new.rids.next ≡ by_reconf c.args.rids.now.next (reconf_feed (working c.args.plan (work_of w)) (work_of w) c.args.node c.args.rid (reply c.args.msg.now) c.args.rids.now.next))) (sym c.in-LooksAtSpare.is)
    (at_one c.on_spare_seen.result (λ s k. shown s c.on_spare_seen.new.rids.next ≡ by_reconf c.args.rids.now.next (reconf_feed (working c.args.plan (LookingSpare c.in-LooksAtSpare.own)) (LookingSpare c.in-LooksAtSpare.own) c.args.node k (reply c.args.msg.now) c.args.rids.now.next)) c.args.rid c.on_spare_seen.ensures.turn)

pub returns-in-Seals-clause-turn : goal.returns-in-Seals-clause-turn
returns-in-Seals-clause-turn c =
    subst (λ (w : Work). IfOk c.on_sealed.result (λ s. shown s c.on_sealed.new.rids.next ≡ by_reconf c.args.rids.now.next (reconf_feed (working c.args.plan (work_of w)) (work_of w) c.args.node c.args.rid (reply c.args.msg.now) c.args.rids.now.next))) (sym c.in-Seals.is)
    (at_one c.on_sealed.result (λ s k. shown s c.on_sealed.new.rids.next ≡ by_reconf c.args.rids.now.next (reconf_feed (working c.args.plan (Sealing c.in-Seals.waits c.in-Seals.acks)) (Sealing c.in-Seals.waits c.in-Seals.acks) c.args.node k (reply c.args.msg.now) c.args.rids.now.next)) c.args.rid c.on_sealed.ensures.turn)

pub returns-in-LooksAgain-clause-turn : goal.returns-in-LooksAgain-clause-turn
returns-in-LooksAgain-clause-turn c =
    subst (λ (w : Work). IfOk c.on_spare_seen_again.result (λ s. shown s c.on_spare_seen_again.new.rids.next ≡ by_reconf c.args.rids.now.next (reconf_feed (working c.args.plan (work_of w)) (work_of w) c.args.node c.args.rid (reply c.args.msg.now) c.args.rids.now.next))) (sym c.in-LooksAgain.is)
    (at_one c.on_spare_seen_again.result (λ s k. shown s c.on_spare_seen_again.new.rids.next ≡ by_reconf c.args.rids.now.next (reconf_feed (working c.args.plan (LookingAgain c.in-LooksAgain.own c.in-LooksAgain.acks)) (LookingAgain c.in-LooksAgain.own c.in-LooksAgain.acks) c.args.node k (reply c.args.msg.now) c.args.rids.now.next)) c.args.rid c.on_spare_seen_again.ensures.turn)

pub returns-in-Starts-clause-turn : goal.returns-in-Starts-clause-turn
returns-in-Starts-clause-turn c =
    subst (λ (w : Work). shown c.on_start.result c.args.rids.now.next ≡ by_reconf c.args.rids.now.next (reconf_feed (working c.args.plan (work_of w)) (work_of w) c.args.node c.args.rid (reply c.args.msg.now) c.args.rids.now.next)) (sym c.in-Starts.is)
    (c.on_start.ensures c.args.node c.args.rid c.args.rids.now.next)
