use Rattle.std.proofs.Common.{◌≡◌, ℕ, ◌+◌, true, false, sym, ap, subst, ◌∙◌, arith}
use Rattle.std.specs.Prelude.{◌==◌, ◌&&◌, ◌^◌, nat_lt, IfOk}
use Rattle.std.proofs.lemmas.Bool.Decides.{nat_tests}
use Rattle.tg_protocol.specs.Replies.{IsNack}
use Rattle.tg_protocol.specs.Reconfiguring.{Agreeing, SealingSpare, stage_feed, sets_if, round_set}
use Rattle.tg_reconf.specs.declared.step.Step.{Step}
use Rattle.tg_reconf.specs.States.{working, voting_of, stage_of, later_of}
use Rattle.tg_reconf.specs.Turns.{shown, by_reconf}
use Rattle.tg_reconf.proofs.Voting.{nack_passed, nack_sets, for_all}
use Rattle.tg_reconf.proofs.agreeing.refuse.Goals as goal

pub returns-then-epoch-next_epoch-clause-turn : goal.returns-then-epoch-next_epoch-clause-turn
returns-then-epoch-next_epoch-clause-turn c = λ n.
    let f : (c.args.epoch == (c.args.plan.stand.proj.epoch + 1)) ≡ false = grind (arith, nat_tests) in
    let v = voting_of c.args.vote in
    c.stay.ensures c.args.rids.now.next ∙ ap (by_reconf c.args.rids.now.next) (sym (nack_passed (working c.args.plan (Agreeing v)) v (stage_of c.args.vote.stage) n c.args.epoch c.args.ballot c.args.rids.now.next f))

pub returns-clause-turn : goal.returns-clause-turn
returns-clause-turn c =
    let t : (c.args.epoch == (c.args.plan.stand.proj.epoch + 1)) ≡ true = grind (arith, nat_tests) in
    let v = voting_of c.args.vote in
    let old = c.args.rids.now.next in
    let sets = λ (k : ℕ). sets_if (working c.args.plan (SealingSpare 0)) v k old (nat_lt (round_set v.later) k && nat_lt k (2 ^ 32)) in
    for_all c.raise_if.result (λ (s : Step). shown s c.raise_if.new.rids.next ≡ by_reconf old (sets c.round_past-next.result))
    (λ (s : Step) (n : ℕ). shown s c.raise_if.new.rids.next ≡ by_reconf old (stage_feed (working c.args.plan (Agreeing v)) v (stage_of c.args.vote.stage) n (IsNack c.args.epoch c.args.ballot) old))
    (λ s n h. h ∙ ap (λ k. by_reconf old (sets k)) c.round_past-next.ensures ∙ ap (by_reconf old) (sym (nack_sets c.args.plan v (stage_of c.args.vote.stage) n c.args.epoch c.args.ballot old (Agreeing v) t)))
    c.raise_if.ensures.turn
