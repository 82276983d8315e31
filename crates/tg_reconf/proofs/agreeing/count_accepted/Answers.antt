use Rattle.std.proofs.Common.{◌≡◌, true, false, sym, subst, ap, ◌∙◌}
use Rattle.std.specs.Prelude.{IfOk}
use Rattle.tg_protocol.specs.Reconfiguring.{SealingSpare, Agreeing, Accepting, ReconfTurn, same_vote}
use Rattle.tg_reconf.specs.States.{working, voting_at}
use Rattle.tg_reconf.specs.Turns.{shown, by_reconf}
use Rattle.tg_reconf.proofs.Voting.{accept_counted, accept_passed}
use Rattle.tg_reconf.proofs.agreeing.count_accepted.Goals as goal

pub returns-then-not-is_same_vote-clause-turn : goal.returns-then-not-is_same_vote-clause-turn
returns-then-not-is_same_vote-clause-turn c =
    let old = c.args.rids.now.next in
    let v = voting_at c.args.round (Accepting c.args.waits c.args.accepted c.args.proj) in
    let f : same_vote (working c.args.plan (SealingSpare 0)) c.args.round.number c.args.epoch c.args.ballot ≡ false = cc in
    c.stay.ensures old ∙ ap (by_reconf old) (sym (accept_passed c.args.plan (Agreeing v) v c.args.waits c.args.accepted c.args.proj c.args.server c.args.epoch c.args.ballot old f))

pub returns-clause-turn : goal.returns-clause-turn
returns-clause-turn c =
    let old = c.args.rids.now.next in
    let t : same_vote (working c.args.plan (SealingSpare 0)) c.args.round.number c.args.epoch c.args.ballot ≡ true = cc in
    let v = voting_at c.args.round (Accepting c.args.waits c.args.accepted c.args.proj) in
    let e = accept_counted c.args.plan (Agreeing v) c.args.round c.args.waits _ c.args.accepted c.args.proj c.args.server c.args.epoch c.args.ballot old c.in_ok-waits.ensures t in
    subst (λ (x : ReconfTurn). IfOk c.on_accepted.result (λ s. shown s c.on_accepted.new.rids.next ≡ by_reconf old x)) (sym e) c.on_accepted.ensures.turn
