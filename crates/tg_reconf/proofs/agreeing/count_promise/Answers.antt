use Rattle.std.proofs.Common.{◌≡◌, true, false, ◌∷◌, sym, subst, ap, ◌∙◌}
use Rattle.std.specs.Prelude.{IfOk}
use Rattle.tg_protocol.specs.Reconfiguring.{SealingSpare, Agreeing, Preparing, ReconfTurn}
use Rattle.tg_reconf.specs.States.{working, voting_at}
use Rattle.tg_reconf.specs.Turns.{shown, by_reconf}
use Rattle.tg_reconf.proofs.Voting.{promise_counts, promise_counted, promise_passed, front}
use Rattle.tg_reconf.proofs.agreeing.count_promise.Goals as goal

pub returns-then-not-is_promise_to-clause-turn : goal.returns-then-not-is_promise_to-clause-turn
returns-then-not-is_promise_to-clause-turn c =
    let old = c.args.rids.now.next in
    let v = voting_at c.args.round (Preparing c.args.waits c.args.promises) in
    let f : promise_counts (working c.args.plan (SealingSpare 0)) c.args.round.number c.args.epoch c.args.ballot c.args.before.now ≡ false = cc in
    c.stay.ensures old ∙ ap (by_reconf old) (sym (promise_passed c.args.plan (Agreeing v) v c.args.waits c.args.promises c.args.server c.args.epoch c.args.ballot c.args.before.now old f))

pub returns-clause-turn : goal.returns-clause-turn
returns-clause-turn c =
    let old = c.args.rids.now.next in
    let t : promise_counts (working c.args.plan (SealingSpare 0)) c.args.round.number c.args.epoch c.args.ballot c.args.before.now ≡ true = cc in
    let counted = c.in_ok-insert.ensures.ok ∙ front c.args.promises c.in_ok-before.before ∙ ap (λ a. a ∷ c.args.promises) c.in_ok-before.ensures in
    let v = voting_at c.args.round (Preparing c.args.waits c.args.promises) in
    let e = promise_counted c.args.plan (Agreeing v) c.args.round c.args.waits _ c.args.promises _ c.args.server c.args.epoch c.args.ballot c.args.before.now old c.in_ok-waits.ensures counted t in
    subst (λ (x : ReconfTurn). IfOk c.on_promises.result (λ s. shown s c.on_promises.new.rids.next ≡ by_reconf old x)) (sym e) c.on_promises.ensures.turn
