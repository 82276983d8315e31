use Rattle.std.proofs.Common.{◌≡◌, true, [], Some, sym, ap, subst, ◌∙◌}
use Rattle.std.specs.Prelude.{IfOk}
use Rattle.tg_protocol.specs.Replies.{reply}
use Rattle.tg_protocol.specs.Reconfiguring.{SealingSpare, Agreeing, Later, Voting, ReconfTurn, reconf_feed, stage_asks, stage_feed, has_rid, is_answer}
use Rattle.tg_reconf.specs.States.{working, voting_of, later_of}
use Rattle.tg_reconf.specs.Turns.{shown, by_reconf, all_drawn}
use Rattle.tg_reconf.proofs.Voting.{asked_now, asked_later, answer_same, fed_begun}
use Rattle.tg_reconf.proofs.agreeing.on_vote.Goals as goal

pub on_stage-requires-clause-asked : goal.on_stage-requires-clause-asked
on_stage-requires-clause-asked c = asked_now c.args.plan (voting_of c.args.vote) c.args.rids.now.next c.requires.awaited

pub on_stage-requires-then-not-has_rid-clause-asked : goal.on_stage-requires-then-not-has_rid-clause-asked
on_stage-requires-then-not-has_rid-clause-asked c = asked_now c.args.plan (voting_of c.args.vote) c.args.rids.now.next c.requires.awaited

pub on_stage-requires-in-Some-clause-asked : goal.on_stage-requires-in-Some-clause-asked
on_stage-requires-in-Some-clause-asked c =
    let l : Later = record { round = c.in-Some.next.number; waits = c.in-Some.next.waits } in
    subst (λ (v : Voting). all_drawn c.args.rids.now.next (stage_asks (working c.args.plan (SealingSpare 0)) v.round v.stage) ≡ true) (sym c.begin-vote.ensures.vote)
    (asked_later c.args.plan (voting_of c.args.vote) l c.args.rids.now.next (ap later_of c.in-Some.is) c.requires.awaited)

pub returns-else-not-answers_round-clause-turn : goal.returns-else-not-answers_round-clause-turn
unfolding reconf_feed
returns-else-not-answers_round-clause-turn c =
    let v = voting_of c.args.vote in
    let old = c.args.rids.now.next in
    let x = reply c.args.msg.now in
    let l : Later = record { round = c.in-Some.next.number; waits = c.in-Some.next.waits } in
    let set : v.later ≡ Some l = ap later_of c.in-Some.is in
    let has : has_rid c.args.server c.args.rid l.waits ≡ true = cc in
    let yes : c.answers_round.result ≡ true = cc in
    let answers : is_answer (working c.args.plan (Agreeing v)) l x ≡ true =
    answer_same c.args.plan (Agreeing v) (SealingSpare 0) l.round l.waits [] x ∙ sym c.answers_round.ensures ∙ yes in
    let turn = subst (λ (w : Voting). IfOk c.on_stage-in-Some.result (λ s. shown s c.on_stage-in-Some.new.rids.next ≡ by_reconf old (stage_feed (working c.args.plan (Agreeing w)) w w.stage c.args.server x old)))
    c.begin-vote.ensures.vote c.on_stage-in-Some.ensures.turn in
    subst (λ (t : ReconfTurn). IfOk c.on_stage-in-Some.result (λ s. shown s c.on_stage-in-Some.new.rids.next ≡ by_reconf old t)) (sym (fed_begun c.args.plan v l c.args.server c.args.rid x old set has answers)) turn
