use Rattle.std.proofs.Common.{◌≡◌, Bool, true, false, sym, subst, arith}
use Rattle.std.specs.Prelude.{◌&&◌, nat_lt, IfOk}
use Rattle.std.proofs.lemmas.Bool.Decides.{nat_tests}
use Rattle.tg_protocol.specs.Reconfiguring.{SealingSpare, sets_if, round_set}
use Rattle.tg_reconf.specs.States.{working, voting_of, later_of}
use Rattle.tg_reconf.specs.Turns.{shown, by_reconf}
use Rattle.tg_reconf.proofs.agreeing.raise_if.Goals as goal

pub returns-then-next-set_round-clause-turn : goal.returns-then-next-set_round-clause-turn
returns-then-next-set_round-clause-turn c =
    let e : (nat_lt (round_set (later_of c.args.vote.round.later)) c.args.next && nat_lt c.args.next 4294967296) ≡ false = grind (arith, nat_tests) in
    subst (λ b. shown c.stay.result c.args.rids.now.next ≡ by_reconf c.args.rids.now.next (sets_if (working c.args.plan (SealingSpare 0)) (voting_of c.args.vote) c.args.next c.args.rids.now.next b)) (sym e) (c.stay.ensures c.args.rids.now.next)

pub returns-then-next-clause-turn : goal.returns-then-next-clause-turn
returns-then-next-clause-turn c =
    let e : (nat_lt (round_set (later_of c.args.vote.round.later)) c.args.next && nat_lt c.args.next 4294967296) ≡ false = grind (arith, nat_tests) in
    subst (λ b. shown c.stay-then-next.result c.args.rids.now.next ≡ by_reconf c.args.rids.now.next (sets_if (working c.args.plan (SealingSpare 0)) (voting_of c.args.vote) c.args.next c.args.rids.now.next b)) (sym e) (c.stay-then-next.ensures c.args.rids.now.next)

pub returns-clause-turn : goal.returns-clause-turn
returns-clause-turn c =
    let e : (nat_lt (round_set (later_of c.args.vote.round.later)) c.args.next && nat_lt c.args.next 4294967296) ≡ true = grind (arith, nat_tests) in
    subst (λ b. IfOk c.raise.result (λ s. shown s c.raise.new.rids.next ≡ by_reconf c.args.rids.now.next (sets_if (working c.args.plan (SealingSpare 0)) (voting_of c.args.vote) c.args.next c.args.rids.now.next b))) (sym e) c.raise.ensures.turn
