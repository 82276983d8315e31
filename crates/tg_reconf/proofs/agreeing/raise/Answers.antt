use Rattle.tg_reconf.proofs.Voting.{raised}
use Rattle.tg_reconf.proofs.agreeing.raise.Goals as goal

pub returns-clause-turn : goal.returns-clause-turn
returns-clause-turn c =
    raised c.args.plan c.args.vote _ _ _ _ _ _ c.of-machine.ensures c.in_ok-waits.ensures.waits c.in_ok-waits.ensures.next c.new-outs.ensures c.requires.asked
