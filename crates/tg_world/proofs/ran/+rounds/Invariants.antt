use Rattle.tg_world.proofs.ran.+rounds.Given as goal

abbrev pub decreases-rounds : goal.decreases-rounds
decreases-rounds g l = l.left
