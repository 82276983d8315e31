use Rattle.space_time.proofs.going.+rounds.Given as goal

abbrev pub decreases-rounds : goal.decreases-rounds
decreases-rounds l = l.left
