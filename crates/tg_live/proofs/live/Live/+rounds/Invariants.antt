use Rattle.tg_live.proofs.live.Live.+rounds.Given as goal

abbrev pub decreases-rounds : goal.decreases-rounds
decreases-rounds g l = l.left
