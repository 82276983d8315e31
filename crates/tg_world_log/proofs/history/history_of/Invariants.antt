use Rattle.std.proofs.Common.{drop}
use Rattle.tg_play.proofs.Means.{means}
use Rattle.tg_world_log.proofs.Stories.{Reached}
use Rattle.tg_world_log.proofs.history.history_of.Given as goal

abbrev pub invariant-loop-pos : goal.invariant-loop-pos
invariant-loop-pos g l = Reached (means g.K.Kind g.K.Registry) l.log l.versions l.dones (drop l.pos-index l.log)
