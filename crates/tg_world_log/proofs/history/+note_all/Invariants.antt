use Rattle.std.proofs.Common.{length}
use Rattle.tg_world_log.proofs.history.+note_all.Given as goal

abbrev pub decreases-note_all : goal.decreases-note_all
decreases-note_all g l = length l.writes.now
