use Rattle.std.proofs.Common.{length}
use Rattle.tg_play.proofs.records.+plays_any.Given as goal

abbrev pub decreases-plays_any : goal.decreases-plays_any
decreases-plays_any g l = length l.writes.now
