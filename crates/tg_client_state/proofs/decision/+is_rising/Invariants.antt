use Rattle.std.proofs.Common.{length}
use Rattle.tg_client_state.proofs.decision.+is_rising.Given as goal

abbrev pub decreases-is_rising : goal.decreases-is_rising
decreases-is_rising l = length l.links.now
