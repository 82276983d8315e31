use Rattle.std.proofs.Common.{length}
use Rattle.tg_client_state.proofs.decision.+put_unlinked.Given as goal

abbrev pub decreases-put_unlinked : goal.decreases-put_unlinked
decreases-put_unlinked l = length l.links.now
