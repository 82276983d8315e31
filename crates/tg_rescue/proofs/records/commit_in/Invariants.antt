use Rattle.std.proofs.Common.{◌≡◌, drop}
use Rattle.tg_protocol.specs.Past.{commit_at}
use Rattle.tg_rescue.proofs.records.commit_in.Given as goal

abbrev pub invariant-loop-placed : goal.invariant-loop-placed
invariant-loop-placed l = commit_at (drop l.placed-index l.entries) l.at ≡ commit_at l.entries l.at
