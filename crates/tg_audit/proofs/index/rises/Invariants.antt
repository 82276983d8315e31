use Rattle.std.proofs.Common.{ℕ, ◌+◌, ◌<◌, length, get_or}
use Rattle.tg_audit.proofs.index.rises.Given as goal

abbrev pub invariant-loop-place : goal.invariant-loop-place
invariant-loop-place l = (i : ℕ) → i + 1 < l.place → get_or l.stamps i 0 < get_or l.stamps (i + 1) 0
