use Rattle.std.proofs.Common.{◌≡◌, ◌++◌, drop}
use Rattle.space_time.specs.Pictures.{marks}
use Rattle.space_time.proofs.drawing.put_replies.Given as goal

-- the marks so far, and those of the places to come
abbrev pub invariant-loop-place : goal.invariant-loop-place
invariant-loop-place l = l.replies ++ marks (drop l.place-index l.places) l.trace ≡ l.initial.replies ++ marks l.places l.trace
