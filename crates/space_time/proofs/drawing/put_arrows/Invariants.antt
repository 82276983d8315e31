use Rattle.std.proofs.Common.{◌≡◌, ◌++◌, take, map}
use Rattle.space_time.specs.Pictures.{course_of}
use Rattle.space_time.proofs.drawing.put_arrows.Given as goal

-- the courses so far have their arrows
abbrev pub invariant-loop-course : goal.invariant-loop-course
invariant-loop-course l = map course_of l.arrows ≡ map course_of l.initial.arrows ++ take l.course-index l.found
