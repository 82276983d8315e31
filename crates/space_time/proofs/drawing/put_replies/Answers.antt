use Rattle.space_time.proofs.Marked.{marks_next, marks_end}
use Rattle.space_time.proofs.drawing.put_replies.Goals as goal

pub loop-place-preserved : goal.loop-place-preserved
loop-place-preserved c =
    marks_next c.loop-place.replies c.put_place.new.replies _ c.args.places.now c.args.trace.now c.loop-place.place-index _ c.loop-place-test.true c.in_ok-put_place.ensures c.loop-place.invariant

pub returns : goal.returns
returns c = marks_end c.loop-place.replies _ c.args.places.now c.args.trace.now c.loop-place.place-index c.loop-place-test.false c.loop-place.invariant
