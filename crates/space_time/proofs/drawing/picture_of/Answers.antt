use Rattle.std.proofs.Common.{◌≡◌}
use Rattle.space_time.proofs.Marked.{says}
use Rattle.space_time.proofs.drawing.picture_of.Goals as goal

pub returns : goal.returns
returns c = λ w k.
    let packets = c.in_ok-packets.ensures w k in
    let view = c.packets.view_is in
    let first = c.as_slice.ensures in
    let second = c.as_slice-2.ensures in
    let third = c.as_slice-3.ensures in
    let for_arrows : c.as_slice.result.now ≡ w.packets = cc in
    let for_bands : c.as_slice-2.result.now ≡ w.packets = cc in
    let for_boxes : c.as_slice-3.result.now ≡ w.packets = cc in
    says c.args.recording.now.run.cluster w c.args.recording.now.steps c.as_slice-steps.result.now c.args.cut c.range-from.result c.as_slice.result.now c.as_slice-2.result.now c.as_slice-3.result.now
    c.trace.result.now _ c.as_slice-steps.ensures c.range-from.ensures for_arrows for_bands for_boxes (c.trace.ensures w k) c.in_ok-arrows.ensures c.in_ok-replies.ensures c.in_ok-bands.ensures
    (c.in_ok-boxes.ensures w k)
