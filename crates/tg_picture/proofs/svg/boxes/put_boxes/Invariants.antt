use Rattle.std.proofs.Common.{◌≡◌, ◌++◌, drop}
use Rattle.tg_picture.specs.Elements.{boxes_text}
use Rattle.tg_picture.proofs.svg.boxes.put_boxes.Given as goal

-- what is put, and the boxes to come
abbrev pub invariant-loop-log_box : goal.invariant-loop-log_box
invariant-loop-log_box l = l.out ++ boxes_text l.width l.at (drop l.log_box-index l.boxes) ≡ l.initial.out ++ boxes_text l.width (12, l.top) l.boxes
