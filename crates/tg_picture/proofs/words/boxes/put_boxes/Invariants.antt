use Rattle.std.proofs.Common.{◌≡◌, ◌++◌, take, map}
use Rattle.tg_picture.specs.Standings.{said, said_of}
use Rattle.tg_picture.proofs.words.boxes.put_boxes.Given as goal

-- the positions so far have their boxes
abbrev pub invariant-loop-pos : goal.invariant-loop-pos
invariant-loop-pos l = map said l.boxes ≡ map said l.initial.boxes ++ map (said_of l.history l.found l.gone) (take l.pos-index l.log)
