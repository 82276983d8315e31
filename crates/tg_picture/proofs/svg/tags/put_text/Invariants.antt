use Rattle.std.proofs.Common.{◌≡◌, ◌++◌, take}
use Rattle.tg_picture.specs.Elements.{escaped}
use Rattle.tg_picture.proofs.svg.tags.put_text.Given as goal

abbrev pub invariant-loop-byte : goal.invariant-loop-byte
invariant-loop-byte l = l.out ≡ l.initial.out ++ escaped (take l.byte-index l.text)
