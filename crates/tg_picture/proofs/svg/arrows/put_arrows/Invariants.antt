use Rattle.std.proofs.Common.{◌≡◌, ◌++◌, take}
use Rattle.std.specs.List.{flat_map}
use Rattle.tg_picture.specs.Elements.{arrow_text}
use Rattle.tg_picture.proofs.svg.arrows.put_arrows.Given as goal

abbrev pub invariant-loop-arrow : goal.invariant-loop-arrow
invariant-loop-arrow l = l.out ≡ l.initial.out ++ flat_map (arrow_text l.places) (take l.arrow-index l.arrows)
