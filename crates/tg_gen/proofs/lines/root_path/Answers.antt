use Rattle.std.proofs.Common.{[], ◌∷◌, refl}
use Rattle.tg_tree.specs.Paths as words
use Rattle.tg_gen.proofs.Digits.{root_is}
use Rattle.tg_gen.proofs.Texts.{some_of}
use Rattle.tg_gen.proofs.lines.root_path.Goals as goal

pub unwrap-requires : goal.unwrap-requires
unwrap-requires c = some_of c.in_ok-of.field-0 words.path_of (47 ∷ []) (47 ∷ []) c.in_ok-of.ensures refl root_is
