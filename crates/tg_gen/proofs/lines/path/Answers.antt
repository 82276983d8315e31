use Rattle.tg_tree.specs.Paths as words
use Rattle.tg_gen.specs.Loads.{path_of}
use Rattle.tg_gen.proofs.Digits.{path_is}
use Rattle.tg_gen.proofs.Texts.{some_of}
use Rattle.tg_gen.proofs.lines.path.Goals as goal

pub unwrap-requires : goal.unwrap-requires
unwrap-requires c = some_of c.in_ok-of.field-0 words.path_of c.path_word.result.now (path_of c.args.value) c.in_ok-of.ensures c.path_word.ensures (path_is c.args.value c.requires)
