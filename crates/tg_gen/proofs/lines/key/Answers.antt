use Rattle.tg_kind.specs.Texts as words
use Rattle.tg_gen.specs.Loads.{key_of}
use Rattle.tg_gen.proofs.Digits.{key_is}
use Rattle.tg_gen.proofs.Texts.{some_of}
use Rattle.tg_gen.proofs.lines.key.Goals as goal

pub unwrap-requires : goal.unwrap-requires
unwrap-requires c = some_of c.in_ok-of.field-0 words.text_of c.key_word.result.now (key_of c.args.value) c.in_ok-of.ensures c.key_word.ensures (key_is c.args.value c.requires)
