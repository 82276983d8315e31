use Rattle.tg_kind.specs.Texts as words
use Rattle.tg_gen.specs.Loads.{text_of}
use Rattle.tg_gen.proofs.Digits.{text_is}
use Rattle.tg_gen.proofs.Texts.{some_of}
use Rattle.tg_gen.proofs.lines.text.Goals as goal

pub unwrap-requires : goal.unwrap-requires
unwrap-requires c = some_of c.in_ok-of.field-0 words.text_of c.text_word.result.now (text_of c.args.value) c.in_ok-of.ensures c.text_word.ensures (text_is c.args.value c.requires)
