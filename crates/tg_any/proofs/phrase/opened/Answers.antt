use Rattle.std.proofs.Common.{lit<}
use Rattle.std.proofs.lemmas.Str.Pattern.{strip_prefix_char}
use Rattle.tg_any.proofs.Lists.{opened_is}
use Rattle.tg_any.proofs.phrase.opened.Goals as goal

pub returns : goal.returns
returns c = opened_is c.strip_prefix.result c.args.word.now (strip_prefix_char 91 c.args.word.now c.strip_prefix.result c.strip_prefix.ensures.cases (lit< tt))
