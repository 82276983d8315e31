use Rattle.std.proofs.Common.{lit<}
use Rattle.std.proofs.lemmas.Str.Pattern.{strip_suffix_char}
use Rattle.tg_any.proofs.Lists.{closed_is}
use Rattle.tg_any.proofs.phrase.closed.Goals as goal

pub returns : goal.returns
returns c = closed_is c.strip_suffix.result c.args.word.now (strip_suffix_char 93 c.args.word.now c.strip_suffix.result c.strip_suffix.ensures.cases (lit< tt))
