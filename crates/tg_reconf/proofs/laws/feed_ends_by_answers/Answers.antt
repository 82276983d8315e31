use Rattle.tg_reconf.proofs.Ending.{feed_ends_by_answers}
use Rattle.tg_reconf.proofs.laws.feed_ends_by_answers.Goals as goal

pub returns : goal.returns
returns c = feed_ends_by_answers
