use Rattle.tg_law_headline.proofs.Registered.Roots.{tokens_follow_registrations}
use Rattle.tg_law_headline.proofs.laws_of_registered.tokens_follow_registrations.Goals as goal

pub returns : goal.returns
returns g c = tokens_follow_registrations _
