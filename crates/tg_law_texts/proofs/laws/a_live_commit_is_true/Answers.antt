use Rattle.tg_law_texts.proofs.Arriving.{true_live_adding, unhanded_isnt}
use Rattle.tg_law_texts.proofs.laws.a_live_commit_is_true.Goals as goal

pub returns : goal.returns
returns g = record { holds = true_live_adding; unhanded = unhanded_isnt }
