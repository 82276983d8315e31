use Rattle.tg_law_replies.proofs.Pages.Read.{logs_keep_grammar}
use Rattle.tg_law_replies.proofs.laws_of_pages.logs_keep_grammar.Goals as goal

pub returns : goal.returns
returns g c = logs_keep_grammar _
