use Rattle.tg_law_replies.proofs.Pages.Read.{pages_keep_grammar}
use Rattle.tg_law_replies.proofs.laws_of_pages.pages_keep_grammar.Goals as goal

pub returns : goal.returns
returns g = pages_keep_grammar
