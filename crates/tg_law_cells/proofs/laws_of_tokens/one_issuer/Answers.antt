use Rattle.tg_law_cells.proofs.Tokens.Named.{one_issuer}
use Rattle.tg_law_cells.proofs.laws_of_tokens.one_issuer.Goals as goal

pub returns : goal.returns
returns g c = one_issuer _
