use Rattle.tg_law_cells.proofs.Tokens.Named.{issuer_is_named}
use Rattle.tg_law_cells.proofs.laws_of_tokens.issuer_is_named.Goals as goal

pub returns : goal.returns
returns g c = issuer_is_named _
