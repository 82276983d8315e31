use Rattle.tg_client_answers.proofs.TellingTx.{}
use Rattle.tg_client_answers.proofs.closing.unsure.Goals as goal

pub returns : goal.returns
returns g c = c.closes.ensures
