use Rattle.tg_law_claims.proofs.Forgetting.Serial.{serial_first}
use Rattle.tg_law_claims.proofs.laws_of_forgetting.serial_first.Goals as goal

pub returns : goal.returns
returns g = serial_first
