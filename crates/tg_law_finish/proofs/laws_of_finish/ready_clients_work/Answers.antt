use Rattle.tg_law_finish.proofs.Finish.AtWork.{ready_clients_work}
use Rattle.tg_law_finish.proofs.laws_of_finish.ready_clients_work.Goals as goal

pub returns : goal.returns
returns g c = ready_clients_work _
