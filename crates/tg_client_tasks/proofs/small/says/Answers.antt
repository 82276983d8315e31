use Rattle.tg_play.proofs.Means.{means}
use Rattle.tg_client_tasks.proofs.Said.{said}
use Rattle.tg_client_tasks.proofs.small.says.Goals as goal

pub returns : goal.returns
returns g c = λ v n old h. said (means g.K.Kind g.K.Registry) c.args.state v n old c.args.notes c.new.result c.new.ensures h
