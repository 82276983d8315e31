use Rattle.tg_play.proofs.Means.{means}
use Rattle.tg_client_tasks.proofs.Starting.{replied_at}
use Rattle.tg_client_tasks.proofs.copying.copied.Goals as goal

pub returns : goal.returns
returns g c = λ r old h. replied_at (means g.K.Kind g.K.Registry) c.replies.result c.args.state r old _ _ c.in_ok-notes.ensures c.replies.ensures h
