use Rattle.std.proofs.Common.{◌∙◌}
use Rattle.tg_play.proofs.Means.{means}
use Rattle.tg_client.proofs.Fresh.{same_busy}
use Rattle.tg_client.proofs.client.Client.is_busy.Goals as goal

pub returns : goal.returns
returns g c = λ d h. c.is_some.ensures ∙ same_busy (means g.K.Kind g.K.Registry) c.args.self.now.work d.work h.kept.work
