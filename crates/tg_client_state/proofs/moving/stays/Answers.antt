use Rattle.std.proofs.Common.{Some}
use Rattle.tg_play.proofs.Means.{means}
use Rattle.tg_client_state.proofs.Waiting.{stayed}
use Rattle.tg_client_state.proofs.moving.stays.Goals as goal

pub returns : goal.returns
returns g c = λ k h. stayed (means g.K.Kind g.K.Registry) c.args.state (Some c.args.work) k c.new.result c.new-2.result c.new.ensures c.new-2.ensures h
