use Rattle.std.proofs.Common.{◌∙◌}
use Rattle.tg_play.specs.Kept.{own}
use Rattle.tg_play.proofs.Own.{own_version}
use Rattle.tg_play.proofs.hosted.Hosted.version.Goals as goal

pub returns : goal.returns
returns g c = λ b ns k. c.get.ensures (own b c.args.oid ns) k ∙ own_version b ns c.args.oid c.args.part.now
