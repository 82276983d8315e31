use Rattle.tg_protocol.specs.Versions.{based}
use Rattle.tg_play.proofs.Means.{means}
use Rattle.tg_ckpt.proofs.Telling.{loaded_kept}
use Rattle.tg_ckpt.proofs.loading.with_versions.Goals as goal

pub returns-in_ok-vers-in-Some : goal.returns-in_ok-vers-in-Some
returns-in_ok-vers-in-Some g c =
    loaded_kept (means g.K.Kind g.K.Registry) c.args.oid c.args.upto (based c.args.oid c.args.versions.0 c.args.versions.1 c.args.keys.now) c.in_ok-vers-in-Some.vers c.in-Some.state c.args.state c.in_ok-vers-in-Some.ensures.kept c.in-Some.is
