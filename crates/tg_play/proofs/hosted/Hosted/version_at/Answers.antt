use Rattle.std.proofs.Common.{◌≤◌, arith}
use Rattle.tg_play.proofs.Hosting.{not_past, played_at}
use Rattle.tg_play.proofs.hosted.Hosted.version_at.Goals as goal

pub returns : goal.returns
returns g c = λ v b s k.
    let le : c.args.self.now.upto ≤ c.args.pos = omega arith in
    played_at _ v b c.args.read.now c.args.pos _ (not_past _ c.args.pos b c.args.self.now.upto k.upto le) (c.version.ensures b.versions.base v.noted k.noted)
