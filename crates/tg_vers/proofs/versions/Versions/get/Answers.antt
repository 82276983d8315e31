use Rattle.std.proofs.Common.{◌∙◌}
use Rattle.tg_vers.proofs.Keeping.{version_told}
use Rattle.tg_vers.proofs.versions.Versions.get.Goals as goal

pub returns : goal.returns
returns c = λ v keeps. c.version.ensures ∙ version_told c.args.self.now v c.args.oid c.args.part.now keeps
