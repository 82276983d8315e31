use Rattle.std.proofs.Common.{ap, ◌∙◌}
use Rattle.tg_protocol.specs.Versions.{Parts}
use Rattle.tg_vers.proofs.Keeping.{parts_told}
use Rattle.tg_vers.proofs.versions.Versions.parts.Goals as goal

pub returns-clause-whole : goal.returns-clause-whole
returns-clause-whole c = λ v keeps. c.in_ok-parts.ensures.whole ∙ ap (λ (p : Parts). p.whole) (parts_told c.args.self.now v c.args.oid keeps)

pub returns-clause-keys : goal.returns-clause-keys
returns-clause-keys c = λ v keeps. c.in_ok-parts.ensures.keys ∙ ap (λ (p : Parts). p.keys) (parts_told c.args.self.now v c.args.oid keeps)
