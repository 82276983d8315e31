use Rattle.std.proofs.Common.{sym, subst}
use Rattle.tg_protocol.specs.Versions.{no_versions}
use Rattle.tg_vers.specs.Kept.{Objects, Keeps}
use Rattle.tg_vers.proofs.Keeping.{new_keeps}
use Rattle.tg_vers.proofs.versions.Versions.new.Goals as goal

pub returns : goal.returns
returns c = subst (λ (os : Objects). Keeps os no_versions) (sym c.new.ensures.empty) new_keeps
