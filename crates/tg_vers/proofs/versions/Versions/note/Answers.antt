use Rattle.std.proofs.Common.{sym, subst}
use Rattle.tg_protocol.specs.Versions.{with_change}
use Rattle.tg_vers.specs.Kept.{Objects, Keeps}
use Rattle.tg_vers.proofs.Keeping.{note_keeps}
use Rattle.tg_vers.proofs.versions.Versions.note.Goals as goal

pub returns : goal.returns
returns c = λ v keeps. subst (λ (os : Objects). Keeps os (with_change v c.args.oid c.args.touch.now c.args.pos)) (sym c.in_ok-versions.ensures) (note_keeps c.args.self v c.args.oid c.args.touch.now c.args.pos keeps)
