use Rattle.std.proofs.Common.{Option, ap}
use Rattle.tg_base.specs.declared.ids.Oid.{Oid}
use Rattle.tg_protocol.specs.Views.{by_versions}
use Rattle.tg_play.proofs.Reading.{changes_told}
use Rattle.tg_play.proofs.reads.by_versions.Goals as goal

pub returns-in-Some : goal.returns-in-Some
returns-in-Some g c = λ v k. ap (λ (o : Option Oid). by_versions _ v c.args.reads.now c.args.pos o) (c.in-Some.ensures v k)

pub returns-in-None : goal.returns-in-None
returns-in-None g c = λ v k.
    changes_told _ v c.args.pos c.args.reads.now _ _ (c.is_changed.ensures v k) c.by_changes.ensures (c.in-None.ensures v k)
