use Rattle.std.proofs.Common.{◌+◌, ◌∷◌, None, ap, ◌∙◌, subst}
use Rattle.std.specs.Prelude.{IfOk, Option}
use Rattle.tg_base.specs.declared.marks.Part.{Part}
use Rattle.tg_protocol.specs.Versions.{with_change}
use Rattle.tg_protocol.specs.Views.{touched}
use Rattle.tg_play.proofs.Means.{means}
use Rattle.tg_vers.specs.Kept.{Keeps}
use Rattle.tg_world_log.specs.Turns.{changed}
use Rattle.tg_world_log.proofs.history.note.Goals as goal

pub returns : goal.returns
unfolding with_change
returns g c = λ ns k.
    subst (λ (p : Part). IfOk c.note.result (λ v. Keeps v (changed (record { oid = c.args.write.now.oid; part = p; version = c.args.pos + 1 } ∷ ns))))
    (c.in_ok-touch.ensures.part ∙ ap (λ (o : Option g.row.K-Op.Denot). touched (means g.K.Kind g.K.Registry) o) c.in_ok-op.ensures) (c.note.ensures (changed ns) k)
