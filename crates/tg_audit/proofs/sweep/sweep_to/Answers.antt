use Rattle.std.proofs.Common.{refl}
use Rattle.tg_audit.proofs.Means.{means}
use Rattle.tg_audit.proofs.Sweeping.{fresh_sweep, swept}
use Rattle.tg_audit.proofs.sweep.sweep_to.Goals as goal

pub returns : goal.returns
returns g c =
    swept (means g.K.Kind g.K.Registry) c.args.objects.now c.args.history.now c.args.asked c.args.asked c.args.before c.in_ok-fresh.fresh 0 c.up_to-2.result
    (fresh_sweep (means g.K.Kind g.K.Registry) c.args.objects.now c.args.history.now c.args.asked c.in_ok-fresh.fresh c.in_ok-fresh.ensures) refl c.up_to-2.ensures
