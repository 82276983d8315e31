use Rattle.std.proofs.Common.{◌≡◌, sym, subst}
use Rattle.tg_protocol.specs.Reconfiguring.{reconf_latest}
use Rattle.tg_reconf.specs.declared.job.Work.{Work}
use Rattle.tg_reconf.specs.States.{working, work_of}
use Rattle.tg_reconf.specs.Turns.{shown, by_reconf}
use Rattle.tg_reconf.proofs.machine.on_layout.Goals as goal

pub returns-in-Starts-clause-turn : goal.returns-in-Starts-clause-turn
returns-in-Starts-clause-turn c =
    subst (λ (w : Work). shown c.on_started.result c.args.rids.now.next ≡ by_reconf c.args.rids.now.next (reconf_latest (working c.args.plan (work_of w)) (work_of w) c.args.server c.args.rid c.args.proj c.args.rids.now.next)) (sym c.in-Starts.is)
    (c.on_started.ensures c.args.server c.args.rid c.args.rids.now.next)
