use Rattle.tg_protocol.specs.Reconfiguring.{reconf_start}
use Rattle.tg_reconf.proofs.Staying.{begun_stays, gives_drawn}
use Rattle.tg_reconf.proofs.reconf.Reconf.start.Goals as goal

pub returns-clause-awaited : goal.returns-clause-awaited
returns-clause-awaited c =
    let p = c.args.stand.proj in
    gives_drawn c.open.result c.open.new.rids.next c.args.rids.now.next (reconf_start p c.args.stand.layouts c.args.change c.args.me c.args.rids.now.next)
    (begun_stays p c.args.stand.layouts c.args.change c.args.me c.args.rids.now.next) c.open.ensures.turn
