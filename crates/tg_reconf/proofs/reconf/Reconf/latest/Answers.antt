use Rattle.std.proofs.Common.{◌≡◌, subst}
use Rattle.std.specs.Prelude.{IfOk}
use Rattle.tg_protocol.specs.Reconfiguring.{Reconf}
use Rattle.tg_protocol.specs.Reconfiguring.{reconf_latest}
use Rattle.tg_reconf.specs.Turns.{shown, by_reconf}
use Rattle.tg_reconf.proofs.Staying.{latest_stays, gives_drawn}
use Rattle.tg_reconf.proofs.reconf.Reconf.latest.Goals as goal

pub returns-clause-awaited : goal.returns-clause-awaited
returns-clause-awaited c =
    let old = c.args.rids.now.next in
    gives_drawn c.on_layout.result c.on_layout.new.rids.next old (reconf_latest c.args.self c.args.self.work c.args.server c.args.rid c.args.proj old)
    (latest_stays c.args.self c.args.server c.args.rid c.args.proj old c.requires.awaited)
    (subst (λ (r : Reconf). IfOk c.on_layout.result (λ s. shown s c.on_layout.new.rids.next ≡ by_reconf old (reconf_latest r r.work c.args.server c.args.rid c.args.proj old))) c.into_parts-parts.ensures.parts c.on_layout.ensures.turn)
