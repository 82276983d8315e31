use Rattle.std.proofs.Common.{◌≡◌, subst}
use Rattle.std.specs.Prelude.{IfOk}
use Rattle.tg_protocol.specs.Reconfiguring.{Reconf}
use Rattle.tg_reconf.specs.Turns.{shown, by_reconf, fed}
use Rattle.tg_reconf.proofs.Staying.{fed_stays, gives_drawn}
use Rattle.tg_reconf.proofs.reconf.Reconf.feed.Goals as goal

pub returns-clause-awaited : goal.returns-clause-awaited
returns-clause-awaited c =
    let old = c.args.rids.now.next in
    gives_drawn c.on_message.result c.on_message.new.rids.next old (fed c.args.self c.args.from c.args.rid c.args.msg.now old)
    (fed_stays c.args.self c.args.from c.args.rid c.args.msg.now old c.requires.awaited)
    (subst (λ (r : Reconf). IfOk c.on_message.result (λ s. shown s c.on_message.new.rids.next ≡ by_reconf old (fed r c.args.from c.args.rid c.args.msg.now old))) c.into_parts-parts.ensures.parts c.on_message.ensures.turn)
