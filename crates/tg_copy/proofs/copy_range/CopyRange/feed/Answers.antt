use Rattle.std.proofs.Common.{ap, subst}
use Rattle.tg_base.specs.declared.change.Join.{Join}
use Rattle.tg_copy.specs.Turns.{shown, given_to, spare_of, IsOfSpare}
use Rattle.tg_copy.specs.Copies.{asking, getting}
use Rattle.tg_copy.proofs.Spares.{fed_spare}
use Rattle.tg_copy.proofs.Turned.{if_ok_by}
use Rattle.tg_copy.proofs.copy_range.CopyRange.feed.Goals as goal

pub returns-in-Asks-clause-spare : goal.returns-in-Asks-clause-spare
returns-in-Asks-clause-spare c =
    if_ok_by c.ask_feed.result _ _ (λ t h. subst (λ (s : Join). IsOfSpare s (given_to t.next)) (ap spare_of c.self.view_is)
    (fed_spare c.args.proj.now (asking c.self.inside.join c.in-Asks.own c.in-Asks.ask) c.args.from c.args.rid c.args.msg.now c.args.rids.now.next (shown t c.ask_feed.new.rids.next) h)) c.ask_feed.ensures.turn

pub returns-in-Reads-clause-spare : goal.returns-in-Reads-clause-spare
returns-in-Reads-clause-spare c =
    if_ok_by c.read_feed.result _ _ (λ t h. subst (λ (s : Join). IsOfSpare s (given_to t.next)) (ap spare_of c.self.view_is)
    (fed_spare c.args.proj.now (getting c.self.inside.join c.in-Reads.reading) c.args.from c.args.rid c.args.msg.now c.args.rids.now.next (shown t c.read_feed.new.rids.next) h)) c.read_feed.ensures.turn
