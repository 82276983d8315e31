use Rattle.std.proofs.Common.{◌≡◌, ◌∙◌, sym, ap, subst}
use Rattle.tg_base.specs.declared.packet.Rids.{Rids}
use Rattle.tg_protocol.specs.Syncing.{SyncTurn}
use Rattle.tg_chain.specs.Turns.{shown as cell_shown}
use Rattle.tg_chain.specs.Ends.{probe_end as probe_ended}
use Rattle.tg_append.specs.Turns.{shown}
use Rattle.tg_append.specs.Syncs.{by_sync, confirmed_of, probing, sync_fed}
use Rattle.tg_append.proofs.SyncSubs.{probe_goes, probe_ends}
use Rattle.tg_append.proofs.sync.Sync.probe_feed.Goals as goal

pub returns-in-More-clause-turn : goal.returns-in-More-clause-turn
returns-in-More-clause-turn c =
    let given = sym (ap (λ t. cell_shown probe_ended t c.feed.new.rids.next) c.in-More.is) ∙ c.in_ok-probe.ensures.turn in
    probe_goes c.args.proj.now c.args.oids c.args.answer c.args.probe c.in-More.probe c.args.from c.args.rid c.args.msg.now c.args.rids.now.next c.feed.new.rids.next c.in-More.outs given

pub returns-clause-turn : goal.returns-clause-turn
returns-clause-turn c =
    let p = c.args.proj.now in
    let old = c.args.rids.now.next in
    let given = sym (ap (λ t. cell_shown probe_ended t c.feed.new.rids.next) c.in-End.is) ∙ c.in_ok-probe.ensures.turn in
    let over = probe_ends p c.args.oids c.args.answer c.args.probe (probe_ended c.in-End.end) c.args.from c.args.rid c.args.msg.now old c.feed.new.rids.next c.in-End.outs given in
    ap (λ (r : Rids). shown confirmed_of c.probe_over.result r.next) c.in_ok-probe.ensures.drawn
    ∙ c.probe_over.ensures p old c.args.probe ∙ sym (ap (λ (x : SyncTurn). by_sync p old x) over)
