use Rattle.std.proofs.Common.{◌∙◌, sym, ap}
use Rattle.tg_protocol.specs.Syncing.{SyncTurn, sync_work_asks}
use Rattle.tg_chain.specs.Turns.{shown as cell_shown}
use Rattle.tg_chain.specs.Ends.{fill_end as fill_ended}
use Rattle.tg_append.specs.Syncs.{by_sync}
use Rattle.tg_append.proofs.Frees.{trim_frees}
use Rattle.tg_append.proofs.SyncSubs.{settle_goes, settle_ends}
use Rattle.tg_append.proofs.Turned.{if_ok_by}
use Rattle.tg_append.proofs.sync.Sync.settle_feed.Goals as goal

pub returns-in-More-clause-turn : goal.returns-in-More-clause-turn
returns-in-More-clause-turn c =
    let given = sym (ap (λ t. cell_shown fill_ended t c.feed.new.rids.next) c.in-More.is) ∙ c.in_ok-fill.ensures.turn in
    settle_goes c.args.proj.now c.args.oids c.args.answer c.args.fill c.in-More.fill c.args.from c.args.rid c.args.msg.now c.args.rids.now.next c.feed.new.rids.next c.in-More.outs given

pub returns-clause-turn : goal.returns-clause-turn
returns-clause-turn c =
    let given = sym (ap (λ t. cell_shown fill_ended t c.feed.new.rids.next) c.in-End.is) ∙ c.in_ok-fill.ensures.turn in
    let over = settle_ends c.args.proj.now c.args.oids c.args.answer c.args.fill (fill_ended c.in-End.end) c.args.from c.args.rid c.args.msg.now c.args.rids.now.next c.feed.new.rids.next c.in-End.outs given in
    if_ok_by c.settle_over.result _ _ (λ t h. h c.args.fill ∙ sym (ap (λ (x : SyncTurn). by_sync c.args.proj.now c.args.rids.now.next x) over)) c.settle_over.ensures.turn

pub returns-clause-free : goal.returns-clause-free
unfolding sync_work_asks
returns-clause-free c = λ idle.
    let given = sym (ap (λ t. cell_shown fill_ended t c.feed.new.rids.next) c.in-End.is) ∙ c.in_ok-fill.ensures.turn in
    c.settle_over.ensures.free (trim_frees c.in-End.end c.args.fill c.args.from c.args.rid c.args.msg.now c.args.rids.now.next c.feed.new.rids.next c.in-End.outs idle given)
