use Rattle.std.proofs.Common.{◌∙◌, sym, ap}
use Rattle.tg_protocol.specs.Appending.{AppendTurn, append_work_asks}
use Rattle.tg_chain.specs.Turns.{shown as cell_shown}
use Rattle.tg_chain.specs.Ends.{put_end as put_ended, page_of}
use Rattle.tg_append.specs.Appends.{by_append}
use Rattle.tg_append.proofs.Frees.{put_frees}
use Rattle.tg_append.proofs.Subs.{put_goes, put_ends}
use Rattle.tg_append.proofs.Turned.{if_ok_by}
use Rattle.tg_append.proofs.append.Append.put_feed.Goals as goal

pub returns-in-More-clause-turn : goal.returns-in-More-clause-turn
returns-in-More-clause-turn c =
    let given = sym (ap (λ t. cell_shown (put_ended (page_of c.args.put)) t c.feed.new.rids.next) c.in-More.is) ∙ c.in_ok-put.ensures.turn in
    put_goes c.args.proj.now c.args.draft c.args.token c.args.put c.in-More.put c.args.from c.args.rid c.args.msg.now c.args.rids.now.next c.feed.new.rids.next c.in-More.outs given

pub returns-clause-turn : goal.returns-clause-turn
returns-clause-turn c =
    let given = sym (ap (λ t. cell_shown (put_ended (page_of c.args.put)) t c.feed.new.rids.next) c.in-End.is) ∙ c.in_ok-put.ensures.turn in
    let over = put_ends c.args.proj.now c.args.draft c.args.token c.args.put (put_ended (page_of c.args.put) c.in-End.end) c.args.from c.args.rid c.args.msg.now c.args.rids.now.next c.feed.new.rids.next c.in-End.outs given in
    if_ok_by c.put_over.result _ _ (λ t h. h c.args.put (page_of c.args.put) ∙ sym (ap (λ (x : AppendTurn). by_append c.args.proj.now c.args.rids.now.next x) over)) c.put_over.ensures.turn

pub returns-clause-free : goal.returns-clause-free
unfolding append_work_asks
returns-clause-free c = λ idle.
    let given = sym (ap (λ t. cell_shown (put_ended (page_of c.args.put)) t c.feed.new.rids.next) c.in-End.is) ∙ c.in_ok-put.ensures.turn in
    c.put_over.ensures.free (put_frees (page_of c.args.put) c.in-End.end c.args.put c.args.from c.args.rid c.args.msg.now c.args.rids.now.next c.feed.new.rids.next c.in-End.outs idle given)
