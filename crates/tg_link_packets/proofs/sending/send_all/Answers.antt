use Rattle.std.proofs.Common.{rules, ◌∙◌}
use Rattle.tg_io.proofs.Faults.{sure_since}
use Rattle.tg_link_packets.proofs.Outgoing.{sending_next, sending_end, sending_fails}
use Rattle.tg_link_packets.proofs.sending.send_all.Goals as goal

pub loop-alloc-preserved : goal.loop-alloc-preserved
loop-alloc-preserved g c =
    let i = c.loop-alloc.invariant in
    let (o, at, left, gone) = c.in_ok-send_first.ensures.sent in
    record {
      sent = sending_next _ c.args.node c.args.outs c.loop-alloc.outs c.send_first.new.outs _ _ o i.sent at left gone;
      handed = c.in_ok-send_first.ensures.handed ∙ i.handed;
      still = c.in_ok-send_first.ensures.still ∙ i.still;
      sure = sure_since _ _ _ _ _ _ i.sure c.in_ok-send_first.ensures.sure;
    }

pub returns-in_err-send_first-clause-cut_off : goal.returns-in_err-send_first-clause-cut_off
returns-in_err-send_first-clause-cut_off g c =
    let h =
    sending_fails (record { sent = g.L.Link.sent c.args.link.now; acts = g.L.Link.acts c.args.link.now }) c.args.node c.args.outs c.loop-alloc.outs
    (record { sent = g.L.Link.sent c.loop-alloc.link; acts = g.L.Link.acts c.loop-alloc.link })
    (record { sent = g.L.Link.sent c.send_first.new.link; acts = g.L.Link.acts c.send_first.new.link }) c.is_empty.result
    c.loop-alloc.invariant.sent c.is_empty.ensures c.loop-alloc-test.true c.in_err-send_first.ensures.kept c.in_err-send_first.ensures.no_act in
    search (rules, h)
