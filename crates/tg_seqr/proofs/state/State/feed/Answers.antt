use Rattle.std.proofs.Common.{◌≡◌, sym, subst, ◌∙◌, IfOk, List}
use Rattle.tg_base.specs.declared.packet.Out.{Out}
use Rattle.tg_protocol.specs.Sequencers.{SeqrState}
use Rattle.tg_seqr.proofs.Scanning.{moved}
use Rattle.tg_seqr.proofs.state.State.feed.Goals as goal

pub turned-requires-clause-turn : goal.turned-requires-clause-turn
turned-requires-clause-turn c =
    let m = moved c.args.self c.idle-state.result.0 c.numbered-state.result c.in-Some.scan c.args.from c.args.rid c.args.msg.now c.in_ok-turn-in-Some.turn c.feed.new.rids.next c.numbers-rids.result.next
    c.idle-state.ensures.state (sym c.idle-state.ensures.scan ∙ c.in-Some.is) c.idle-state.ensures.room c.numbers-rids.ensures c.in_ok-turn-in-Some.ensures.turn c.numbered-state.ensures in
    m.room

pub returns-in_ok-turn-in-Some-clause-now : goal.returns-in_ok-turn-in-Some-clause-now
returns-in_ok-turn-in-Some-clause-now c =
    let m = moved c.args.self c.idle-state.result.0 c.numbered-state.result c.in-Some.scan c.args.from c.args.rid c.args.msg.now c.in_ok-turn-in-Some.turn c.feed.new.rids.next c.numbers-rids.result.next
    c.idle-state.ensures.state (sym c.idle-state.ensures.scan ∙ c.in-Some.is) c.idle-state.ensures.room c.numbers-rids.ensures c.in_ok-turn-in-Some.ensures.turn c.numbered-state.ensures in
    subst (λ (x : SeqrState). IfOk c.turned.result (λ r. r.0 ≡ x)) m.now c.turned.ensures.now

pub returns-in_ok-turn-in-Some-clause-sends : goal.returns-in_ok-turn-in-Some-clause-sends
returns-in_ok-turn-in-Some-clause-sends c =
    let m = moved c.args.self c.idle-state.result.0 c.numbered-state.result c.in-Some.scan c.args.from c.args.rid c.args.msg.now c.in_ok-turn-in-Some.turn c.feed.new.rids.next c.numbers-rids.result.next
    c.idle-state.ensures.state (sym c.idle-state.ensures.scan ∙ c.in-Some.is) c.idle-state.ensures.room c.numbers-rids.ensures c.in_ok-turn-in-Some.ensures.turn c.numbered-state.ensures in
    subst (λ (x : List Out). IfOk c.turned.result (λ r. r.1 ≡ x)) m.sends c.turned.ensures.sends
