use Rattle.std.proofs.Common.{ap, ◌∙◌}
use Rattle.tg_protocol.specs.Sequencers.{SeqrState, seqr_step}
use Rattle.tg_world_servers.proofs.Moving.{calls_below, state_was, states_now, counted_now}
use Rattle.tg_world_servers.proofs.rows.seqr_takes.Goals as goal

pub step-requires : goal.step-requires
step-requires c = calls_below c.args.seqrs.now.items c.args.num c.swap_remove-seqr.result c.requires.within c.swap_remove-seqr.ensures.value c.requires.room

pub returns-clause-now : goal.returns-clause-now
returns-clause-now c = λ d.
    states_now c.args.seqrs.now.items c.swap_remove-seqr.new.self.items c.put_back.new.row.items c.args.num c.swap_remove-seqr.result c.in_ok-seqr.seqr c.requires.within c.swap_remove-seqr.ensures.value c.swap_remove-seqr.ensures.items
    c.in_ok-put_back.ensures (λ s. (seqr_step s c.args.from c.args.rid c.args.msg.now).now) d c.in_ok-seqr.ensures.now

pub returns-clause-sends : goal.returns-clause-sends
returns-clause-sends c = λ d.
    c.in_ok-seqr.ensures.sends
    ∙ ap (λ (s : SeqrState). (seqr_step s c.args.from c.args.rid c.args.msg.now).sends)
    (state_was c.args.seqrs.now.items c.swap_remove-seqr.new.self.items c.put_back.new.row.items c.args.num c.swap_remove-seqr.result c.in_ok-seqr.seqr c.requires.within c.swap_remove-seqr.ensures.value c.swap_remove-seqr.ensures.items
    c.in_ok-put_back.ensures d)

pub returns-clause-counted : goal.returns-clause-counted
returns-clause-counted c = λ steps k.
    counted_now c.args.seqrs.now.items c.swap_remove-seqr.new.self.items c.put_back.new.row.items c.args.num c.swap_remove-seqr.result c.in_ok-seqr.seqr c.requires.within c.swap_remove-seqr.ensures.value c.swap_remove-seqr.ensures.items
    c.in_ok-put_back.ensures steps c.in_ok-seqr.ensures.calls k
