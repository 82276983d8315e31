use Rattle.std.proofs.Common.{◌∙◌, sym, ap}
use Rattle.tg_protocol.specs.Syncing.{Settling, settle_end}
use Rattle.tg_chain.specs.Ends.{fill_end as fill_ended}
use Rattle.tg_append.specs.Syncs.{settling, by_sync}
use Rattle.tg_append.proofs.sync.Sync.settle_over.Goals as goal

pub returns-in-Done-clause-turn : goal.returns-in-Done-clause-turn
returns-in-Done-clause-turn c = λ j.
    let p = c.args.proj.now in
    let n = c.args.rids.now.next in
    c.settled.ensures p n ∙ ap (λ e. by_sync p n (settle_end p (settling c.args.oids c.args.answer j) c.args.answer (fill_ended e) n)) (sym c.in-Done.is)

pub returns-in-Fenced-clause-turn : goal.returns-in-Fenced-clause-turn
returns-in-Fenced-clause-turn c = λ j.
    let p = c.args.proj.now in
    let n = c.args.rids.now.next in
    c.learn.ensures p n (Settling c.args.answer j) ∙ ap (λ e. by_sync p n (settle_end p (settling c.args.oids c.args.answer j) c.args.answer (fill_ended e) n)) (sym c.in-Fenced.is)
