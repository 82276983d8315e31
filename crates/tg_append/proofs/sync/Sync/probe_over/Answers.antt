use Rattle.std.proofs.Common.{◌∙◌, sym, ap}
use Rattle.tg_protocol.specs.Syncing.{Probing, probe_end}
use Rattle.tg_chain.specs.Ends.{probe_end as probe_ended}
use Rattle.tg_append.specs.Syncs.{probing, by_sync}
use Rattle.tg_append.proofs.sync.Sync.probe_over.Goals as goal

pub returns-in-Seen : goal.returns-in-Seen
returns-in-Seen c = λ p n j.
    c.seen.ensures p n ∙ ap (λ e. by_sync p n (probe_end (probing c.args.oids c.args.answer j) c.args.answer (probe_ended e) n)) (sym c.in-Seen.is)

pub returns-in-Fenced : goal.returns-in-Fenced
returns-in-Fenced c = λ p n j.
    c.learn.ensures p n (Probing c.args.answer j) ∙ ap (λ e. by_sync p n (probe_end (probing c.args.oids c.args.answer j) c.args.answer (probe_ended e) n)) (sym c.in-Fenced.is)
