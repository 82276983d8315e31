use Rattle.std.proofs.Common.{refl}
use Rattle.tg_live.proofs.Breaking.{on_err}
use Rattle.tg_live.proofs.stages.Running.take.Goals as goal

pub returns-clause-made : goal.returns-clause-made
returns-clause-made g c = λ h first l k. (c.in_ok-went.went, c.in_ok-went.ensures.fed h first l k, c.after.ensures.after c.args.self refl)

pub returns-clause-counts : goal.returns-clause-counts
returns-clause-counts g c = c.after.ensures.counts c.args.self.lines refl

pub returns-in_err-went-clause-broken : goal.returns-in_err-went-clause-broken
returns-in_err-went-clause-broken g c = on_err c.from_residual.result (λ h first l k. c.in_err-went.ensures.broken h first l k)
