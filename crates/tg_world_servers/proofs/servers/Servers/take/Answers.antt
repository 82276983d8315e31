use Rattle.std.proofs.Common.{sym, ◌∙◌, subst}
use Rattle.std.specs.Prelude.{slice_get, IfOk, ◌≡◌}
use Rattle.tg_world_servers.specs.Servers.{ServersState, counted}
use Rattle.tg_world_servers.proofs.Taking.{receiver_is, taken_there}
use Rattle.tg_world_servers.proofs.servers.Servers.take.Goals as goal

pub returns-then-runs-clause-now : goal.returns-then-runs-clause-now
returns-then-runs-clause-now c = λ p at.
    subst (λ (x : ServersState). IfOk c.take_at.result (λ s. s ≡ counted x))
    (taken_there c.args.self p c.in-Some.node (receiver_is (slice_get c.args.self.post.packets c.args.number) c.in-Some.node p (sym c.receiver.ensures ∙ c.in-Some.is) at) (sym c.runs.ensures ∙ c.if-runs.true))
    (c.take_at.ensures.now p at)
