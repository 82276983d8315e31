use Rattle.std.proofs.Common.{◌+◌, ◌++◌, ◌∷◌, [], ap, ◌∙◌}
use Rattle.tg_world_servers.specs.Waits.{Waits}
use Rattle.tg_world_servers.proofs.Waits.{is_sent}
use Rattle.tg_world_servers.proofs.waiting.Waiting.send.Goals as goal

pub returns-clause-ok : goal.returns-clause-ok
returns-clause-ok c =
    is_sent c.self.inside.waits.items c.push.new.self.items c.in_ok-push.ensures.items ∙ ap (λ (w : Waits). record { sent = w.sent + 1; numbers = w.numbers ++ w.sent ∷ [] }) c.self.view_is
