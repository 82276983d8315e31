use Rattle.std.proofs.Common.{ap, ◌∙◌, reverse, ◌∷◌, []}
use Rattle.tg_world_servers.specs.Posts.{PostState, posted}
use Rattle.tg_world_servers.specs.Waits.{Waits}
use Rattle.tg_world_servers.proofs.Counting.{sent_more, is_posted}
use Rattle.tg_world_servers.proofs.post.Post.send.Goals as goal

pub invariant_of-self-in-Ok : goal.invariant_of-self-in-Ok
invariant_of-self-in-Ok c =
    sent_more c.self.inside.packets.items c.push.new.self.items c.self.inside.waiting.sent c.send.new.self.sent c.args.packet c.self.inside.bytes c.size.result c.saturating_add-bytes.result c.self.invariant c.in_ok-push.ensures.items
    (ap (λ (w : Waits). w.sent) c.in-Ok.ensures.ok) c.size.ensures c.saturating_add-bytes.ensures

pub returns-in-Ok-clause-ok : goal.returns-in-Ok-clause-ok
returns-in-Ok-clause-ok c =
    is_posted c.self.inside.packets.items c.self.inside.waiting.numbers c.self.inside.waiting.sent c.self.inside.bytes (reverse c.self.inside.delivered.items) c.args.packet c.push.new.self.items c.send.new.self.numbers c.self.invariant
    c.in_ok-push.ensures.items (ap (λ (w : Waits). w.numbers) c.in-Ok.ensures.ok)
    ∙ ap (λ (s : PostState). posted s (c.args.packet ∷ [])) c.self.view_is
