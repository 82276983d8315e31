use Rattle.std.proofs.Common.{ap, ◌∙◌, arith}
use Rattle.tg_world_servers.specs.Posts.{first_of}
use Rattle.tg_world_servers.specs.Waits.{Waits}
use Rattle.tg_world_servers.proofs.Waits.{first_is, none_is}
use Rattle.tg_world_servers.proofs.waiting.Waiting.first.Goals as goal

pub returns-then-self-len : goal.returns-then-self-len
returns-then-self-len c =
    let ws = c.self.inside.waits.items in
    first_is 0 c.self.inside.first ws (omega (arith, c.self.invariant)) (omega (arith, c.self.invariant, c.if-self-len.true, c.len.ensures)) ∙ ap (λ (w : Waits). first_of w.numbers) c.self.view_is

pub returns : goal.returns
returns c =
    let ws = c.self.inside.waits.items in
    none_is 0 ws (omega (arith, c.self.invariant, c.if-self-len.false, c.len.ensures)) ∙ ap (λ (w : Waits). first_of w.numbers) c.self.view_is
