use Rattle.std.proofs.Common.{◌≡◌, false, slice_set, ap, ◌∙◌, arith}
use Rattle.tg_world_servers.specs.Posts.{without}
use Rattle.tg_world_servers.specs.Waits.{Waits, first_open}
use Rattle.tg_world_servers.proofs.Waits.{is_closed, first_closed}
use Rattle.tg_world_servers.proofs.waiting.Waiting.end.Goals as goal

pub returns : goal.returns
returns c =
    is_closed c.self.inside.waits.items c.close.new.waits.items c.args.number c.close.ensures ∙ ap (λ (w : Waits). record w { numbers = without c.args.number w.numbers }) c.self.view_is

pub next_open-self-inside-requires : goal.next_open-self-inside-requires
next_open-self-inside-requires c =
    let vs = c.as_slice.result.now in
    let same : first_open vs ≡ first_open (slice_set c.self.inside.waits.items c.args.number false) = ap first_open (c.as_slice.ensures.value ∙ c.close.ensures) in
    omega (arith, same, c.self.invariant, first_closed c.args.number c.self.inside.waits.items)
