use Rattle.std.proofs.Common.{ap, ◌∙◌}
use Rattle.std.specs.Prelude.{slice_set}
use Rattle.tg_protocol.specs.LayoutServers.{LayoutState, layout_step}
use Rattle.tg_world_servers.proofs.Moving.{was_there}
use Rattle.tg_world_servers.proofs.Swapping.{set_back}
use Rattle.tg_world_servers.proofs.rows.layout_takes.Goals as goal

pub returns-clause-now : goal.returns-clause-now
returns-clause-now c = λ d.
    set_back c.args.layouts.now.items c.swap_remove-layout.new.self.items c.put_back.new.row.items c.args.num c.swap_remove-layout.result c.in_ok-layout.layout c.requires c.swap_remove-layout.ensures.items c.in_ok-put_back.ensures
    ∙ ap (λ (s : LayoutState). slice_set c.args.layouts.now.items c.args.num s)
    (c.in_ok-layout.ensures.now
    ∙ ap (λ (s : LayoutState). (layout_step s c.args.msg.now).now) (was_there c.args.layouts.now.items c.args.num c.swap_remove-layout.result d c.requires c.swap_remove-layout.ensures.value))
