use Rattle.std.proofs.Common.{ap, ◌∙◌}
use Rattle.std.specs.Prelude.{slice_set}
use Rattle.tg_protocol.specs.Units.{UnitState, unit_step}
use Rattle.tg_world_servers.proofs.Moving.{was_there}
use Rattle.tg_world_servers.proofs.Swapping.{set_back}
use Rattle.tg_world_servers.proofs.rows.unit_takes.Goals as goal

pub returns-clause-now : goal.returns-clause-now
returns-clause-now c = λ d.
    set_back c.args.units.now.items c.swap_remove-unit.new.self.items c.put_back.new.row.items c.args.num c.swap_remove-unit.result c.in_ok-unit.unit c.requires c.swap_remove-unit.ensures.items c.in_ok-put_back.ensures
    ∙ ap (λ (s : UnitState). slice_set c.args.units.now.items c.args.num s)
    (c.in_ok-unit.ensures.now
    ∙ ap (λ (s : UnitState). (unit_step s c.args.msg.now).now) (was_there c.args.units.now.items c.args.num c.swap_remove-unit.result d c.requires c.swap_remove-unit.ensures.value))
