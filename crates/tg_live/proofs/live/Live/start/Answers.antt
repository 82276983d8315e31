use Rattle.std.proofs.Common.{◌≡◌, refl, arith}
use Rattle.tg_protocol.specs.Worlds.{start}
use Rattle.tg_any.specs.AllKinds.{all_kinds}
use Rattle.tg_world.proofs.Numbering.{none_begun}
use Rattle.tg_live.proofs.Keeping.{opened_keeps}
use Rattle.tg_live.proofs.live.Live.start.Goals as goal

pub returns-clause-opened : goal.returns-clause-opened
returns-clause-opened c = λ sent.
    opened_keeps c.args.cluster (record { cluster = c.args.cluster; world = c.in_ok-world.world; book = c.new.result; recording = c.new-2.result; received = 0 }) sent refl c.in_ok-world.ensures c.new.ensures c.new-2.ensures refl

pub returns-clause-kept : goal.returns-clause-kept
returns-clause-kept c =
    let none : c.in_ok-world.world.event ≡ 0 = none_begun all_kinds c.args.cluster c.in_ok-world.world c.in_ok-world.ensures in
    record { kept = record { world = start all_kinds c.args.cluster; keeps = c.in_ok-world.ensures }; few = omega (arith, none) }
