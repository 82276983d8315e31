use Rattle.std.proofs.Common.{ap}
use Rattle.std.specs.Prelude.{slice_get}
use Rattle.tg_base.specs.declared.ids.NodeId.{NodeId}
use Rattle.tg_base.specs.declared.ids.Role.TheVariants as role
use Rattle.tg_world_servers.proofs.Taking.{receiver_is, as_role}
use Rattle.tg_world_servers.proofs.servers.Servers.take_at.Goals as goal

pub returns-in-Unit-clause-now : goal.returns-in-Unit-clause-now
returns-in-Unit-clause-now c = λ p at.
    as_role c.take_unit.result c.args.self p role.Unit c.args.node.role c.in-Unit.is
    (c.take_unit.ensures.now p at (ap (λ (n : NodeId). n.num) (receiver_is (slice_get c.args.self.post.packets c.args.number) c.args.node p c.requires.sent at)))

pub returns-in-Layout-clause-now : goal.returns-in-Layout-clause-now
returns-in-Layout-clause-now c = λ p at.
    as_role c.take_layout.result c.args.self p role.Layout c.args.node.role c.in-Layout.is
    (c.take_layout.ensures.now p at (ap (λ (n : NodeId). n.num) (receiver_is (slice_get c.args.self.post.packets c.args.number) c.args.node p c.requires.sent at)))

pub returns-in-Seqr-clause-now : goal.returns-in-Seqr-clause-now
returns-in-Seqr-clause-now c = λ p at.
    as_role c.take_seqr.result c.args.self p role.Seqr c.args.node.role c.in-Seqr.is
    (c.take_seqr.ensures.now p at (ap (λ (n : NodeId). n.num) (receiver_is (slice_get c.args.self.post.packets c.args.number) c.args.node p c.requires.sent at)))
