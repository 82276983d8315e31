use Rattle.std.proofs.Common.{arith}
use Rattle.tg_list.specs.TextLists.{op_format}
use Rattle.tg_list.specs.TextListLaws.{op_law}
use Rattle.tg_list.proofs.Places.{front_place}
use Rattle.tg_list.proofs.text_list.TextListKind.get_op.Goals as goal

pub returns-clause-place : goal.returns-clause-place
returns-clause-place c = front_place op_law c.args.bytes.now (λ i. omega (arith, c.type_inv.bytes i)) c.in_front.result (c.in_front.ensures (op_format.read c.args.bytes.now) c.op_in.ensures)
