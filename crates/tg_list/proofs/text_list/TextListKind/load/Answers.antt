use Rattle.std.proofs.Common.{arith}
use Rattle.tg_list.specs.TextLists.{state_format}
use Rattle.tg_list.specs.TextListLaws.{state_law}
use Rattle.tg_list.proofs.Places.{whole_place}
use Rattle.tg_list.proofs.text_list.TextListKind.load.Goals as goal

pub returns-clause-place : goal.returns-clause-place
returns-clause-place c = whole_place state_law c.args.bytes.now (λ i. omega (arith, c.type_inv.bytes i)) c.in_whole.result (c.in_whole.ensures (state_format.read c.args.bytes.now) c.list_in.ensures)
