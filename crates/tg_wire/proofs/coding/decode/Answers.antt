use Rattle.std.proofs.Common.{arith}
use Rattle.tg_wire.proofs.Decoding.{is_found, is_only, is_placed, is_ruled}
use Rattle.tg_wire.proofs.coding.decode.Goals as goal

pub returns-clause-found : goal.returns-clause-found
returns-clause-found c = is_found c.args.bytes.now c.read_all.result (λ i. omega (arith, c.type_inv.bytes i)) c.read_all.ensures

pub returns-clause-only : goal.returns-clause-only
returns-clause-only c = λ e s. is_only c.args.bytes.now c.read_all.result e (λ i. omega (arith, c.type_inv.bytes i)) s c.read_all.ensures

pub returns-clause-place : goal.returns-clause-place
returns-clause-place c = is_placed c.args.bytes.now c.read_all.result (λ i. omega (arith, c.type_inv.bytes i)) c.read_all.ensures

pub returns-clause-rules : goal.returns-clause-rules
returns-clause-rules c = is_ruled c.args.bytes.now c.read_all.result (λ i. omega (arith, c.type_inv.bytes i)) c.read_all.ensures
