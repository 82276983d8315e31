use Rattle.std.proofs.Common.{◌∙◌, arith}
use Rattle.tg_play.proofs.Spellings.{rest_fits, op_read}
use Rattle.tg_play.proofs.ops.op_in.Goals as goal

pub returns-in-Ok : goal.returns-in-Ok
returns-in-Ok g c =
    c.whole_op.ensures
    ∙ op_read (g.K.Kind.is_of c.args.oid) c.args.bytes.now (g.K.Kind.read c.args.bytes.now) c.in-Ok.op c.in-Ok.taken c.in-Ok.ensures
    (λ rest e. rest_fits c.args.bytes.now (g.K.Kind.spelled c.in-Ok.op) rest (g.met.K.Kind.reads_only c.args.bytes.now c.in-Ok.op rest (λ i. omega (arith, c.type_inv.bytes i)) e).1)
