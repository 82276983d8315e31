use Rattle.tg_stream.proofs.Streams.{read-listed}
use Rattle.tg_stream.proofs.backs.backs_in.Goals as goal

pub returns-in-Ok : goal.returns-in-Ok
returns-in-Ok c =
    read-listed c.args.oid c.args.pos c.as_slice.result.now c.args.page.now c.in-Ok.entry c.as_slice-in-Ok.result.now c.backs_among.result c.as_slice.ensures.bytes c.in-Ok.ensures.exact c.as_slice-in-Ok.ensures
    c.backs_among.ensures
