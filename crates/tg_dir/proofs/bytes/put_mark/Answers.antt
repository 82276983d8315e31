use Rattle.std.specs.Int.{w32, w64, to_be_bytes}
use Rattle.tg_codec.proofs.Many.{glue}
use Rattle.tg_dir.proofs.bytes.put_mark.Goals as goal

pub returns : goal.returns
returns c = glue c.args.out.now (to_be_bytes w32 c.args.oid.0) (to_be_bytes w64 c.args.mark) c.put_u32.new.out c.put_u64.new.out c.in_ok-put_u32.ensures c.in_ok-put_u64.ensures
