use Rattle.tg_entry.proofs.Decoding.{is_short}
use Rattle.tg_entry.proofs.coding.encode.Goals as goal

pub put_entry-requires : goal.put_entry-requires
put_entry-requires c = is_short c.args.value.now c.requires
