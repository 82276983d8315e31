use Rattle.tg_entry.proofs.Decoding.{is_short}
use Rattle.tg_entry.proofs.coding.size.Goals as goal

pub length_of-requires : goal.length_of-requires
length_of-requires c = is_short c.args.value.now c.requires
