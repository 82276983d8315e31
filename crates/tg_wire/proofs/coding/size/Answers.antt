use Rattle.tg_wire.proofs.Counts.{is_short}
use Rattle.tg_wire.proofs.Ruled.{packet_fits}
use Rattle.tg_wire.proofs.coding.size.Goals as goal

pub length_of-requires : goal.length_of-requires
length_of-requires c = is_short c.args.value.now (packet_fits c.args.value.now c.requires c.types.ensures)
