use Rattle.tg_wire.proofs.Counts.{is_short}
use Rattle.tg_wire.proofs.Decoding.{is_spelled}
use Rattle.tg_wire.proofs.Ruled.{packet_fits}
use Rattle.tg_wire.proofs.coding.encode.Goals as goal

pub spelled-requires : goal.spelled-requires
spelled-requires c = is_short c.args.value.now (packet_fits c.args.value.now c.requires c.types.ensures)

pub returns : goal.returns
returns c = is_spelled c.args.value.now c.spelled.result (packet_fits c.args.value.now c.requires c.types.ensures) c.spelled.ensures
