use Rattle.tg_law_sizes.proofs.Short.{packet_short}
use Rattle.tg_law_sizes.proofs.packets_are_short.Goals as goal

pub returns : goal.returns
returns c = packet_short c.args.packet.now c.requires
