use Rattle.tg_law_sizes.proofs.Packets.{packet_len}
use Rattle.tg_law_sizes.proofs.sizes_agree.Goals as goal

pub returns : goal.returns
returns c = packet_len c.args.packet.now c.requires
