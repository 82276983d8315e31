use Rattle.tg_codec.proofs.Laws.{no_front}
use Rattle.tg_wire.specs.Packets.{packet}
use Rattle.tg_wire.proofs.Packets.{packet_law}
use Rattle.tg_wire.proofs.coding.no_spelling_begins_another.Goals as goal

pub returns : goal.returns
returns c = λ x y a b f g e. no_front packet packet_law.exact x y a b f g e
