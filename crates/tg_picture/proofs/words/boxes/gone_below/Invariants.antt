use Rattle.std.proofs.Common.{◌≡◌, drop}
use Rattle.tg_picture.specs.Standings.{gone_after}
use Rattle.tg_picture.proofs.words.boxes.gone_below.Given as goal

abbrev pub invariant-loop-packet : goal.invariant-loop-packet
invariant-loop-packet l = gone_after l.gone (drop l.packet-index l.packets) ≡ gone_after 0 l.packets
