use Rattle.std.proofs.Common.{◌≡◌, ◌∙◌, ap, arith}
use Rattle.std.specs.Prelude.{length, take, ℕ}
use Rattle.tg_replay.proofs.Lists.{take_self}
use Rattle.space_time.proofs.Copies.{taken_more}
use Rattle.space_time.proofs.drawing.packets_of.Goals as goal

pub loop-number-init : goal.loop-number-init
loop-number-init c = λ w k. c.new-packets.ensures

pub loop-number-preserved : goal.loop-number-preserved
loop-number-preserved c = λ w k.
    c.in_ok-put_copy.ensures ∙ taken_more w.packets c.loop-number.packets c.loop-number.number _ (c.loop-number.invariant w k) (c.packet.ensures w k)

pub returns : goal.returns
returns c = λ w k.
    let many : c.sent-number-end.result ≡ length w.packets = c.sent-number-end.ensures w k in
    let all : c.loop-number.number ≡ length w.packets = omega (arith, many) in
    c.loop-number.invariant w k ∙ ap (λ (n : ℕ). take n w.packets) all ∙ take_self w.packets
