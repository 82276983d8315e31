use Rattle.std.proofs.Common.{rules, arith, take, drop, sym, subst}
use Rattle.std.proofs.lemmas.List.{take_rest}
use Rattle.std.proofs.Math.Seq.{take-add}
use Rattle.tg_io.specs.Bytes.{Takes}
use Rattle.tg_io.proofs.Bytes.{grows_more, takes_front}
use Rattle.tg_io.proofs.Faults.{sure_since}
use Rattle.tg_io.proofs.sink.write_all.Goals as goal

pub returns-in_err-taken-clause-front : goal.returns-in_err-taken-clause-front
returns-in_err-taken-clause-front g c =
    let before = g.K.Sink.written c.args.sink.now in
    let inv = c.loop-taken.invariant in
    let h = takes_front c.loop-taken.taken before _ c.args.piece.now
    (subst (λ o. Takes before (take c.loop-taken.taken c.args.piece.now) o) (sym c.in_err-taken.ensures.kept) inv.1) in
    search (rules, h)

pub loop-taken-preserved : goal.loop-taken-preserved
loop-taken-preserved g c =
    let n = c.in_ok-taken.field-0 in
    let at = c.loop-taken.taken in
    let piece = c.args.piece.now in
    let before = g.K.Sink.written c.args.sink.now in
    let inv = c.loop-taken.invariant in
    let taken : Takes (g.K.Sink.written c.loop-taken.sink) (take n (drop at piece)) (g.K.Sink.written c.write.new.self) =
    rw (take_rest piece at) at c.in_ok-taken.ensures.taken in
    let more = grows_more before _ (g.K.Sink.written c.write.new.self) (take at piece) (take n (drop at piece)) inv.1 taken in
    let all = subst (λ bytes. Takes before bytes (g.K.Sink.written c.write.new.self)) (sym (take-add at n piece)) more in
    (search (rules, arith), all, search (rules, arith), sure_since _ _ _ _ _ _ inv.3 c.in_ok-taken.ensures.sure)
