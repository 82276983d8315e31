use Rattle.std.proofs.Common.{◌≡◌, ◌<◌, ◌≤◌, ◌∙◌, ℕ, List, length, take, Some, refl, sym, ap, subst, arith}
use Rattle.std.proofs.lemmas.List.{length-take-le}
use Rattle.std.proofs.lemmas.Option.{slice_get_read, slice_get_within}
use Rattle.std.specs.Prelude.{slice_get}
use Rattle.tg_base.specs.declared.packet.Packet.{Packet}
use Rattle.tg_io.proofs.Faults.{sure_since}
use Rattle.tg_live.specs.Sends.{carried, AreSent}
use Rattle.tg_live.proofs.Packets.{sent_none, sent_next}
use Rattle.tg_live.proofs.Breaking.{on_err, front_sent}
use Rattle.tg_live.proofs.live.send_from.Goals as goal

pub loop-number-init : goal.loop-number-init
loop-number-init g c = record {
  sent = λ w k le fit. sent_none w.packets c.args.from c.args.book.now (carried (g.L.Link.sent c.args.link.now) (g.L.Link.acts c.args.link.now)) fit;
  handed = refl;
  still = refl;
  later = omega arith;
  sure = record { sure = λ x. x; still = λ x. refl };
}

pub loop-number-preserved : goal.loop-number-preserved
loop-number-preserved g c =
    let i = c.loop-number.invariant in
    let low : c.args.from ≤ c.loop-number.number = omega arith in
    let later : g.L.Link.faults c.args.link.now ≤ g.L.Link.faults c.loop-number.link = i.later in
    let rose : g.L.Link.faults c.loop-number.link ≤ g.L.Link.faults c.send.new.link = c.in_ok-send.ensures.cause.later in
    record {
      sent = λ w k le fit.
          let s = i.sent w k le fit in
          let here = slice_get_read c.packets-packets.result.now (length c.packets-packets.result.now) c.loop-number.number c.index-packets-number.result refl c.loop-number-test.true c.index-packets-number.is in
          let at : slice_get w.packets c.loop-number.number ≡ Some c.index-packets-number.result =
          subst (λ (ps : List Packet). slice_get ps c.loop-number.number ≡ Some c.index-packets-number.result) (c.packets-packets.ensures w k) here in
          let within : c.loop-number.number < length w.packets = slice_get_within w.packets c.loop-number.number c.index-packets-number.result at in
          let many : length (take c.loop-number.number w.packets) ≡ c.loop-number.number = length-take-le c.loop-number.number w.packets (omega (arith, within)) in
          sent_next w.packets c.args.from c.loop-number.number c.index-packets-number.result c.args.book.now c.loop-number.book c.send.new.book
          (carried (g.L.Link.sent c.args.link.now) (g.L.Link.acts c.args.link.now)) (carried (g.L.Link.sent c.loop-number.link) (g.L.Link.acts c.loop-number.link)) (carried (g.L.Link.sent c.send.new.link) (g.L.Link.acts c.send.new.link)) low at s c.in_ok-send.ensures.fits
          (λ delivered h. c.in_ok-send.ensures.noted (take c.loop-number.number w.packets) delivered s.fit (sym many) h) c.in_ok-send.ensures.sent c.in_ok-send.ensures.act;
      handed = c.in_ok-send.ensures.handed ∙ i.handed;
      still = c.in_ok-send.ensures.still ∙ i.still;
      later = omega arith;
      sure = sure_since _ _ _ _ _ _ i.sure c.in_ok-send.ensures.sure;
    }

pub returns-clause-sent : goal.returns-clause-sent
returns-clause-sent g c = λ w k le fit.
    let s = c.loop-number.invariant.sent w k le fit in
    let many : length c.packets-packets.result.now ≡ length w.packets = ap length (c.packets-packets.ensures w k) in
    let all : c.loop-number.number ≡ length w.packets = omega (arith, many, le) in
    subst (λ (n : ℕ). AreSent w.packets c.args.from n c.args.book.now c.loop-number.book (carried (g.L.Link.sent c.args.link.now) (g.L.Link.acts c.args.link.now)) (carried (g.L.Link.sent c.loop-number.link) (g.L.Link.acts c.loop-number.link))) all s

pub returns-in_err-send-clause-broken : goal.returns-in_err-send-clause-broken
returns-in_err-send-clause-broken g c = λ w k le fit.
    let many : length c.packets-packets.result.now ≡ length w.packets = ap length (c.packets-packets.ensures w k) in
    let low : c.args.from ≤ c.loop-number.number = omega arith in
    let few : c.loop-number.number ≤ length w.packets = omega (arith, many) in
    on_err c.from_residual.result (front_sent w.packets c.args.from c.loop-number.number (g.L.Link.acts c.args.link.now) (g.L.Link.acts c.loop-number.link) (g.L.Link.acts c.send.new.link) low few (c.loop-number.invariant.sent w k le fit).acts c.in_err-send.ensures.no_act)
