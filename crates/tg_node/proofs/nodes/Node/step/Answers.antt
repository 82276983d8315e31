use Rattle.std.proofs.Common.{◌∷◌, refl}
use Rattle.tg_node.specs.Acts.{step_acts}
use Rattle.tg_node.specs.Sessions.{Session}
use Rattle.tg_node.proofs.Stepping.{on_err, stands_next, sound_next, room_for, does_step, breaks_none, breaks_step}
use Rattle.tg_node.proofs.nodes.Node.step.Goals as goal

pub step-requires : goal.step-requires
step-requires g c = room_for c.args.self c.requires.sound c.requires.room

pub returns-clause-goes : goal.returns-clause-goes
returns-clause-goes g c = λ from written s st.
    stands_next c.args.place c.args.input c.args.self from (g.L.Link.sent c.args.link.now) (g.L.Link.sent c.send_all.new.link) written s c.in_ok-own.field-0 c.write_replies.new.out st (c.in_ok-own.ensures c.args.self.steps s.node st.node)
    c.in_ok-send_all.ensures.sent c.in_ok-write_replies.ensures

pub returns-clause-sound : goal.returns-clause-sound
returns-clause-sound g c = sound_next c.args.input c.args.self c.in_ok-own.field-0 c.write_replies.new.out c.requires.sound c.requires.room (λ n h. c.in_ok-own.ensures c.args.self.steps n h)

pub returns-clause-does : goal.returns-clause-does
returns-clause-does g c =
    does_step c.args.place c.args.input c.args.self c.in_ok-own.field-0 (g.L.Link.sent c.args.link.now) (g.L.Link.acts c.args.link.now) (g.L.Link.acts c.send_all.new.link) (λ n h. c.in_ok-own.ensures c.args.self.steps n h)
    c.in_ok-send_all.ensures.gone.acts

pub returns-in_err-own-clause-breaks : goal.returns-in_err-own-clause-breaks
returns-in_err-own-clause-breaks g c =
    on_err c.from_residual.result (breaks_none c.args.self (g.L.Link.sent c.args.link.now) (step_acts c.args.place.node c.args.input) (g.L.Link.acts c.args.link.now) (g.L.Link.acts c.args.link.now) refl)

pub returns-in_err-write_replies-clause-breaks : goal.returns-in_err-write_replies-clause-breaks
returns-in_err-write_replies-clause-breaks g c =
    on_err c.from_residual-in_err-write_replies.result (breaks_none c.args.self (g.L.Link.sent c.args.link.now) (step_acts c.args.place.node c.args.input) (g.L.Link.acts c.args.link.now) (g.L.Link.acts c.args.link.now) refl)

pub returns-in_err-send_all-clause-breaks : goal.returns-in_err-send_all-clause-breaks
returns-in_err-send_all-clause-breaks g c =
    let cut = c.in_err-send_all.ensures.cut_off in
    on_err c.from_residual-in_err-send_all.result (breaks_step c.args.place c.args.input c.args.self c.in_ok-own.field-0 (g.L.Link.sent c.args.link.now) (g.L.Link.acts c.args.link.now) (g.L.Link.acts c.send_all.new.link) cut.done (cut.failed ∷ cut.rest)
    (λ n h. c.in_ok-own.ensures c.args.self.steps n h) cut.split cut.gone.acts)
