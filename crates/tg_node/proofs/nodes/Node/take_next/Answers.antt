use Rattle.std.proofs.Common.{◌≡◌, ◌+◌, ◌<◌, ◌∙◌, [], ◌∷◌, refl, ap, sym, subst, arith}
use Rattle.tg_link_packets.specs.declared.receiving.Came.TheVariants as came
use Rattle.tg_node.specs.Sessions.{datagrams_in}
use Rattle.tg_node.specs.Steps.{IsSound}
use Rattle.tg_node.specs.declared.nodes.Node.{Node}
use Rattle.tg_node.proofs.Stepping.{on_err, came_passed, came_taken, taken_breaks, breaks_heard, none_came, stranger_came, counted_sound}
use Rattle.tg_node.proofs.nodes.Node.take_next.Goals as goal

pub make-requires : goal.make-requires
make-requires g c = subst IsSound (sym c.counted-in-Taken.ensures) (counted_sound c.args.self c.requires.sound c.requires.few)

pub returns-in-Nothing-clause-took : goal.returns-in-Nothing-clause-took
returns-in-Nothing-clause-took g c =
    let p = c.args.place in
    let k = c.args.self in
    let x = c.in_ok-receive.ensures.act in
    came_passed p k k c.on.result came.Nothing (g.L.Link.handed c.args.link.now) (g.L.Link.handed c.receive.new.link) (g.L.Link.sent c.args.link.now) (g.L.Link.sent c.receive.new.link) (g.L.Link.acts c.args.link.now) (g.L.Link.acts c.receive.new.link) c.requires.sound c.requires.few refl
    (λ a e. let zero : datagrams_in (a ∷ []) ≡ 0 = none_came p.node a e in omega (arith, zero)) c.requires.sound.received refl refl refl c.on.ensures (x.0, x.1, x.2, sym c.in-Nothing.is ∙ x.3) c.in_ok-receive.ensures.sent

pub returns-in-Stranger-clause-took : goal.returns-in-Stranger-clause-took
returns-in-Stranger-clause-took g c =
    let p = c.args.place in
    let k = c.args.self in
    let l = c.counted.result in
    let x = c.in_ok-receive.ensures.act in
    let more : l.received ≡ k.received + 1 = ap (λ (n : Node). n.received) c.counted.ensures in
    let few : k.received < 1000000 = c.requires.few in
    came_passed p k l c.on-in-Stranger.result came.Stranger (g.L.Link.handed c.args.link.now) (g.L.Link.handed c.receive.new.link) (g.L.Link.sent c.args.link.now) (g.L.Link.sent c.receive.new.link) (g.L.Link.acts c.args.link.now) (g.L.Link.acts c.receive.new.link) c.requires.sound c.requires.few refl
    (λ a e. let one : datagrams_in (a ∷ []) ≡ 1 = stranger_came p.node a e in omega (arith, one, more)) (omega (arith, more, few)) (ap (λ (n : Node). n.own) c.counted.ensures) (ap (λ (n : Node). n.steps) c.counted.ensures)
    (ap (λ (n : Node). n.replies) c.counted.ensures) c.on-in-Stranger.ensures (x.0, x.1, x.2, sym c.in-Stranger.is ∙ x.3) c.in_ok-receive.ensures.sent

pub returns-in-Taken-clause-took : goal.returns-in-Taken-clause-took
returns-in-Taken-clause-took g c =
    let p = c.args.place in
    let k = c.args.self in
    came_taken p k c.counted-in-Taken.result c.in_ok-receive.field-0 c.in-Taken.packet c.make.result (g.L.Link.handed c.args.link.now) (g.L.Link.handed c.receive.new.link) (g.L.Link.handed c.make.new.link) (g.L.Link.sent c.args.link.now)
    (g.L.Link.sent c.receive.new.link) (g.L.Link.sent c.make.new.link) (g.L.Link.acts c.args.link.now) (g.L.Link.acts c.receive.new.link) (g.L.Link.acts c.make.new.link) c.in-Taken.is c.counted-in-Taken.ensures c.in_ok-receive.ensures.act c.in_ok-receive.ensures.sent c.make.ensures.handed c.make.ensures.makes c.make.ensures.received c.make.ensures.does

pub returns-in_err-receive-clause-breaks : goal.returns-in_err-receive-clause-breaks
returns-in_err-receive-clause-breaks g c =
    on_err c.from_residual.result (breaks_heard c.args.place c.args.self (g.L.Link.sent c.args.link.now) (g.L.Link.acts c.args.link.now) (g.L.Link.acts c.receive.new.link) c.in_err-receive.ensures.one)

pub returns-in-Taken-clause-breaks : goal.returns-in-Taken-clause-breaks
returns-in-Taken-clause-breaks g c =
    taken_breaks c.args.place c.args.self c.counted-in-Taken.result c.in_ok-receive.field-0 c.in-Taken.packet c.make.result (g.L.Link.handed c.args.link.now) (g.L.Link.handed c.receive.new.link) (g.L.Link.sent c.args.link.now)
    (g.L.Link.sent c.receive.new.link) (g.L.Link.acts c.args.link.now) (g.L.Link.acts c.receive.new.link) (g.L.Link.acts c.make.new.link) c.in-Taken.is c.counted-in-Taken.ensures c.in_ok-receive.ensures.act c.in_ok-receive.ensures.sent c.make.ensures.breaks
