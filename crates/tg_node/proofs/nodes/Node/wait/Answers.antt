use Rattle.std.proofs.Common.{rules, ℕ, ◌≡◌, ◌+◌, ◌<◌, ◌≤◌, ◌∙◌, refl, sym, subst, arith}
use Rattle.tg_io.proofs.Faults.{sure_since}
use Rattle.tg_node.specs.declared.asked.Asked.TheVariants.{Wait}
use Rattle.tg_node.specs.Steps.{TookLine, Waits}
use Rattle.tg_node.specs.declared.nodes.Moved.{Moved}
use Rattle.tg_node.proofs.Stepping.{on_err, waits_none, waits_more, waits_stop, waits_full, waits_end, waits_breaks, takes_on}
use Rattle.tg_node.proofs.nodes.Node.wait.Goals as goal

pub loop-call-init : goal.loop-call-init
loop-call-init g c = record {
  waits = waits_none c.args.place c.args.self (g.L.Link.handed c.args.link.now) (g.L.Link.sent c.args.link.now) (g.L.Link.acts c.args.link.now) c.requires;
  still = refl;
  sure = record { sure = λ e. e; still = λ e. refl };
}

pub take_next-requires-clause-sound : goal.take_next-requires-clause-sound
take_next-requires-clause-sound g c = c.loop-call.invariant.waits.makes.sound

pub loop-call-preserved : goal.loop-call-preserved
loop-call-preserved g c =
    let i = c.loop-call.invariant in
    let came = c.in_ok-moved.ensures.took in
    record {
      waits = waits_more c.args.place c.loop-call._call came.0 c.args.self c.loop-call.node c.in_ok-moved.moved.node _ _ _ _ _ _ (g.L.Link.acts c.args.link.now) (g.L.Link.acts c.loop-call.link) (g.L.Link.acts c.take_next.new.link) i.waits came.1
          (takes_on c.args.place came.0 c.loop-call.node c.in_ok-moved.moved _ _ c.is_some.result came.2 c.is_some.ensures c.if-is_some.false) came.3;
      still = c.in_ok-moved.ensures.still ∙ i.still;
      sure = sure_since _ _ _ _ _ _ i.sure c.in_ok-moved.ensures.sure;
    }

pub returns-then-node-ge-MOST_DATAGRAMS-clause-took : goal.returns-then-node-ge-MOST_DATAGRAMS-clause-took
returns-then-node-ge-MOST_DATAGRAMS-clause-took g c =
    let w = c.loop-call.invariant.waits in
    subst (λ (m : Moved). TookLine c.args.place (Wait c.args.calls) (g.L.Link.handed c.args.link.now) c.args.self (g.L.Link.sent c.args.link.now) m (g.L.Link.handed c.loop-call.link) (g.L.Link.sent c.loop-call.link) (g.L.Link.acts c.args.link.now) (g.L.Link.acts c.loop-call.link)) (sym c.at.ensures)
    (waits_full c.args.place c.loop-call._call c.args.calls c.args.self c.loop-call.node _ _ _ _ _ _ w (search rules) (search rules))

pub returns-then-is_some-clause-took : goal.returns-then-is_some-clause-took
returns-then-is_some-clause-took g c =
    let came = c.in_ok-moved.ensures.took in
    waits_stop c.args.place c.loop-call._call c.args.calls came.0 c.args.self c.loop-call.node c.in_ok-moved.moved _ _ _ _ _ _ (g.L.Link.acts c.args.link.now) (g.L.Link.acts c.loop-call.link) (g.L.Link.acts c.take_next.new.link) c.loop-call.invariant.waits (search rules) came.1 came.2 came.3 (sym c.is_some.ensures ∙ c.if-is_some.true)

pub returns-clause-took : goal.returns-clause-took
returns-clause-took g c =
    let handed = g.L.Link.handed c.args.link.now in
    let sent = g.L.Link.sent c.args.link.now in
    let all : c.loop-call._call ≡ c.args.calls = omega (arith, c.loop-call-test.false, c.loop-call.auto._call-end) in
    subst (λ (m : Moved). TookLine c.args.place (Wait c.args.calls) handed c.args.self sent m (g.L.Link.handed c.loop-call.link) (g.L.Link.sent c.loop-call.link) (g.L.Link.acts c.args.link.now) (g.L.Link.acts c.loop-call.link)) (sym c.on.ensures)
    (waits_end c.args.place c.args.calls c.args.self c.loop-call.node handed (g.L.Link.handed c.loop-call.link) sent (g.L.Link.sent c.loop-call.link) (g.L.Link.acts c.args.link.now) (g.L.Link.acts c.loop-call.link)
    (subst (λ (n : ℕ). Waits c.args.place n handed c.args.self sent c.loop-call.node (g.L.Link.handed c.loop-call.link) (g.L.Link.sent c.loop-call.link) (g.L.Link.acts c.args.link.now) (g.L.Link.acts c.loop-call.link)) all c.loop-call.invariant.waits))

pub returns-in_err-moved-clause-breaks : goal.returns-in_err-moved-clause-breaks
returns-in_err-moved-clause-breaks g c =
    on_err c.from_residual.result (waits_breaks c.args.place c.loop-call._call c.args.calls c.args.self c.loop-call.node (g.L.Link.handed c.args.link.now) (g.L.Link.handed c.loop-call.link) (g.L.Link.sent c.args.link.now) (g.L.Link.sent c.loop-call.link)
    (g.L.Link.acts c.args.link.now) (g.L.Link.acts c.loop-call.link) (g.L.Link.acts c.take_next.new.link) c.loop-call.invariant.waits (search rules) c.in_err-moved.ensures.breaks)
