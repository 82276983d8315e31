use Rattle.std.proofs.Common.{◌≡◌, ◌∙◌, ◌-◌, ◌<◌, suc, None, List, length, refl, sym, subst, arith, []}
use Rattle.std.proofs.lemmas.Result.{IfOk-weaker, on_err_weaker}
use Rattle.tg_base.specs.declared.ids.NodeId.{NodeId}
use Rattle.tg_protocol.specs.Worlds.{nodes}
use Rattle.tg_any.specs.AllKinds.{all_kinds}
use Rattle.tg_live.specs.Lives.{ticked}
use Rattle.tg_live.specs.Kept.{KeepsRan}
use Rattle.tg_live.proofs.Options.{some_of, none_of, as_many, not_as_many}
use Rattle.tg_live.proofs.Parts.{made_alone}
use Rattle.tg_live.proofs.Ticking.{round_none, round_stops, round_last, round_full, round_goes}
use Rattle.tg_live.specs.Sends.{carried}
use Rattle.tg_live.specs.Breaks.{GrowsFront}
use Rattle.tg_live.proofs.Breaking.{on_err, rounds_broken, ticking_broken, draining_broken, later_broken}
use Rattle.tg_live.proofs.live.Live.+rounds.Goals as goal

pub returns-then-left-eq0-clause-settled : goal.returns-then-left-eq0-clause-settled
returns-then-left-eq0-clause-settled g t c = λ h f l k.
    round_none h f 0 l c.args.left (carried (g.L.Link.sent c.args.link.now) (g.L.Link.acts c.args.link.now)) (g.L.Link.handed c.args.link.now) (record { live = c.args.self; stopped = None }) c.if-left-eq0.true (record { live = k; stopped = refl })

pub returns-then-is_some-clause-settled : goal.returns-then-is_some-clause-settled
returns-then-is_some-clause-settled g t c = λ h f l k.
    let some : 0 < c.args.left = omega arith in
    let left : c.args.left ≡ suc (c.args.left - 1) = omega (arith, some) in
    let is : c.as_slice.result.now ≡ nodes all_kinds l.world = c.as_slice.ensures.value ∙ c.in_ok-nodes.ensures l.world k.world in
    let kr = subst (λ (ns : List NodeId). KeepsRan h f (carried (g.L.Link.sent c.tick_all.new.link) (g.L.Link.acts c.tick_all.new.link)) c.in_ok-went.went (ticked ns l)) is (c.in_ok-went.ensures.ticked h f l k) in
    let m = made_alone h f (ticked (nodes all_kinds l.world)) (carried (g.L.Link.sent c.tick_all.new.link) (g.L.Link.acts c.tick_all.new.link)) (g.L.Link.handed c.args.link.now) (g.L.Link.handed c.tick_all.new.link) l c.in_ok-went.went c.in_ok-went.ensures.handed kr in
    let x = some_of c.in_ok-went.went.stopped (sym c.is_some.ensures ∙ c.if-is_some.true) in
    round_stops h f (c.args.left - 1) l c.args.left (carried (g.L.Link.sent c.tick_all.new.link) (g.L.Link.acts c.tick_all.new.link)) (g.L.Link.handed c.args.link.now) (g.L.Link.handed c.tick_all.new.link) c.in_ok-went.went x.0 left x.1 m

pub returns-then-idle-clause-settled : goal.returns-then-idle-clause-settled
returns-then-idle-clause-settled g t c = λ h f l k.
    let some : 0 < c.args.left = omega arith in
    let left : c.args.left ≡ suc (c.args.left - 1) = omega (arith, some) in
    let is : c.as_slice.result.now ≡ nodes all_kinds l.world = c.as_slice.ensures.value ∙ c.in_ok-nodes.ensures l.world k.world in
    let kr = subst (λ (ns : List NodeId). KeepsRan h f (carried (g.L.Link.sent c.tick_all.new.link) (g.L.Link.acts c.tick_all.new.link)) c.in_ok-went.went (ticked ns l)) is (c.in_ok-went.ensures.ticked h f l k) in
    let m = made_alone h f (ticked (nodes all_kinds l.world)) (carried (g.L.Link.sent c.tick_all.new.link) (g.L.Link.acts c.tick_all.new.link)) (g.L.Link.handed c.args.link.now) (g.L.Link.handed c.tick_all.new.link) l c.in_ok-went.went c.in_ok-went.ensures.handed kr in
    let on : c.in_ok-went.went.stopped ≡ None = none_of c.in_ok-went.went.stopped (sym c.is_some.ensures ∙ c.if-is_some.false) in
    let after : c.sent.result ≡ length m.end.live.world.packets = c.sent.ensures m.end.live.world m.kept.live.world in
    let before : c.sent-sent.result ≡ length l.world.packets = c.sent-sent.ensures l.world k.world in
    round_last h f (c.args.left - 1) l c.args.left (carried (g.L.Link.sent c.tick_all.new.link) (g.L.Link.acts c.tick_all.new.link)) (carried (g.L.Link.sent c.drain.new.link) (g.L.Link.acts c.drain.new.link)) (g.L.Link.handed c.args.link.now) (g.L.Link.handed c.tick_all.new.link) (g.L.Link.handed c.drain.new.link)
    c.in_ok-went.went c.in_ok-went-2.went left on m (as_many c.sent.result c.sent-sent.result (length m.end.live.world.packets) (length l.world.packets) after before c.if-idle.true)
    (c.in_ok-went-2.ensures.drained h f m.end.live m.kept.live)

pub returns-then-is_some-2-clause-settled : goal.returns-then-is_some-2-clause-settled
returns-then-is_some-2-clause-settled g t c = λ h f l k.
    let some : 0 < c.args.left = omega arith in
    let left : c.args.left ≡ suc (c.args.left - 1) = omega (arith, some) in
    let is : c.as_slice.result.now ≡ nodes all_kinds l.world = c.as_slice.ensures.value ∙ c.in_ok-nodes.ensures l.world k.world in
    let kr = subst (λ (ns : List NodeId). KeepsRan h f (carried (g.L.Link.sent c.tick_all.new.link) (g.L.Link.acts c.tick_all.new.link)) c.in_ok-went.went (ticked ns l)) is (c.in_ok-went.ensures.ticked h f l k) in
    let m = made_alone h f (ticked (nodes all_kinds l.world)) (carried (g.L.Link.sent c.tick_all.new.link) (g.L.Link.acts c.tick_all.new.link)) (g.L.Link.handed c.args.link.now) (g.L.Link.handed c.tick_all.new.link) l c.in_ok-went.went c.in_ok-went.ensures.handed kr in
    let on : c.in_ok-went.went.stopped ≡ None = none_of c.in_ok-went.went.stopped (sym c.is_some.ensures ∙ c.if-is_some.false) in
    let after : c.sent.result ≡ length m.end.live.world.packets = c.sent.ensures m.end.live.world m.kept.live.world in
    let before : c.sent-sent.result ≡ length l.world.packets = c.sent-sent.ensures l.world k.world in
    let x = some_of c.in_ok-went-2.went.stopped (sym c.is_some-2.ensures ∙ c.if-is_some-2.true) in
    round_full h f (c.args.left - 1) l c.args.left (carried (g.L.Link.sent c.tick_all.new.link) (g.L.Link.acts c.tick_all.new.link)) (carried (g.L.Link.sent c.drain.new.link) (g.L.Link.acts c.drain.new.link)) (g.L.Link.handed c.args.link.now) (g.L.Link.handed c.tick_all.new.link) (g.L.Link.handed c.drain.new.link)
    c.in_ok-went.went c.in_ok-went-2.went x.0 left on m (not_as_many c.sent.result c.sent-sent.result (length m.end.live.world.packets) (length l.world.packets) after before c.if-idle.false)
    (c.in_ok-went-2.ensures.drained h f m.end.live m.kept.live) x.1

pub returns-clause-settled : goal.returns-clause-settled
returns-clause-settled g t c = λ h f l k.
    let some : 0 < c.args.left = omega arith in
    let left : c.args.left ≡ suc (c.args.left - 1) = omega (arith, some) in
    let is : c.as_slice.result.now ≡ nodes all_kinds l.world = c.as_slice.ensures.value ∙ c.in_ok-nodes.ensures l.world k.world in
    let kr = subst (λ (ns : List NodeId). KeepsRan h f (carried (g.L.Link.sent c.tick_all.new.link) (g.L.Link.acts c.tick_all.new.link)) c.in_ok-went.went (ticked ns l)) is (c.in_ok-went.ensures.ticked h f l k) in
    let m = made_alone h f (ticked (nodes all_kinds l.world)) (carried (g.L.Link.sent c.tick_all.new.link) (g.L.Link.acts c.tick_all.new.link)) (g.L.Link.handed c.args.link.now) (g.L.Link.handed c.tick_all.new.link) l c.in_ok-went.went c.in_ok-went.ensures.handed kr in
    let on : c.in_ok-went.went.stopped ≡ None = none_of c.in_ok-went.went.stopped (sym c.is_some.ensures ∙ c.if-is_some.false) in
    let after : c.sent.result ≡ length m.end.live.world.packets = c.sent.ensures m.end.live.world m.kept.live.world in
    let before : c.sent-sent.result ≡ length l.world.packets = c.sent-sent.ensures l.world k.world in
    let d = c.in_ok-went-2.ensures.drained h f m.end.live m.kept.live in
    let still : c.in_ok-went-2.went.stopped ≡ None = none_of c.in_ok-went-2.went.stopped (sym c.is_some-2.ensures ∙ c.if-is_some-2.false) in
    IfOk-weaker c.rounds.result _ _
    (λ u r. round_goes h f (c.args.left - 1) l c.args.left (carried (g.L.Link.sent c.tick_all.new.link) (g.L.Link.acts c.tick_all.new.link)) (carried (g.L.Link.sent c.drain.new.link) (g.L.Link.acts c.drain.new.link)) (carried (g.L.Link.sent c.rounds.new.link) (g.L.Link.acts c.rounds.new.link))
    (g.L.Link.handed c.args.link.now) (g.L.Link.handed c.tick_all.new.link) (g.L.Link.handed c.drain.new.link) (g.L.Link.handed c.rounds.new.link)
    c.in_ok-went.went c.in_ok-went-2.went u left on m (not_as_many c.sent.result c.sent-sent.result (length m.end.live.world.packets) (length l.world.packets) after before c.if-idle.false) d still r)
    (c.rounds.ensures.settled h f d.end.live d.kept.live)

pub returns-in_err-nodes-clause-broken : goal.returns-in_err-nodes-clause-broken
returns-in_err-nodes-clause-broken g t c = λ h f l k. on_err c.from_residual.result (rounds_broken c.args.left f.acts (g.L.Link.acts c.args.link.now) l k.acts)

pub returns-in_err-went-clause-broken : goal.returns-in_err-went-clause-broken
returns-in_err-went-clause-broken g t c = λ h f l k.
    let some : 0 < c.args.left = omega arith in
    let left : c.args.left ≡ suc (c.args.left - 1) = omega (arith, some) in
    let is : c.as_slice.result.now ≡ nodes all_kinds l.world = c.as_slice.ensures.value ∙ c.in_ok-nodes.ensures l.world k.world in
    on_err c.from_residual-in_err-went.result (ticking_broken c.args.left (c.args.left - 1) left f.acts (g.L.Link.acts c.tick_all.new.link) l
    (subst (λ (ns : List NodeId). GrowsFront f.acts (ticked ns l).live.acts (g.L.Link.acts c.tick_all.new.link)) is (c.in_err-went.ensures.broken h f l k)))

pub returns-in_err-went-2-clause-broken : goal.returns-in_err-went-2-clause-broken
returns-in_err-went-2-clause-broken g t c = λ h f l k.
    let some : 0 < c.args.left = omega arith in
    let left : c.args.left ≡ suc (c.args.left - 1) = omega (arith, some) in
    let is : c.as_slice.result.now ≡ nodes all_kinds l.world = c.as_slice.ensures.value ∙ c.in_ok-nodes.ensures l.world k.world in
    let kr = subst (λ (ns : List NodeId). KeepsRan h f (carried (g.L.Link.sent c.tick_all.new.link) (g.L.Link.acts c.tick_all.new.link)) c.in_ok-went.went (ticked ns l)) is (c.in_ok-went.ensures.ticked h f l k) in
    let on : c.in_ok-went.went.stopped ≡ None = none_of c.in_ok-went.went.stopped (sym c.is_some.ensures ∙ c.if-is_some.false) in
    on_err c.from_residual-in_err-went-2.result (draining_broken c.args.left (c.args.left - 1) left f.acts (g.L.Link.acts c.drain.new.link) l [] (ticked (nodes all_kinds l.world) l) (refl, refl) (sym kr.stopped ∙ on)
    (c.in_err-went-2.ensures.broken h f (ticked (nodes all_kinds l.world) l).live kr.live))

pub returns-clause-broken : goal.returns-clause-broken
returns-clause-broken g t c = λ h f l k.
    let some : 0 < c.args.left = omega arith in
    let left : c.args.left ≡ suc (c.args.left - 1) = omega (arith, some) in
    let is : c.as_slice.result.now ≡ nodes all_kinds l.world = c.as_slice.ensures.value ∙ c.in_ok-nodes.ensures l.world k.world in
    let kr = subst (λ (ns : List NodeId). KeepsRan h f (carried (g.L.Link.sent c.tick_all.new.link) (g.L.Link.acts c.tick_all.new.link)) c.in_ok-went.went (ticked ns l)) is (c.in_ok-went.ensures.ticked h f l k) in
    let on : c.in_ok-went.went.stopped ≡ None = none_of c.in_ok-went.went.stopped (sym c.is_some.ensures ∙ c.if-is_some.false) in
    let ticks = ticked (nodes all_kinds l.world) l in
    let after : c.sent.result ≡ length ticks.live.world.packets = c.sent.ensures ticks.live.world kr.live.world in
    let before : c.sent-sent.result ≡ length l.world.packets = c.sent-sent.ensures l.world k.world in
    let d = c.in_ok-went-2.ensures.drained h f ticks.live kr.live in
    let still : c.in_ok-went-2.went.stopped ≡ None = none_of c.in_ok-went-2.went.stopped (sym c.is_some-2.ensures ∙ c.if-is_some-2.false) in
    on_err_weaker c.rounds.result (λ b. later_broken c.args.left (c.args.left - 1) left f.acts (g.L.Link.acts c.rounds.new.link) l [] d.answers ticks d.end (refl, refl) (sym kr.stopped ∙ on)
    (not_as_many c.sent.result c.sent-sent.result (length ticks.live.world.packets) (length l.world.packets) after before c.if-idle.false) d.is (sym d.kept.stopped ∙ still) b)
    (c.rounds.ensures.broken h f d.end.live d.kept.live)
