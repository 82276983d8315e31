use Rattle.std.proofs.Common.{◌≡◌, ◌∙◌, Some, None, IfOk, refl, sym, subst}
use Rattle.tg_protocol.specs.Worlds.{limit_of}
use Rattle.tg_any.specs.AllKinds.{all_kinds}
use Rattle.tg_live.specs.Lives.{LiveRan}
use Rattle.tg_live.specs.Kept.{KeepsRan}
use Rattle.tg_live.proofs.Keeping.{recorded_stops, recorded_goes}
use Rattle.tg_live.specs.Sends.{carried}
use Rattle.std.specs.Prelude.{OnErr}
use Rattle.tg_live.specs.Breaks.{GrowsFront}
use Rattle.tg_live.proofs.live.Live.recorded.Goals as goal

pub returns-in-Some-clause-recorded : goal.returns-in-Some-clause-recorded
returns-in-Some-clause-recorded g c = λ h first l k.
    let over : limit_of all_kinds l.world ≡ Some c.in-Some.which = sym (c.limit.ensures.limit l.world k.world) ∙ c.in-Some.is in
    subst (λ (r : LiveRan). KeepsRan h first (carried (g.L.Link.sent c.args.link.now) (g.L.Link.acts c.args.link.now)) (record { live = c.args.self; stopped = Some c.in-Some.which }) r)
    (sym (recorded_stops l c.args.line c.in-Some.which over)) (record { live = k; stopped = refl })

pub returns-in-None-clause-recorded : goal.returns-in-None-clause-recorded
returns-in-None-clause-recorded g c = λ h first l k.
    let on : limit_of all_kinds l.world ≡ None = sym (c.limit.ensures.limit l.world k.world) ∙ c.in-None.is in
    subst (λ (r : LiveRan). IfOk c.made.result (λ w. KeepsRan h first (carried (g.L.Link.sent c.made.new.link) (g.L.Link.acts c.made.new.link)) w r)) (sym (recorded_goes l c.args.line on)) (c.made.ensures.made h first l k)

pub returns-in-None-clause-broken : goal.returns-in-None-clause-broken
returns-in-None-clause-broken g c = λ h first l k.
    let on : limit_of all_kinds l.world ≡ None = sym (c.limit.ensures.limit l.world k.world) ∙ c.in-None.is in
    subst (λ (r : LiveRan). OnErr c.made.result (GrowsFront first.acts r.live.acts (g.L.Link.acts c.made.new.link))) (sym (recorded_goes l c.args.line on)) (c.made.ensures.broken h first l k)
