use Rattle.std.proofs.Common.{◌≡◌, ◌∙◌, None, length, refl, sym, subst, arith}
use Rattle.std.specs.Prelude.{IfOk}
use Rattle.tg_play.proofs.Splitting.{split_none}
use Rattle.tg_live.specs.Lives.{LiveRan}
use Rattle.tg_live.specs.Kept.{KeepsRan}
use Rattle.tg_live.proofs.Options.{some_of, none_of, split_nodes}
use Rattle.tg_live.proofs.Ticking.{ticked_none, ticked_over, ticked_stops, ticked_goes}
use Rattle.tg_live.specs.Sends.{carried}
use Rattle.std.specs.Prelude.{OnErr}
use Rattle.tg_live.specs.Breaks.{GrowsFront}
use Rattle.tg_live.proofs.Breaking.{on_err, ticked_in}
use Rattle.tg_live.proofs.live.Live.+tick_all.Goals as goal

pub returns-in-empty-clause-ticked : goal.returns-in-empty-clause-ticked
returns-in-empty-clause-ticked g t c = λ h first l k.
    let none : length c.args.nodes.now ≡ 0 = omega arith in
    subst (λ (r : LiveRan). KeepsRan h first (carried (g.L.Link.sent c.args.link.now) (g.L.Link.acts c.args.link.now)) (record { live = c.args.self; stopped = None }) r)
    (sym (ticked_none c.args.nodes.now l (split_none c.args.nodes.now none))) (record { live = k; stopped = refl })

pub returns-then-not-runs-clause-ticked : goal.returns-then-not-runs-clause-ticked
returns-then-not-runs-clause-ticked g t c = λ h first l k.
    subst (λ (r : LiveRan). IfOk c.tick_all.result (λ w. KeepsRan h first (carried (g.L.Link.sent c.tick_all.new.link) (g.L.Link.acts c.tick_all.new.link)) w r))
    (sym (ticked_over c.args.nodes.now _ _ l (split_nodes c.args.nodes.now _ c.in-len1-up.len_at_least) (sym (c.runs.ensures l.world k.world) ∙ c.if-not-runs.true)))
    (c.tick_all.ensures.ticked h first l k)

pub returns-then-is_some-clause-ticked : goal.returns-then-is_some-clause-ticked
returns-then-is_some-clause-ticked g t c = λ h first l k.
    let kr = c.in_ok-went-in-len1-up.ensures.recorded h first l k in
    let x = some_of c.in_ok-went-in-len1-up.went.stopped (sym c.is_some.ensures ∙ c.if-is_some.true) in
    subst (λ (r : LiveRan). KeepsRan h first (carried (g.L.Link.sent c.recorded.new.link) (g.L.Link.acts c.recorded.new.link)) c.in_ok-went-in-len1-up.went r)
    (sym (ticked_stops c.args.nodes.now _ _ l x.0 (split_nodes c.args.nodes.now _ c.in-len1-up.len_at_least) (sym (c.runs.ensures l.world k.world) ∙ c.if-not-runs.false) (sym kr.stopped ∙ x.1)))
    kr

pub returns-else-is_some-clause-ticked : goal.returns-else-is_some-clause-ticked
returns-else-is_some-clause-ticked g t c = λ h first l k.
    let kr = c.in_ok-went-in-len1-up.ensures.recorded h first l k in
    let on = none_of c.in_ok-went-in-len1-up.went.stopped (sym c.is_some.ensures ∙ c.if-is_some.false) in
    subst (λ (r : LiveRan). IfOk c.tick_all-in-len1-up.result (λ w. KeepsRan h first (carried (g.L.Link.sent c.tick_all-in-len1-up.new.link) (g.L.Link.acts c.tick_all-in-len1-up.new.link)) w r))
    (sym (ticked_goes c.args.nodes.now _ _ l (split_nodes c.args.nodes.now _ c.in-len1-up.len_at_least) (sym (c.runs.ensures l.world k.world) ∙ c.if-not-runs.false) (sym kr.stopped ∙ on)))
    (c.tick_all-in-len1-up.ensures.ticked h first _ kr.live)

pub returns-then-not-runs-clause-broken : goal.returns-then-not-runs-clause-broken
returns-then-not-runs-clause-broken g t c = λ h first l k.
    subst (λ (r : LiveRan). OnErr c.tick_all.result (GrowsFront first.acts r.live.acts (g.L.Link.acts c.tick_all.new.link)))
    (sym (ticked_over c.args.nodes.now _ _ l (split_nodes c.args.nodes.now _ c.in-len1-up.len_at_least) (sym (c.runs.ensures l.world k.world) ∙ c.if-not-runs.true)))
    (c.tick_all.ensures.broken h first l k)

pub returns-in_err-went-in-len1-up-clause-broken : goal.returns-in_err-went-in-len1-up-clause-broken
returns-in_err-went-in-len1-up-clause-broken g t c = λ h first l k.
    on_err c.from_residual.result (ticked_in first.acts (g.L.Link.acts c.recorded.new.link) c.args.nodes.now _ _ l (split_nodes c.args.nodes.now _ c.in-len1-up.len_at_least) (sym (c.runs.ensures l.world k.world) ∙ c.if-not-runs.false)
    (c.in_err-went-in-len1-up.ensures.broken h first l k))

pub returns-else-is_some-clause-broken : goal.returns-else-is_some-clause-broken
returns-else-is_some-clause-broken g t c = λ h first l k.
    let kr = c.in_ok-went-in-len1-up.ensures.recorded h first l k in
    let on = none_of c.in_ok-went-in-len1-up.went.stopped (sym c.is_some.ensures ∙ c.if-is_some.false) in
    subst (λ (r : LiveRan). OnErr c.tick_all-in-len1-up.result (GrowsFront first.acts r.live.acts (g.L.Link.acts c.tick_all-in-len1-up.new.link)))
    (sym (ticked_goes c.args.nodes.now _ _ l (split_nodes c.args.nodes.now _ c.in-len1-up.len_at_least) (sym (c.runs.ensures l.world k.world) ∙ c.if-not-runs.false) (sym kr.stopped ∙ on)))
    (c.tick_all-in-len1-up.ensures.broken h first _ kr.live)
