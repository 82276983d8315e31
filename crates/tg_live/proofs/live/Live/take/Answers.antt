use Rattle.std.proofs.Common.{◌∙◌, ℕ, ◌∷◌, None, Option, IfOk, refl, sym, ap, subst}
use Rattle.tg_live.specs.Books.{IsBook}
use Rattle.tg_live.specs.Matching.{with_delivered}
use Rattle.tg_live.specs.Sends.{carried, spellings}
use Rattle.tg_live.specs.Lives.{LiveRan, came_by}
use Rattle.tg_live.specs.Kept.{KeepsRan}
use Rattle.tg_live.proofs.Keeping.{delivered_keeps, passed_keeps}
use Rattle.std.specs.Prelude.{OnErr}
use Rattle.tg_live.specs.Breaks.{GrowsFront}
use Rattle.tg_live.proofs.live.Live.take.Goals as goal

pub returns-in-Some-clause-came : goal.returns-in-Some-clause-came
returns-in-Some-clause-came g c = λ h first l k.
    let found = sym (c.arrived.ensures.number (spellings l.world.packets) l.delivered k.book) ∙ c.in-Some.is in
    let book = subst (λ (o : Option ℕ). IsBook c.arrived.new.self (spellings l.world.packets) (with_delivered o l.delivered)) c.in-Some.is (c.arrived.ensures.book (spellings l.world.packets) l.delivered k.book) in
    let keeps = delivered_keeps h first (carried (g.L.Link.sent c.args.link.now) (g.L.Link.acts c.args.link.now)) c.args.self (record c.args.self { book = c.arrived.new.self }) l c.in-Some.packet k refl refl refl refl book in
    subst (λ (r : LiveRan). IfOk c.recorded.result (λ w. KeepsRan h first (carried (g.L.Link.sent c.recorded.new.link) (g.L.Link.acts c.recorded.new.link)) w r)) (sym (ap (λ (o : Option ℕ). came_by o l) found))
    (c.recorded.ensures.recorded h first (record l { delivered = c.in-Some.packet ∷ l.delivered }) keeps)

pub returns-in-None-clause-came : goal.returns-in-None-clause-came
returns-in-None-clause-came g c = λ h first l k.
    let found = sym (c.arrived.ensures.number (spellings l.world.packets) l.delivered k.book) ∙ c.in-None.is in
    let book = subst (λ (o : Option ℕ). IsBook c.arrived.new.self (spellings l.world.packets) (with_delivered o l.delivered)) c.in-None.is (c.arrived.ensures.book (spellings l.world.packets) l.delivered k.book) in
    subst (λ (r : LiveRan). KeepsRan h first (carried (g.L.Link.sent c.args.link.now) (g.L.Link.acts c.args.link.now)) (record { live = record c.args.self { book = c.arrived.new.self }; stopped = None }) r)
    (sym (ap (λ (o : Option ℕ). came_by o l) found))
    (record { live = passed_keeps h first (carried (g.L.Link.sent c.args.link.now) (g.L.Link.acts c.args.link.now)) c.args.self (record c.args.self { book = c.arrived.new.self }) l k refl refl refl refl book; stopped = refl })

pub returns-in-Some-clause-broken : goal.returns-in-Some-clause-broken
returns-in-Some-clause-broken g c = λ h first l k.
    let found = sym (c.arrived.ensures.number (spellings l.world.packets) l.delivered k.book) ∙ c.in-Some.is in
    let book = subst (λ (o : Option ℕ). IsBook c.arrived.new.self (spellings l.world.packets) (with_delivered o l.delivered)) c.in-Some.is (c.arrived.ensures.book (spellings l.world.packets) l.delivered k.book) in
    let keeps = delivered_keeps h first (carried (g.L.Link.sent c.args.link.now) (g.L.Link.acts c.args.link.now)) c.args.self (record c.args.self { book = c.arrived.new.self }) l c.in-Some.packet k refl refl refl refl book in
    subst (λ (r : LiveRan). OnErr c.recorded.result (GrowsFront first.acts r.live.acts (g.L.Link.acts c.recorded.new.link))) (sym (ap (λ (o : Option ℕ). came_by o l) found))
    (c.recorded.ensures.broken h first (record l { delivered = c.in-Some.packet ∷ l.delivered }) keeps)
