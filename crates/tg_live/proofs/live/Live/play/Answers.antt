use Rattle.std.proofs.Common.{refl, [], sym, subst}
use Rattle.std.proofs.lemmas.Result.{IfOk-weaker, on_err_weaker}
use Rattle.tg_script.specs.declared.line.Line.TheVariants as line
use Rattle.tg_live.proofs.Playing.{fed_drain, fed_settle, fed_steps}
use Rattle.tg_live.specs.Sends.{carried}
use Rattle.std.specs.Prelude.{OnErr}
use Rattle.tg_script.specs.declared.line.Line.{Line}
use Rattle.tg_live.specs.Lives.{IsDrained, IsSettled, IsFed, recorded}
use Rattle.tg_live.specs.Breaks.{Broken}
use Rattle.tg_live.proofs.Breaking.{broken_as}
use Rattle.tg_live.proofs.live.Live.play.Goals as goal

pub returns-in-Drain-clause-fed : goal.returns-in-Drain-clause-fed
returns-in-Drain-clause-fed g c = λ h f l k.
    IfOk-weaker c.drain.result _ _
    (λ w m. fed_drain h f (carried (g.L.Link.sent c.drain.new.link) (g.L.Link.acts c.drain.new.link)) (g.L.Link.handed c.args.link.now) (g.L.Link.handed c.drain.new.link) l w c.args.line c.in-Drain.is m)
    (c.drain.ensures.drained h f l k)

pub returns-in-Settle-clause-fed : goal.returns-in-Settle-clause-fed
returns-in-Settle-clause-fed g c = λ h f l k.
    IfOk-weaker c.settle.result _ _
    (λ w m. fed_settle h f (carried (g.L.Link.sent c.settle.new.link) (g.L.Link.acts c.settle.new.link)) (g.L.Link.handed c.args.link.now) (g.L.Link.handed c.settle.new.link) l w c.args.line c.in-Settle.is m)
    (c.settle.ensures.settled h f l k)

pub returns-in-Event-clause-fed : goal.returns-in-Event-clause-fed
returns-in-Event-clause-fed g c = λ h f l k.
    IfOk-weaker c.recorded.result _ _
    (λ w r. fed_steps h f (carried (g.L.Link.sent c.recorded.new.link) (g.L.Link.acts c.recorded.new.link)) (g.L.Link.handed c.args.link.now) (g.L.Link.handed c.recorded.new.link) l w c.args.line (line.Event c.in-Event.event) c.in-Event.is refl c.recorded.ensures.handed r)
    (c.recorded.ensures.recorded h f l k)

pub returns-in-Update-clause-fed : goal.returns-in-Update-clause-fed
returns-in-Update-clause-fed g c = λ h f l k.
    let made = c.recorded-in-Update in
    IfOk-weaker made.result _ _
    (λ w r. fed_steps h f (carried (g.L.Link.sent made.new.link) (g.L.Link.acts made.new.link)) (g.L.Link.handed c.args.link.now) (g.L.Link.handed made.new.link) l w c.args.line (line.Update c.in-Update.client c.in-Update.oid c.in-Update.op) c.in-Update.is refl made.ensures.handed r)
    (made.ensures.recorded h f l k)

pub returns-in-Drain-clause-broken : goal.returns-in-Drain-clause-broken
returns-in-Drain-clause-broken g c = λ h f l k.
    subst (λ (x : Line). OnErr c.drain.result (Broken (IsFed x) f.acts (g.L.Link.acts c.drain.new.link) l)) (sym c.in-Drain.is)
    (on_err_weaker c.drain.result (λ b. broken_as IsDrained (IsFed line.Drain) f.acts (g.L.Link.acts c.drain.new.link) l (λ ans end t. t) b) (c.drain.ensures.broken h f l k))

pub returns-in-Settle-clause-broken : goal.returns-in-Settle-clause-broken
returns-in-Settle-clause-broken g c = λ h f l k.
    subst (λ (x : Line). OnErr c.settle.result (Broken (IsFed x) f.acts (g.L.Link.acts c.settle.new.link) l)) (sym c.in-Settle.is)
    (on_err_weaker c.settle.result (λ b. broken_as IsSettled (IsFed line.Settle) f.acts (g.L.Link.acts c.settle.new.link) l (λ ans end t. t) b) (c.settle.ensures.broken h f l k))

pub returns-in-Event-clause-broken : goal.returns-in-Event-clause-broken
returns-in-Event-clause-broken g c = λ h f l k.
    let x = line.Event c.in-Event.event in
    subst (λ (y : Line). OnErr c.recorded.result (Broken (IsFed y) f.acts (g.L.Link.acts c.recorded.new.link) l)) (sym c.in-Event.is)
    (on_err_weaker c.recorded.result (λ b. record { answers = []; end = recorded l x; is = (refl, refl); acts = b }) (c.recorded.ensures.broken h f l k))

pub returns-in-Update-clause-broken : goal.returns-in-Update-clause-broken
returns-in-Update-clause-broken g c = λ h f l k.
    let made = c.recorded-in-Update in
    let x = line.Update c.in-Update.client c.in-Update.oid c.in-Update.op in
    subst (λ (y : Line). OnErr made.result (Broken (IsFed y) f.acts (g.L.Link.acts made.new.link) l)) (sym c.in-Update.is)
    (on_err_weaker made.result (λ b. record { answers = []; end = recorded l x; is = (refl, refl); acts = b }) (made.ensures.broken h f l k))
