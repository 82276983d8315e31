use Rattle.std.proofs.Common.{◌≡◌, ◌∙◌, None, sym}
use Rattle.std.proofs.lemmas.Result.{IfOk-weaker, on_err_weaker}
use Rattle.tg_live.specs.Lives.{Then, IsDrained, IsRounds, IsSettled}
use Rattle.tg_live.proofs.Options.{some_of, none_of}
use Rattle.tg_live.proofs.Parts.{made_stops, made_both}
use Rattle.tg_live.specs.Sends.{carried}
use Rattle.tg_live.proofs.Breaking.{on_err, broken_as, broken_first, broken_second, rounds_end}
use Rattle.tg_live.proofs.live.Live.settle.Goals as goal

pub returns-then-is_some-clause-settled : goal.returns-then-is_some-clause-settled
returns-then-is_some-clause-settled g c = λ h f l k.
    let x = some_of c.in_ok-went.went.stopped (sym c.is_some.ensures ∙ c.if-is_some.true) in
    made_stops h f IsDrained (IsRounds 8) (carried (g.L.Link.sent c.drain.new.link) (g.L.Link.acts c.drain.new.link)) (g.L.Link.handed c.args.link.now) (g.L.Link.handed c.drain.new.link) l c.in_ok-went.went x.0 x.1 (c.in_ok-went.ensures.drained h f l k)

pub returns-clause-settled : goal.returns-clause-settled
returns-clause-settled g c = λ h f l k.
    let m = c.in_ok-went.ensures.drained h f l k in
    let on : c.in_ok-went.went.stopped ≡ None = none_of c.in_ok-went.went.stopped (sym c.is_some.ensures ∙ c.if-is_some.false) in
    IfOk-weaker c.rounds.result _ _
    (λ w r. made_both h f IsDrained (IsRounds 8) (carried (g.L.Link.sent c.drain.new.link) (g.L.Link.acts c.drain.new.link)) (carried (g.L.Link.sent c.rounds.new.link) (g.L.Link.acts c.rounds.new.link)) (g.L.Link.handed c.args.link.now) (g.L.Link.handed c.drain.new.link) (g.L.Link.handed c.rounds.new.link) l c.in_ok-went.went w on m r)
    (c.rounds.ensures.settled h f m.end.live m.kept.live)

pub returns-in_err-went-clause-broken : goal.returns-in_err-went-clause-broken
returns-in_err-went-clause-broken g c = λ h f l k.
    on_err c.from_residual.result (broken_as (Then IsDrained (IsRounds 8)) IsSettled f.acts (g.L.Link.acts c.drain.new.link) l (λ ans end t. t) (broken_first IsDrained (IsRounds 8) f.acts (g.L.Link.acts c.drain.new.link) l (c.in_err-went.ensures.broken h f l k) (λ m. rounds_end 8 m)))

pub returns-clause-broken : goal.returns-clause-broken
returns-clause-broken g c = λ h f l k.
    let m = c.in_ok-went.ensures.drained h f l k in
    let on : c.in_ok-went.went.stopped ≡ None = none_of c.in_ok-went.went.stopped (sym c.is_some.ensures ∙ c.if-is_some.false) in
    on_err_weaker c.rounds.result (λ b. broken_as (Then IsDrained (IsRounds 8)) IsSettled f.acts (g.L.Link.acts c.rounds.new.link) l (λ ans end t. t) (broken_second IsDrained (IsRounds 8) f.acts (g.L.Link.acts c.rounds.new.link) l m.answers m.end m.is (sym m.kept.stopped ∙ on) b))
    (c.rounds.ensures.broken h f m.end.live m.kept.live)
