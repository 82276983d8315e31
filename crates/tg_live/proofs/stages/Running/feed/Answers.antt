use Rattle.std.proofs.Common.{◌≡◌, false, Some, Option, IfSome, sym, subst, ◌∷◌}
use Rattle.std.proofs.lemmas.Result.{IfOk-weaker, on_err_weaker}
use Rattle.tg_base.specs.Clusters.{Header}
use Rattle.tg_script.specs.Lines.{IsLine as IsLineOf}
use Rattle.tg_script.specs.declared.line.Line.{Line}
use Rattle.tg_live.specs.Scripts.{is_delivery}
use Rattle.tg_live.specs.Stages.{over}
use Rattle.tg_live.proofs.Feeding.{line_of, text_of_line, outside_took, outside_kept, outside_counts, made_took}
use Rattle.tg_live.specs.Sends.{carried}
use Rattle.tg_live.proofs.Broken.{run_broken, line_broken}
use Rattle.tg_live.proofs.Breaking.{on_err}
use Rattle.tg_live.proofs.stages.Running.feed.Goals as goal

pub returns-in_default-clause-took : goal.returns-in_default-clause-took
returns-in_default-clause-took g c = λ handed sent text read more s cut h.
    outside_took (over handed (g.L.Link.handed c.args.link.now) sent (carried (g.L.Link.sent c.args.link.now) (g.L.Link.acts c.args.link.now))) text c.args.line.now read more c.args.self s c.outside.result h cut
    (λ l live e.
    let found : c.in_ok-event.field-0 ≡ Some l =
    c.in_ok-event.ensures.only l (subst (λ (x : Header). IsLineOf x c.args.line.now l) (sym h.kept.cluster) (text_of_line s.header c.args.line.now l live.line e)) live.free in
    let none = c.in_default.is in
    absurd cc) c.outside.ensures

pub returns-in_default-clause-kept : goal.returns-in_default-clause-kept
returns-in_default-clause-kept g c = outside_kept c.args.self c.outside.result c.outside.ensures

pub returns-in_default-clause-counts : goal.returns-in_default-clause-counts
returns-in_default-clause-counts g c = outside_counts c.args.self.lines c.args.self c.outside.result c.outside.ensures

pub returns-clause-took : goal.returns-clause-took
returns-clause-took g c = IfOk-weaker c.take.result _ _ (λ f m. λ handed sent text read more s cut h.
    let o = over handed (g.L.Link.handed c.args.link.now) sent (carried (g.L.Link.sent c.args.link.now) (g.L.Link.acts c.args.link.now)) in
    let event = c.in-Some.event in
    let found = subst (λ (x : Option Line). IfSome x (λ l. IsLineOf c.args.self.live.cluster c.args.line.now l)) c.in-Some.is c.in_ok-event.ensures.found in
    let free = subst (λ (x : Option Line). IfSome x (λ l. is_delivery l ≡ false)) c.in-Some.is c.in_ok-event.ensures.free in
    let is = subst (λ (x : Header). IsLineOf x c.args.line.now event) h.kept.cluster found in
    let made = m s.header sent h.live h.kept in
    made_took o text c.args.line.now read more c.args.self s event f h (g.L.Link.handed c.take.new.link) (carried (g.L.Link.sent c.take.new.link) (g.L.Link.acts c.take.new.link)) made.0 cut
    (record { line = line_of s.header c.args.line.now event is; free = free }) is.spelled
    (λ l live e.
    let other : c.in_ok-event.field-0 ≡ Some l =
    c.in_ok-event.ensures.only l (subst (λ (x : Header). IsLineOf x c.args.line.now l) (sym h.kept.cluster) (text_of_line s.header c.args.line.now l live.line e)) live.free in
    let here : c.in_ok-event.field-0 ≡ Some event = c.in-Some.is in
    let same : l ≡ event = cc in
    same) made.1 made.2) c.take.ensures.made

pub returns-in_err-event-clause-broken : goal.returns-in_err-event-clause-broken
returns-in_err-event-clause-broken g c = on_err c.from_residual.result (λ handed first text read more s cut h.
    run_broken (over handed (g.L.Link.handed c.args.link.now) first (carried (g.L.Link.sent c.args.link.now) (g.L.Link.acts c.args.link.now))) text read (c.args.line.now ∷ more) c.args.self s h cut)

pub returns-clause-broken : goal.returns-clause-broken
returns-clause-broken g c = on_err_weaker c.take.result (λ b. λ handed first text read more s cut h.
    let o = over handed (g.L.Link.handed c.args.link.now) first (carried (g.L.Link.sent c.args.link.now) (g.L.Link.acts c.args.link.now)) in
    let event = c.in-Some.event in
    let found = subst (λ (x : Option Line). IfSome x (λ l. IsLineOf c.args.self.live.cluster c.args.line.now l)) c.in-Some.is c.in_ok-event.ensures.found in
    let free = subst (λ (x : Option Line). IfSome x (λ l. is_delivery l ≡ false)) c.in-Some.is c.in_ok-event.ensures.free in
    let is = subst (λ (x : Header). IsLineOf x c.args.line.now event) h.kept.cluster found in
    line_broken o text c.args.line.now read more c.args.self s event (g.L.Link.acts c.take.new.link) h cut (record { line = line_of s.header c.args.line.now event is; free = free }) is.spelled (b s.header first h.live h.kept)) c.take.ensures.broken
