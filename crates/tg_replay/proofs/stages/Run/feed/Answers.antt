use Rattle.std.proofs.Common.{rules, ◌≡◌, Some, Option, IsTrue, IfSome, true, false, sym, subst}
use Rattle.std.proofs.lemmas.Result.{IfOk-weaker}
use Rattle.tg_base.specs.Clusters.{Header}
use Rattle.tg_script.specs.Lines.{IsLine as IsLineOf}
use Rattle.tg_script.specs.declared.line.Line.{Line}
use Rattle.tg_replay.specs.Runs.{MayCome, line_on, world_of}
use Rattle.tg_replay.proofs.Feeding.{line_of, text_of_line, outside_took, outside_kept, outside_counts, made_kept, made_took}
use Rattle.tg_replay.proofs.stages.Run.feed.Goals as goal

false_is_no : IsTrue false → ⊥
false_is_no t = search rules

true_is_yes : IsTrue true
true_is_yes = search rules

pub returns-in_default-clause-took : goal.returns-in_default-clause-took
returns-in_default-clause-took c = λ text read more s cut h.
    outside_took text c.args.line.now read more c.args.self s c.outside.result h cut
    (λ l is comes e.
    let found : c.in_ok-event.field-0 ≡ Some l =
    c.in_ok-event.ensures.only l (subst (λ (x : Header). IsLineOf x c.args.line.now l) (sym h.cluster) (text_of_line s.header c.args.line.now l is e)) in
    let none = c.in_default.is in
    absurd cc)
    c.outside.ensures

pub returns-in_default-clause-kept : goal.returns-in_default-clause-kept
returns-in_default-clause-kept c = outside_kept c.args.self c.outside.result c.outside.ensures

pub returns-in_default-clause-counts : goal.returns-in_default-clause-counts
returns-in_default-clause-counts c = outside_counts c.args.self.world.event c.args.self c.outside.result c.outside.ensures

pub returns-then-not-may_come-clause-kept : goal.returns-then-not-may_come-clause-kept
returns-then-not-may_come-clause-kept c = outside_kept c.args.self c.outside-then-not-may_come.result c.outside-then-not-may_come.ensures

pub returns-then-not-may_come-clause-counts : goal.returns-then-not-may_come-clause-counts
returns-then-not-may_come-clause-counts c = outside_counts c.args.self.world.event c.args.self c.outside-then-not-may_come.result c.outside-then-not-may_come.ensures

pub returns-then-not-may_come-clause-took : goal.returns-then-not-may_come-clause-took
returns-then-not-may_come-clause-took c = λ text read more s cut h.
    outside_took text c.args.line.now read more c.args.self s c.outside-then-not-may_come.result h cut
    (λ l is comes e.
    let found : c.in_ok-event.field-0 ≡ Some l =
    c.in_ok-event.ensures.only l (subst (λ (x : Header). IsLineOf x c.args.line.now l) (sym h.cluster) (text_of_line s.header c.args.line.now l is e)) in
    let here : c.in_ok-event.field-0 ≡ Some c.in-Some.event = c.in-Some.is in
    let same : c.in-Some.event ≡ l = cc in
    let no : IsTrue false = (c.if-not-may_come.ensures (world_of s) h.world).1 (subst (λ (x : Line). MayCome (world_of s) x) (sym same) comes) in
    absurd (false_is_no no))
    c.outside-then-not-may_come.ensures

pub returns-clause-took : goal.returns-clause-took
returns-clause-took c = λ text read more s cut h.
    let event = c.in-Some.event in
    let found = subst (λ (o : Option Line). IfSome o (λ l. IsLineOf c.args.self.cluster c.args.line.now l)) c.in-Some.is c.in_ok-event.ensures.found in
    let is = subst (λ (x : Header). IsLineOf x c.args.line.now event) h.cluster found in
    IfOk-weaker c.play.result _ _
    (λ f m. made_took text c.args.line.now read more c.args.self s event f h c.requires.room cut (line_of s.header c.args.line.now event is)
    ((c.if-not-may_come.ensures (world_of s) h.world).0 true_is_yes) is.spelled
    (λ l line e.
    let other : c.in_ok-event.field-0 ≡ Some l =
    c.in_ok-event.ensures.only l (subst (λ (x : Header). IsLineOf x c.args.line.now l) (sym h.cluster) (text_of_line s.header c.args.line.now l line e)) in
    let here : c.in_ok-event.field-0 ≡ Some event = c.in-Some.is in
    let same : l ≡ event = cc in
    same) m)
    (c.play.ensures.made (world_of s) h.world)

pub returns-clause-kept : goal.returns-clause-kept
returns-clause-kept c =
    let k = c.requires.kept in
    IfOk-weaker c.play.result _ _ (λ f m. made_kept c.args.self (line_on k.world c.in-Some.event) f m) (c.play.ensures.made k.world k.keeps)
