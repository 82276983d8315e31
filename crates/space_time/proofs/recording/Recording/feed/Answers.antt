use Rattle.std.proofs.Common.{rules, ◌≡◌, Some, Option, IsTrue, IfSome, true, false, sym, subst}
use Rattle.std.proofs.lemmas.Result.{IfOk-weaker}
use Rattle.tg_base.specs.Clusters.{Header}
use Rattle.tg_script.specs.Lines.{IsLine as IsLineOf}
use Rattle.tg_script.specs.declared.line.Line.{Line}
use Rattle.tg_replay.specs.Runs.{MayCome, world_of}
use Rattle.tg_replay.proofs.Feeding.{line_of, text_of_line, outside_took, made_took}
use Rattle.space_time.specs.Records.{run_in}
use Rattle.space_time.proofs.recording.Recording.feed.Goals as goal

false_is_no : IsTrue false → ⊥
false_is_no t = search rules

true_is_yes : IsTrue true
true_is_yes = search rules

pub returns-in_default-clause-took : goal.returns-in_default-clause-took
returns-in_default-clause-took c = λ text read more s cut h.
    outside_took text c.args.line read more c.args.self.run s (run_in c.outside.result) h cut
    (λ l is comes e.
    let found : c.in_ok-event.field-0 ≡ Some l =
    c.in_ok-event.ensures.only l (subst (λ (x : Header). IsLineOf x c.args.line l) (sym h.cluster) (text_of_line s.header c.args.line l is e)) in
    let none = c.in_default.is in
    absurd cc)
    c.outside.ensures.outside

pub returns-then-not-may_come-clause-took : goal.returns-then-not-may_come-clause-took
returns-then-not-may_come-clause-took c = λ text read more s cut h.
    outside_took text c.args.line read more c.args.self.run s (run_in c.outside-then-not-may_come.result) h cut
    (λ l is comes e.
    let found : c.in_ok-event.field-0 ≡ Some l =
    c.in_ok-event.ensures.only l (subst (λ (x : Header). IsLineOf x c.args.line l) (sym h.cluster) (text_of_line s.header c.args.line l is e)) in
    let here : c.in_ok-event.field-0 ≡ Some c.in-Some.event = c.in-Some.is in
    let same : c.in-Some.event ≡ l = cc in
    let no : IsTrue false = (c.if-not-may_come.ensures (world_of s) h.world).1 (subst (λ (x : Line). MayCome (world_of s) x) (sym same) comes) in
    absurd (false_is_no no))
    c.outside-then-not-may_come.ensures.outside

pub returns-clause-took : goal.returns-clause-took
returns-clause-took c = λ text read more s cut h.
    let event = c.in-Some.event in
    let found = subst (λ (o : Option Line). IfSome o (λ l. IsLineOf c.args.self.run.cluster c.args.line l)) c.in-Some.is c.in_ok-event.ensures.found in
    let is = subst (λ (x : Header). IsLineOf x c.args.line event) h.cluster found in
    IfOk-weaker c.play.result _ _
    (λ f m. made_took text c.args.line read more c.args.self.run s event (run_in f) h c.requires.room cut (line_of s.header c.args.line event is)
    ((c.if-not-may_come.ensures (world_of s) h.world).0 true_is_yes) is.spelled
    (λ l line e.
    let other : c.in_ok-event.field-0 ≡ Some l =
    c.in_ok-event.ensures.only l (subst (λ (x : Header). IsLineOf x c.args.line l) (sym h.cluster) (text_of_line s.header c.args.line l line e)) in
    let here : c.in_ok-event.field-0 ≡ Some event = c.in-Some.is in
    let same : l ≡ event = cc in
    same) m)
    (c.play.ensures.made (world_of s) h.world)
