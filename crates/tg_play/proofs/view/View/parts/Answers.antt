use Rattle.std.proofs.Common.{◌≡◌, ◌∙◌, ℕ, List, Option, IfOk, sym, ap}
use Rattle.tg_base.specs.declared.marks.Part.{Part}
use Rattle.tg_base.specs.declared.marks.Part.TheVariants.{All}
use Rattle.tg_protocol.specs.Views.{played_parts, view_parts}
use Rattle.tg_play.specs.declared.hosted.Hosted.{Hosted}
use Rattle.tg_play.specs.Lawful.{IsLawful, hosted_version}
use Rattle.tg_play.proofs.Hosting.{at_none, some_holds}
use Rattle.tg_play.proofs.Telling.{none_told, keys_kept}
use Rattle.tg_play.proofs.view.View.parts.Goals as goal

pub returns-in-None-clause-whole : goal.returns-in-None-clause-whole
unfolding view_parts
returns-in-None-clause-whole g c = λ v k. at_none _ (λ b. (played_parts _ v b c.args.oid).whole) c.args.self.now.objects v c.args.oid k.objects c.in-None.ensures.found

pub returns-in-None-clause-keys : goal.returns-in-None-clause-keys
unfolding view_parts
returns-in-None-clause-keys g c = λ v k. c.new.ensures ∙ at_none _ (λ b. (played_parts _ v b c.args.oid).keys) c.args.self.now.objects v c.args.oid k.objects c.in-None.ensures.found

pub returns-in-Some-clause-whole : goal.returns-in-Some-clause-whole
unfolding view_parts
returns-in-Some-clause-whole g c = λ v k.
    some_holds _ (λ b. IfOk c.parts.result (λ (p : ℕ × List (Part × ℕ)). p.0 ≡ (played_parts _ v b c.args.oid).whole)) c.args.self.now.objects v c.args.oid c.in-Some.hosted.now k.objects c.in-Some.ensures.found
    (λ b h. c.parts.ensures.whole b.versions.base v.noted h.noted)

pub returns-in-Some-clause-keys : goal.returns-in-Some-clause-keys
unfolding view_parts
returns-in-Some-clause-keys g c = λ v k.
    some_holds _ (λ b. IfOk c.parts.result (λ (p : ℕ × List (Part × ℕ)). p.1 ≡ (played_parts _ v b c.args.oid).keys)) c.args.self.now.objects v c.args.oid c.in-Some.hosted.now k.objects c.in-Some.ensures.found
    (λ b h. c.parts.ensures.keys b.versions.base v.noted h.noted)

pub returns-in-None-clause-lawful : goal.returns-in-None-clause-lawful
returns-in-None-clause-lawful g c = none_told _ _ c.new.ensures

pub returns-in-Some-clause-lawful : goal.returns-in-Some-clause-lawful
returns-in-Some-clause-lawful g c =
    let h : IsLawful c.args.oid c.in-Some.hosted.now.noted = (c.in-Some.ensures.lawful.each c.args.oid c.in-Some.hosted.now (sym c.in-Some.ensures.found)).lawful in
    keys_kept c.args.oid c.in-Some.hosted.now.noted _ h c.parts.result (ap (λ (x : Option (Hosted g.row.K.Denot)). hosted_version x c.args.oid All) c.in-Some.ensures.found)
    (c.parts.ensures.whole h.base h.changes h.keeps) (c.parts.ensures.keys h.base h.changes h.keeps)
