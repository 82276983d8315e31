use Rattle.std.proofs.Common.{Option, sym, ap, ◌∙◌}
use Rattle.tg_protocol.specs.Views.{played_version, view_version}
use Rattle.tg_play.specs.declared.hosted.Hosted.{Hosted}
use Rattle.tg_play.specs.Lawful.{IsLawful, hosted_version}
use Rattle.tg_play.proofs.Hosting.{at_none, at_some}
use Rattle.tg_play.proofs.Telling.{version_lawful}
use Rattle.tg_play.proofs.view.View.version.Goals as goal

pub returns-in-None-clause-told : goal.returns-in-None-clause-told
unfolding view_version
returns-in-None-clause-told g c = λ v k. at_none _ (λ b. played_version _ v b c.args.oid c.args.part.now) c.args.self.now.objects v c.args.oid k.objects c.in-None.ensures.found

pub returns-in-None-clause-kept : goal.returns-in-None-clause-kept
returns-in-None-clause-kept g c = ap (λ (x : Option (Hosted g.row.K.Denot)). hosted_version x c.args.oid c.args.part.now) c.in-None.ensures.found

pub returns-in-Some-clause-told : goal.returns-in-Some-clause-told
unfolding view_version
returns-in-Some-clause-told g c = λ v k.
    at_some _ (λ b. played_version _ v b c.args.oid c.args.part.now) _ c.args.self.now.objects v c.args.oid c.in-Some.hosted.now k.objects c.in-Some.ensures.found
    (λ b h. c.version.ensures b.versions.base v.noted h.noted)

pub returns-in-Some-clause-kept : goal.returns-in-Some-clause-kept
returns-in-Some-clause-kept g c =
    let h : IsLawful c.args.oid c.in-Some.hosted.now.noted = (c.in-Some.ensures.lawful.each c.args.oid c.in-Some.hosted.now (sym c.in-Some.ensures.found)).lawful in
    c.version.ensures h.base h.changes h.keeps
    ∙ version_lawful c.args.oid c.in-Some.hosted.now.noted c.args.part.now h
    ∙ ap (λ (x : Option (Hosted g.row.K.Denot)). hosted_version x c.args.oid c.args.part.now) c.in-Some.ensures.found
