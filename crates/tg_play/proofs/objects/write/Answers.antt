use Rattle.std.proofs.Common.{◌≡◌, ◌+◌, sym, subst, ◌∙◌}
use Rattle.tg_protocol.specs.Views.{state_of}
use Rattle.tg_play.specs.declared.hosted.Hosted.{Hosted}
use Rattle.tg_play.specs.Lawful.{IsLawfulHosted}
use Rattle.tg_play.specs.Relations.{KeepsHosted}
use Rattle.tg_play.proofs.Hosting.{write_keeps, hosted_back}
use Rattle.tg_play.proofs.Lasting.{back_lawful}
use Rattle.tg_play.proofs.Means.{means}
use Rattle.tg_play.proofs.objects.write.Goals as goal

pub returns-in_ok-slot-in-Some-clause-objects : goal.returns-in_ok-slot-in-Some-clause-objects
returns-in_ok-slot-in-Some-clause-objects g c = λ v k.
    let m = means g.K.Kind g.K.Registry in
    let taken : c.replace-hosted.result ≡ c.in-Some.slot.now = c.replace-hosted.ensures.value in
    write_keeps m c.args.objects.now.entries _ v c.args.write.now c.args.pos c.in-Some.slot.now c.in_ok-slot-in-Some.field-0 k (sym c.in-Some.ensures.value)
    (λ b h. c.in_ok-slot-in-Some.ensures.kept b (state_of m v c.args.write.now.oid) v.noted
    (subst (λ (x : Hosted m.state). KeepsHosted m c.args.write.now.oid x b (state_of m v c.args.write.now.oid) v.noted) (sym taken) h))
    ((c.get_mut.follows.holds c.in_ok-slot-in-Some.field-0).0
    ∙ sym (hosted_back c.args.write.now.oid c.in-Some.slot.now c.in_ok-slot-in-Some.field-0 c.args.objects.now.entries c.get_mut.ensures.ordered (sym c.in-Some.ensures.value)))

pub returns-in_ok-slot-in-Some-clause-lawful : goal.returns-in_ok-slot-in-Some-clause-lawful
returns-in_ok-slot-in-Some-clause-lawful g c = λ k.
    let taken : c.replace-hosted.result ≡ c.in-Some.slot.now = c.replace-hosted.ensures.value in
    back_lawful (c.args.pos + 1) c.args.objects.now.entries _ c.args.write.now.oid c.in_ok-slot-in-Some.field-0 k
    (c.in_ok-slot-in-Some.ensures.lawful
    (subst (λ (x : Hosted g.row.K.Denot). IsLawfulHosted (c.args.pos + 1) c.args.write.now.oid x) (sym taken) (k.each c.args.write.now.oid c.in-Some.slot.now (sym c.in-Some.ensures.value))))
    ((c.get_mut.follows.holds c.in_ok-slot-in-Some.field-0).0
    ∙ sym (hosted_back c.args.write.now.oid c.in-Some.slot.now c.in_ok-slot-in-Some.field-0 c.args.objects.now.entries c.get_mut.ensures.ordered (sym c.in-Some.ensures.value)))
