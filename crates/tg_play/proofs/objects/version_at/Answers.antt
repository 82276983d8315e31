use Rattle.tg_protocol.specs.Views.{version_by, state_of}
use Rattle.tg_play.proofs.Hosting.{at_none, at_some}
use Rattle.tg_play.proofs.objects.version_at.Goals as goal

pub returns-in-None : goal.returns-in-None
returns-in-None g c = λ v k.
    at_none _ (λ b. version_by _ v c.args.pos b c.args.read.now) c.args.objects.now.entries v c.args.read.now.oid k c.in-None.ensures

pub returns-in-Some : goal.returns-in-Some
returns-in-Some g c = λ v k.
    at_some _ (λ b. version_by _ v c.args.pos b c.args.read.now) _ c.args.objects.now.entries v c.args.read.now.oid c.in-Some.hosted.now k c.in-Some.ensures
    (λ b h. c.version_at.ensures v b (state_of _ v c.args.read.now.oid) h)
