use Rattle.tg_protocol.specs.Views.{plays, state_of}
use Rattle.tg_play.proofs.Hosting.{at_none, at_some}
use Rattle.tg_play.proofs.objects.plays.Goals as goal

pub returns-in-None : goal.returns-in-None
returns-in-None g c = λ v k.
    at_none _ (λ b. plays _ c.args.pos b) c.args.objects.now.entries v c.args.oid k c.in-None.ensures

pub returns-in-Some : goal.returns-in-Some
returns-in-Some g c = λ v k.
    at_some _ (λ b. plays _ c.args.pos b) _ c.args.objects.now.entries v c.args.oid c.in-Some.hosted.now k c.in-Some.ensures
    (λ b h. c.plays.ensures b (state_of _ v c.args.oid) v.noted h)
