use Rattle.tg_play.proofs.Hosting.{state_none, state_some}
use Rattle.tg_play.proofs.view.View.state.Goals as goal

pub returns-in-None : goal.returns-in-None
returns-in-None g c = λ v k. state_none _ c.args.self.now.objects v c.args.oid k.objects c.in-None.ensures

pub returns-in-Some : goal.returns-in-Some
returns-in-Some g c = λ v k. state_some _ c.args.self.now.objects v c.args.oid c.in-Some.hosted.now k.objects c.in-Some.ensures
