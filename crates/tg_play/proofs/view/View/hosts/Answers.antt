use Rattle.std.specs.Prelude.{is_some, refl}
use Rattle.tg_play.proofs.Hosting.{at_none, at_some}
use Rattle.tg_play.proofs.view.View.hosts.Goals as goal

pub returns-in-None : goal.returns-in-None
returns-in-None g c = λ v k. at_none _ (λ b. is_some b) c.args.self.now.objects v c.args.oid k.objects c.in-None.ensures

pub returns-in-Some : goal.returns-in-Some
returns-in-Some g c = λ v k. at_some _ (λ b. is_some b) _ c.args.self.now.objects v c.args.oid _ k.objects c.in-Some.ensures (λ b h. refl)
