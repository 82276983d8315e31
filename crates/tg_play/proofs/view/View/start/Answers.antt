use Rattle.std.proofs.Common.{refl}
use Rattle.tg_play.proofs.Starting.{starts}
use Rattle.tg_play.proofs.Lasting.{starts_lawful}
use Rattle.tg_play.proofs.view.View.start.Goals as goal

pub invariant_of-result : goal.invariant_of-result
invariant_of-result g c = starts_lawful c.args.bases _ 0 c.in_ok-objects.ensures c.requires

pub returns : goal.returns
returns g c = λ bs k. starts _ c.args.bases bs _ k c.in_ok-objects.ensures refl c.new-fates.ensures.empty c.new-open_records.ensures.empty
