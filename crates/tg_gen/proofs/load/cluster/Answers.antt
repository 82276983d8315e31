use Rattle.tg_gen.proofs.Headers.{lawful}
use Rattle.tg_gen.proofs.load.cluster.Goals as goal

pub invariant_of-result : goal.invariant_of-result
invariant_of-result c = lawful c.in_ok-chains.chains c.in_ok-objects.objects c.in_ok-chains.ensures c.in_ok-objects.ensures
