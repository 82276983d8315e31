use Rattle.tg_audit.proofs.Means.{means}
use Rattle.tg_audit.proofs.Ruled.{verdict_told}
use Rattle.tg_audit.proofs.judging.verdict_on.Goals as goal

pub returns : goal.returns
returns g c =
    verdict_told (means g.K.Kind g.K.Registry) g.K.Judged.same_ops g.K.Judged.same_answers c.args.objects.now c.args.history.now c.args.trace.now c.ruled.result c.ruled.ensures
