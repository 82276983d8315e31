use Rattle.std.proofs.Common.{ap, ◌∙◌}
use Rattle.tg_protocol.specs.Views.{version_at, changed_in}
use Rattle.tg_vers.specs.Kept.{changed_of}
use Rattle.tg_vers.proofs.Firsts.{changed_first}
use Rattle.tg_play.proofs.Means.{means}
use Rattle.tg_play.proofs.Hosting.{objects_in}
use Rattle.tg_play.proofs.view.View.changed.Goals as goal

pub returns : goal.returns
unfolding changed_in
returns g c = λ v k.
    ap (changed_of c.args.reads.now) (c.changed.ensures v (objects_in _ _ _ v c.self.view_is k.objects))
    ∙ changed_first (version_at (means g.K.Kind g.K.Registry) v c.args.pos) c.args.reads.now
