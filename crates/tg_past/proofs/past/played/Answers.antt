use Rattle.std.proofs.Common.{map}
use Rattle.tg_protocol.specs.Past.{past_base, past_play}
use Rattle.tg_protocol.specs.Views.{view_start}
use Rattle.tg_play.proofs.Means.{means}
use Rattle.tg_past.proofs.Beginning.{played_both}
use Rattle.tg_past.proofs.past.played.Goals as goal

pub start-requires : goal.start-requires
start-requires g c = c.in_ok-bases.ensures.lawful c.requires.spelled

pub returns : goal.returns
returns g c =
    let bases = map (past_base (means g.K.Kind g.K.Registry) c.args.entries.now c.args.gone.now c.args.objects.now c.args.pos) c.args.oids.now in
    let kept = c.in_ok-view.ensures bases c.in_ok-bases.ensures.told in
    played_both (means g.K.Kind g.K.Registry) c.play.result (past_play (means g.K.Kind g.K.Registry) c.args.entries.now c.args.gone.now c.args.oids.now c.args.objects.now c.args.pos)
    (c.play.ensures.view (view_start (means g.K.Kind g.K.Registry) bases) kept) (c.play.ensures.came (view_start (means g.K.Kind g.K.Registry) bases) kept)
