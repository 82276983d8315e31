use Rattle.tg_protocol.specs.Checkpoints.{view_bases}
use Rattle.tg_protocol.specs.Views.{view_start}
use Rattle.tg_play.proofs.Means.{means}
use Rattle.tg_rescue.proofs.Ending.{turn_is}
use Rattle.tg_rescue.proofs.rescue.rescue_turn.Goals as goal

pub start-requires : goal.start-requires
start-requires g c = c.in_ok-bases.ensures.lawful c.requires.spelled

pub returns : goal.returns
returns g c =
    let bases = view_bases (means g.K.Kind g.K.Registry) c.args.entries.now c.args.gone.now c.args.objects.now c.args.oids.now in
    let kept = c.in_ok-view.ensures bases c.in_ok-bases.ensures.told in
    turn_is (means g.K.Kind g.K.Registry) c.turn.result c.in_ok-played.played.0 c.in_ok-played.played.1 c.args.entries.now c.args.tail c.args.gone.now c.args.oids.now c.args.objects.now c.args.at c.end_of.result
    c.end_of.ensures c.requires.below
    (c.in_ok-played.ensures.view (view_start (means g.K.Kind g.K.Registry) bases) kept) (c.in_ok-played.ensures.came (view_start (means g.K.Kind g.K.Registry) bases) kept) c.turn.ensures
