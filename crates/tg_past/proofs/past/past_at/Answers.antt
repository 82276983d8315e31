use Rattle.tg_play.proofs.Means.{means}
use Rattle.tg_past.proofs.Beginning.{gone_turn, view_turn}
use Rattle.tg_past.proofs.past.past_at.Goals as goal

pub returns-in-Some : goal.returns-in-Some
returns-in-Some g c =
    gone_turn (means g.K.Kind g.K.Registry) c.args.entries.now c.args.gone.now c.args.oids.now c.args.objects.now c.args.oid c.args.pos c.in-Some.below _ c.in_ok-below.ensures c.in-Some.is

pub returns-in_ok-played-in-None : goal.returns-in_ok-played-in-None
returns-in_ok-played-in-None g c =
    view_turn (means g.K.Kind g.K.Registry) c.args.entries.now c.args.gone.now c.args.oids.now c.args.objects.now c.args.oid c.args.pos _ c.in_ok-played-in-None.played.0 c.in_ok-played-in-None.played.1 c.in_ok-below.ensures c.in-None.is
    c.in_ok-played-in-None.ensures
