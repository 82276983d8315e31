use Rattle.std.proofs.Common.{◌∙◌}
use Rattle.tg_play.proofs.Means.{means}
use Rattle.tg_rescue.proofs.Judging.{absent_turn, judged_turn}
use Rattle.tg_rescue.proofs.rescue.played.Goals as goal

pub returns-in-None : goal.returns-in-None
returns-in-None g c = λ p upto k came. absent_turn (means g.K.Kind g.K.Registry) p c.args.entries.now c.args.oids.now c.args.at upto c.in-None.ensures came

pub returns-in_ok-needs-in-Some : goal.returns-in_ok-needs-in-Some
returns-in_ok-needs-in-Some g c = λ p upto k came.
    c.judged.ensures
    ∙ judged_turn (means g.K.Kind g.K.Registry) p c.args.entries.now c.args.oids.now c.args.at upto c.in-Some.entry.now c.in_ok-needs-in-Some.needs _ c.in-Some.ensures came
    (c.outcome-verdict.ensures p.view k) c.in_ok-needs-in-Some.ensures
