use Rattle.std.proofs.Common.{sym, ◌∙◌}
use Rattle.tg_play.proofs.Means.{means}
use Rattle.tg_rescue.proofs.Judging.{blocked_turn}
use Rattle.tg_rescue.proofs.rescue.turn.Goals as goal

pub returns-in-Played : goal.returns-in-Played
returns-in-Played g c = λ p k came. c.played.ensures p _ k (sym came ∙ c.in-Played.is)

pub returns-in-Blocked : goal.returns-in-Blocked
returns-in-Blocked g c = λ p k came.
    c.blocked.ensures
    ∙ blocked_turn (means g.K.Kind g.K.Registry) p c.args.entries.now c.args.oids.now c.args.at c.in-Blocked.pos c.in-Blocked.missing _ c.commit_at.ensures (sym c.in-Blocked.is ∙ came)
