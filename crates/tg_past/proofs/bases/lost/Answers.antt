use Rattle.std.proofs.Common.{ℕ, Option, ap, ◌∙◌}
use Rattle.tg_play.proofs.Means.{means}
use Rattle.tg_play.proofs.Splitting.{if_ok}
use Rattle.tg_past.specs.Answers.{lost_by}
use Rattle.tg_past.proofs.bases.lost.Goals as goal

pub returns-in-None : goal.returns-in-None
returns-in-None g c = ap (λ (t : Option ℕ). lost_by (means g.K.Kind g.K.Registry) c.args.entries.now c.args.oid c.args.pos t) c.in-None.ensures

pub returns-in-Some : goal.returns-in-Some
returns-in-Some g c =
    if_ok _ _ c.unreached.result (λ b is. is ∙ ap (λ (t : Option ℕ). lost_by (means g.K.Kind g.K.Registry) c.args.entries.now c.args.oid c.args.pos t) c.in-Some.ensures) c.unreached.ensures
