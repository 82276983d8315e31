use Rattle.std.proofs.Common.{ap, sym, ◌∙◌, Option, ℕ}
use Rattle.std.specs.Prelude.{is_none}
use Rattle.tg_play.proofs.Means.{means}
use Rattle.tg_world_log.specs.Turns.{changed}
use Rattle.tg_world_log.proofs.Current.{current_by}
use Rattle.tg_world_log.proofs.history.are_current.Goals as goal

pub returns-in-None : goal.returns-in-None
returns-in-None g c = λ ns k. ap is_none (sym c.in-None.is) ∙ current_by (means g.K.Kind g.K.Registry) ns c.args.reads.now c.same.result (c.same.ensures.first (changed ns) k)

pub returns-in-Some : goal.returns-in-Some
returns-in-Some g c = λ ns k. ap is_none (sym c.in-Some.is) ∙ current_by (means g.K.Kind g.K.Registry) ns c.args.reads.now c.same.result (c.same.ensures.first (changed ns) k)
