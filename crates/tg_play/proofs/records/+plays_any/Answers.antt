use Rattle.std.proofs.Common.{sym, ◌∙◌}
use Rattle.tg_play.proofs.Splitting.{split_first}
use Rattle.tg_play.proofs.Reading.{plays_first, plays_later}
use Rattle.tg_play.proofs.records.+plays_any.Goals as goal

pub returns-then-plays : goal.returns-then-plays
returns-then-plays g t c = λ v k.
    plays_first _ v c.args.pos c.args.writes.now _ c.first-item.result (split_first c.args.writes.now c.first-item.result c.in-len1-up.len_at_least c.first-item.is) (sym c.if-plays.true ∙ c.plays.ensures v k)

pub returns-else-plays : goal.returns-else-plays
returns-else-plays g t c = λ v k.
    plays_later _ v c.args.pos c.args.writes.now _ c.first-item.result _ (split_first c.args.writes.now c.first-item.result c.in-len1-up.len_at_least c.first-item.is) (sym c.if-plays.false ∙ c.plays.ensures v k) (c.plays_any.ensures v k)
