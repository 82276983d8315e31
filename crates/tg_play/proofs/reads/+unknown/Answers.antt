use Rattle.std.proofs.Common.{◌≡◌, length, sym, ◌∙◌, arith}
use Rattle.tg_play.proofs.Splitting.{split_first, split_none}
use Rattle.tg_play.proofs.Reading.{unknown_none, unknown_first, unknown_later}
use Rattle.tg_play.proofs.reads.+unknown.Goals as goal

pub returns-in-empty : goal.returns-in-empty
returns-in-empty g t c = λ v k.
    let none : length c.args.reads.now ≡ 0 = omega arith in
    unknown_none _ v c.args.pos c.args.reads.now (split_none c.args.reads.now none)

pub returns-then-is_unknown : goal.returns-then-is_unknown
returns-then-is_unknown g t c = λ v k.
    unknown_first _ v c.args.pos c.args.reads.now _ c.read-item.result (split_first c.args.reads.now c.read-item.result c.in-len1-up.len_at_least c.read-item.is) (sym c.if-is_unknown.true ∙ c.is_unknown.ensures v k)

pub returns-else-is_unknown : goal.returns-else-is_unknown
returns-else-is_unknown g t c = λ v k.
    unknown_later _ v c.args.pos c.args.reads.now _ c.read-item.result _ (split_first c.args.reads.now c.read-item.result c.in-len1-up.len_at_least c.read-item.is) (sym c.if-is_unknown.false ∙ c.is_unknown.ensures v k) (c.unknown.ensures v k)
