use Rattle.std.proofs.Common.{◌≡◌, length, arith}
use Rattle.tg_play.proofs.Splitting.{split_first, split_none}
use Rattle.tg_play.proofs.Reading.{changed_none, changed_first, changed_later}
use Rattle.tg_play.proofs.reads.+is_changed.Goals as goal

pub returns-in-empty : goal.returns-in-empty
returns-in-empty g t c = λ v k.
    let none : length c.args.reads.now ≡ 0 = omega arith in
    changed_none _ v c.args.pos c.args.reads.now (split_none c.args.reads.now none)

pub returns-then-version_at-read : goal.returns-then-version_at-read
returns-then-version_at-read g t c = λ v k.
    changed_first _ v c.args.pos c.args.reads.now _ c.read-item.result _ (split_first c.args.reads.now c.read-item.result c.in-len1-up.len_at_least c.read-item.is) (c.version_at.ensures v k) c.if-version_at-read.true

pub returns-else-version_at-read : goal.returns-else-version_at-read
returns-else-version_at-read g t c = λ v k.
    changed_later _ v c.args.pos c.args.reads.now _ c.read-item.result _ _ (split_first c.args.reads.now c.read-item.result c.in-len1-up.len_at_least c.read-item.is) (c.version_at.ensures v k) c.if-version_at-read.false (c.is_changed.ensures v k)
