use Rattle.std.proofs.Common.{◌≡◌, ◌<◌, ℕ, length, subst, sym}
use Rattle.tg_tree.specs.Paths.{last_slash}
use Rattle.tg_tree.proofs.Loops.{last_start, last_end}
use Rattle.tg_tree.proofs.Walks.{last_within}
use Rattle.tg_tree.proofs.key.last_slash.Goals as goal

pub loop-place-init : goal.loop-place-init
loop-place-init c = last_start c.args.bytes.now

pub returns-clause-within : goal.returns-clause-within
returns-clause-within c = λ lt.
    let is : c.loop-place.last ≡ last_slash c.args.bytes.now = last_end c.args.bytes.now c.loop-place.place c.loop-place.last (last_slash c.args.bytes.now) c.loop-place-test.false c.loop-place.invariant in
    subst (λ (n : ℕ). n < length c.args.bytes.now) (sym is) (last_within c.args.bytes.now lt)
