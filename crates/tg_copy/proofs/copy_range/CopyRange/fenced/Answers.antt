use Rattle.std.proofs.Common.{◌<◌, ◌∙◌, sym, ap, subst}
use Rattle.tg_base.specs.Layouts.{Layout}
use Rattle.tg_protocol.specs.Trimming.{CopyTurn}
use Rattle.tg_copy.specs.Turns.{by_copy}
use Rattle.tg_copy.specs.Copies.{asked}
use Rattle.tg_copy.proofs.Turned.{fence_learns}
use Rattle.tg_copy.proofs.copy_range.CopyRange.fenced.Goals as goal

pub returns : goal.returns
returns c = λ n u.
    let p = c.args.proj.now in
    let later = subst (λ (q : Layout). q.epoch < c.args.epoch) c.proj.view_is c.if-epoch-proj.false in
    c.learn.ensures p n (asked c.args.own c.args.ask) ∙ sym (ap (λ (t : CopyTurn). by_copy p n t) (fence_learns p c.args.join c.args.own c.args.ask u c.args.epoch n later))
