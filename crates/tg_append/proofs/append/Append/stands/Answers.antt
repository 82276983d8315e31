use Rattle.std.proofs.Common.{◌∙◌, ◌<◌, sym, ap, subst}
use Rattle.tg_base.specs.Layouts.{Layout}
use Rattle.tg_protocol.specs.Appending.{AppendTurn, Asking}
use Rattle.tg_append.specs.Appends.{asking, by_append}
use Rattle.tg_append.proofs.Turned.{later_learns}
use Rattle.tg_append.proofs.append.Append.stands.Goals as goal

pub returns-then-epoch-proj-clause-turn : goal.returns-then-epoch-proj-clause-turn
returns-then-epoch-proj-clause-turn c =
    let p = c.args.proj.now in
    let n = c.args.rids.now.next in
    let later = subst (λ (q : Layout). q.epoch < c.args.epoch) c.proj.view_is c.if-epoch-proj.true in
    c.learn.ensures p n (Asking c.args.own) ∙ sym (ap (λ (t : AppendTurn). by_append p n t) (later_learns p c.args.epoch n (asking c.args.draft c.args.own) later))
