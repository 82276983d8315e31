use Rattle.std.proofs.Common.{◌<◌, ◌^◌, ◌≡◌, ◌∙◌, sym, ap, subst, arith}
use Rattle.tg_base.specs.Layouts.{Layout}
use Rattle.tg_protocol.specs.Trimming.{Sealing, CopyTurn}
use Rattle.tg_copy.specs.Turns.{by_copy}
use Rattle.tg_copy.specs.Copies.{copying}
use Rattle.tg_copy.proofs.Gones.{none_gone}
use Rattle.tg_copy.proofs.Turned.{if_ok_by, seal_begins}
use Rattle.tg_copy.proofs.copy_range.CopyRange.sealed.Goals as goal

pub returns-then-epoch-proj-clause-turn : goal.returns-then-epoch-proj-clause-turn
returns-then-epoch-proj-clause-turn c =
    let p = c.args.proj.now in
    let n = c.args.rids.now.next in
    let same = c.if-epoch-proj.true ∙ ap (λ (q : Layout). q.epoch) c.proj.view_is in
    let low : c.args.high < 2 ^ 62 = omega (arith, c.if-high-ge-FAR.false) in
    if_ok_by c.go_on.result _ _ (λ t h u. h (Sealing c.args.own)
    ∙ none_gone p (copying c.args.join (Sealing c.args.own)) 0 n n
    ∙ sym (ap (λ (x : CopyTurn). by_copy p n x) (seal_begins p c.args.join c.args.own c.args.ask u c.args.epoch c.args.high n c.in-Seal.is low same))) c.go_on.ensures.turn
