use Rattle.std.proofs.Common.{◌≤◌, Bool, ◌∙◌, sym, ap, subst}
use Rattle.tg_base.specs.Layouts.{Layout}
use Rattle.tg_protocol.specs.Cells.{probe}
use Rattle.tg_protocol.specs.Syncing.{Answer, confirm_by}
use Rattle.tg_append.specs.Syncs.{sync_at, by_sync}
use Rattle.tg_append.proofs.Turned.{if_ok_by, not_below}
use Rattle.tg_append.proofs.sync.Sync.confirm.Goals as goal

pub returns-clause-turn : goal.returns-clause-turn
unfolding probe
returns-clause-turn c =
    let p = c.args.proj.now in
    let n = c.args.rids.now.next in
    let a = c.args.answer in
    let low : a.tail ≤ p.start = subst (λ (z : Answer). z.tail ≤ p.start) c.answer.view_is (subst (λ (q : Layout). c.answer.inside.tail ≤ q.start) c.proj.view_is c.if-answer-proj.false) in
    if_ok_by c.probe.result _ _ (λ t h w. h w ∙ ap (λ (b : Bool). by_sync p n (confirm_by p (sync_at c.args.oids w) a n b)) (sym (not_below p.start a.tail low))) c.probe.ensures.turn
