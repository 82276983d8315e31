use Rattle.std.proofs.Common.{◌∙◌, ◌<◌, sym, ap, subst}
use Rattle.tg_base.specs.Layouts.{Layout}
use Rattle.tg_protocol.specs.Syncing.{SyncTurn, Checking}
use Rattle.tg_append.specs.Syncs.{checking, by_sync}
use Rattle.tg_append.proofs.Turned.{later_learns}
use Rattle.tg_append.proofs.sync.Sync.stands.Goals as goal

pub returns-then-epoch-proj-clause-turn : goal.returns-then-epoch-proj-clause-turn
returns-then-epoch-proj-clause-turn c =
    let p = c.args.proj.now in
    let n = c.args.rids.now.next in
    let later = subst (λ (q : Layout). q.epoch < c.args.epoch) c.proj.view_is c.if-epoch-proj.true in
    c.learn.ensures p n (Checking c.args.own) ∙ sym (ap (λ (t : SyncTurn). by_sync p n t) (later_learns p c.args.epoch n (checking c.args.oids c.args.own) later))
