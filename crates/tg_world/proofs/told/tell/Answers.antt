use Rattle.std.proofs.Common.{refl}
use Rattle.tg_play.proofs.Means.{means}
use Rattle.tg_world.specs.Kept.{told_all}
use Rattle.tg_world.proofs.Replies.{told_next, told_end, none_left}
use Rattle.tg_world.proofs.told.tell.Goals as goal

pub loop-noted-init : goal.loop-noted-init
loop-noted-init g c = record { told = refl; many = c.requires }

pub loop-noted-preserved : goal.loop-noted-preserved
loop-noted-preserved g c =
    let m = means g.K.Kind g.K.Registry in
    told_next m c.args.event c.args.client c.args.noted (told_all m c.args.told.now.items c.args.told_noted.now.items) c.args.notes c.loop-noted.notes c.remove-tx.new.self c.loop-noted.told.items c.push.new.self.items c.loop-noted.told_noted.items c.push-in-loop-noted.new.self.items c.remove-tx.result
    c.loop-noted.invariant c.remove-tx.ensures.value c.remove-tx.ensures.rest c.in_ok-push.ensures.items c.in_ok-push-2.ensures.items

pub returns-clause-told : goal.returns-clause-told
returns-clause-told g c =
    let m = means g.K.Kind g.K.Registry in
    told_end m c.args.event c.args.client c.args.noted (told_all m c.args.told.now.items c.args.told_noted.now.items) c.args.notes c.loop-noted.notes c.loop-noted.told.items c.loop-noted.told_noted.items c.loop-noted.invariant (none_left c.loop-noted.notes c.is_empty.result c.is_empty.ensures c.loop-noted-test.false)

pub returns-clause-many : goal.returns-clause-many
returns-clause-many g c = c.loop-noted.invariant.many
