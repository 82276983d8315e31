use Rattle.tg_picture.proofs.Quiet.{quiet_found}
use Rattle.tg_picture.proofs.fences.decision_at.Goals as goal

pub returns-then-is_quiet : goal.returns-then-is_quiet
returns-then-is_quiet c =
    let e = c.args.epochs.now in
    quiet_found e.first.now e.layouts e.packets.now c.args.steps.now c.args.at c.sent_before-before.result c.sent_at-after.result c.is_quiet.result
    c.sent_before-before.ensures c.sent_at-after.ensures c.is_quiet.ensures c.if-is_quiet.true
