use Rattle.std.proofs.Common.{◌≡◌}
use Rattle.tg_picture.specs.Replies.{told_from}
use Rattle.tg_picture.proofs.telling.told_from.Given as goal

abbrev pub invariant-loop-reply : goal.invariant-loop-reply
invariant-loop-reply l = l.found ≡ told_from l.steps l.low l.reply
