use Rattle.std.proofs.Common.{length}
use Rattle.tg_play.proofs.Means.{means}
use Rattle.tg_world.specs.Kept.{told_all}
use Rattle.tg_world.proofs.Replies.{So}
use Rattle.tg_world.proofs.told.tell.Given as goal

abbrev pub invariant-loop-noted : goal.invariant-loop-noted
invariant-loop-noted g l =
    let m = means g.K.Kind g.K.Registry in
    So m l.event l.client l.noted (told_all m l.initial.told.items l.initial.told_noted.items) l.initial.notes l.notes l.told.items l.told_noted.items

abbrev pub decreases-loop-noted : goal.decreases-loop-noted
decreases-loop-noted g l = length l.notes
