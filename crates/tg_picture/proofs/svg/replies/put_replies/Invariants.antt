use Rattle.std.proofs.Common.{◌≡◌, ◌++◌, drop}
use Rattle.tg_picture.specs.Elements.{replies_text}
use Rattle.tg_picture.proofs.svg.replies.put_replies.Given as goal

-- what is put, and the replies to come
abbrev pub invariant-loop-reply : goal.invariant-loop-reply
invariant-loop-reply l = l.out ++ replies_text l.places l.step l.below (drop l.reply-index l.replies) ≡ l.initial.out ++ replies_text l.places 0 0 l.replies
