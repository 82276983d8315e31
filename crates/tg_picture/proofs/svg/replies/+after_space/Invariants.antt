use Rattle.std.proofs.Common.{length}
use Rattle.tg_picture.proofs.svg.replies.+after_space.Given as goal

-- each letter that is passed makes the text shorter
abbrev pub decreases-after_space : goal.decreases-after_space
decreases-after_space l = length l.text.now
