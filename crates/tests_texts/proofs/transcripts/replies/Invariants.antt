use Rattle.std.proofs.Common.{◌≡◌, take}
use Rattle.std.specs.List.{flat_map}
use Rattle.tg_trace.specs.Transcripts.{reply_text}
use Rattle.tests_texts.proofs.transcripts.replies.Given as goal

abbrev pub invariant-loop-mark : goal.invariant-loop-mark
invariant-loop-mark l = l.out ≡ flat_map reply_text (take l.mark-index l.trace)
