use Rattle.std.proofs.Common.{◌≡◌, ◌++◌, take}
use Rattle.std.specs.List.{flat_map}
use Rattle.tg_trace.specs.Transcripts.{reply_text}
use Rattle.tg_trace.proofs.printing.put_trace.Given as goal

abbrev pub invariant-loop-mark : goal.invariant-loop-mark
invariant-loop-mark l = l.out ≡ l.initial.out ++ flat_map reply_text (take l.mark-index l.trace)
