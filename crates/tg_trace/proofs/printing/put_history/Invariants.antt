use Rattle.std.proofs.Common.{◌≡◌, ◌++◌, take}
use Rattle.std.specs.List.{flat_map}
use Rattle.tg_trace.specs.Transcripts.{entry_text}
use Rattle.tg_trace.proofs.printing.put_history.Given as goal

abbrev pub invariant-loop-done : goal.invariant-loop-done
invariant-loop-done l = l.out ≡ l.initial.out ++ flat_map entry_text (take l.done-index l.history)
