use Rattle.std.proofs.Common.{◌≡◌, ℕ, List, drop}
use Rattle.tg_entry.specs.declared.entry.Entry.{Entry}
use Rattle.tg_play.specs.Kept.{decisions_kept}
use Rattle.tg_protocol.specs.Checkpoints.{open_decision}
use Rattle.tg_ckpt.proofs.forgetting.first_open.Given as goal

abbrev pub invariant-loop-placed : goal.invariant-loop-placed
invariant-loop-placed l =
    (es : List (ℕ × Entry)) → l.decisions.entries ≡ decisions_kept es → open_decision es (drop l.placed-index l.entries) l.oid l.mark ≡ open_decision es l.entries l.oid l.mark
