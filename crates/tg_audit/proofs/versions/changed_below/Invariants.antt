use Rattle.std.proofs.Common.{◌≡◌, ℕ, ◌+◌, ◌<◌, ◌≤◌, length, get_or, false}
use Rattle.tg_model.specs.Kinds.{DoneOf}
use Rattle.tg_model.specs.Stores.{changes}
use Rattle.tg_audit.proofs.Means.{means}
use Rattle.tg_audit.proofs.versions.changed_below.Given as goal

-- the last entries so far don't change the part
abbrev pub invariant-loop-back : goal.invariant-loop-back
invariant-loop-back g l =
    (i : ℕ) (d : DoneOf (means g.K.Kind g.K.Registry)) → l.most ≤ i + l.back → i < l.most → d ≡ get_or l.history i d → i < length l.history
    → changes (means g.K.Kind g.K.Registry) d l.oid l.part ≡ false
