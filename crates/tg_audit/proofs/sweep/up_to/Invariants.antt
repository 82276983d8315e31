use Rattle.std.proofs.Common.{◌≡◌, ℕ, take}
use Rattle.tg_kind.specs.Meaning.{Meaning}
use Rattle.tg_base.specs.declared.ids.Oid.{Oid}
use Rattle.tg_model.specs.Stores.{History}
use Rattle.tg_audit.specs.Sweeps.{after, EndsBelow}
use Rattle.tg_audit.proofs.Means.{means}
use Rattle.tg_audit.proofs.sweep.up_to.Given as goal

pub record Swept (m : Meaning) (h : History m) (o : Oid) (bound : ℕ) (s : m.state) (n : ℕ) (t : m.state) (k : ℕ) : Type 0 where
  pub state : (x : m.state) → s ≡ after m o x (take n h) → t ≡ after m o x (take k h)
  pub below : EndsBelow m h k bound

abbrev pub invariant-loop-place : goal.invariant-loop-place
invariant-loop-place g l = Swept (means g.K.Kind g.K.Registry) l.history l.oid l.before l.fn.state l.next l.state l.place
