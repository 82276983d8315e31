-- What a run tells of outcomes.
use Rattle.std.specs.Prelude.{◌≡◌, ◌≢◌, ◌⊎◌, ℕ, true, false, Bool, [], Some, Contains}
use Rattle.tg_base.specs.declared.ids.Oid.{Oid}
use Rattle.tg_base.specs.declared.marks.Part.{Part}
use Rattle.tg_kind.specs.Meaning.{Meaning}
use Rattle.tg_model.specs.declared.trace.What.TheVariants as told
use Rattle.tg_model.specs.Traces.{Tells, puts_of}
use Rattle.tg_protocol.specs.Views.{View, fate_of}
use Rattle.tg_protocol.specs.Worlds.{World, Told, client, trace}
use Rattle.tg_protocol.specs.Alike.{HasCommit, Outcome}

-- What a run tells of outcomes, and what its views have of them, is so. One that is unsure names its own record, or a
-- further one that is there.
pub record TellsOutcomes (m : Meaning) (w : World m) : Type 0 where
  pub kept : (k p : ℕ) (v : View m) (b : Bool) → (client m w k).view ≡ Some v → fate_of m v p ≡ Some b → Outcome m w p b
  pub fate : (t : Told m) (p : ℕ) (b : Bool) → Contains w.told t → t.mark.what ≡ told.Fate p (Some b) → Outcome m w p b
  pub decided : (t : Told m) (p : ℕ) (b : Bool) → Contains w.told t → t.mark.what ≡ told.Decided p (Some b) → Outcome m w p b
  pub rescued : (t : Told m) (p : ℕ) (b : Bool) → Contains w.told t → t.mark.what ≡ told.Rescued p (Some b) → Outcome m w p b
  pub committed : (k x p : ℕ) → Tells m (trace m w) k x (told.Committed p) → puts_of m (trace m w) k x ≢ [] → Outcome m w p true
  pub aborted : (t : Told m) (p : ℕ) (o : Oid) (part : Part) (seen now : ℕ) → Contains w.told t → t.mark.what ≡ told.Aborted p o part seen now → Outcome m w p false
  pub unsure : (t : Told m) (p q : ℕ) → Contains w.told t → t.mark.what ≡ told.Unsure p q → (q ≡ p) ⊎ HasCommit m w q
