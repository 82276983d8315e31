-- What holds of every view.
use Rattle.std.specs.Prelude.{◌≡◌, ℕ, ◌≤◌, Some, List}
use Rattle.tg_base.specs.declared.ids.Oid.{Oid}
use Rattle.tg_base.specs.declared.marks.Part.{Part}
use Rattle.tg_kind.specs.Meaning.{Meaning}
use Rattle.tg_model.specs.declared.play.PlayEnd.TheVariants.{Played}
use Rattle.tg_protocol.specs.Versions.{version_of}
use Rattle.tg_protocol.specs.Views.{Entries, Base, View, view_start, view_version, state_of, base_of, play}
use Rattle.tg_protocol.specs.Checkpoints.{checkpoint, base_at}
use Rattle.tg_law_replies.specs.Plays.Sound.{IsRising, AreBases, IsSound}

-- two plays, the first of which isn't blocked, are one
abbrev pub PlaysJoin : Meaning → Type 0
PlaysJoin m = (es : Entries) (v : View m) (a b c : ℕ) → IsRising es → a ≤ b → (play m v es a).came ≡ Played c →
    play m (play m v es a).view es b ≡ play m v es b

abbrev pub StartsSound : Meaning → Type 0
StartsSound m = (bases : List (Base m)) → AreBases m bases → IsSound m (view_start m bases)

abbrev pub PlaysKeep : Meaning → Type 0
PlaysKeep m = (es : Entries) (v : View m) (upto : ℕ) → IsRising es → IsSound m v → IsSound m (play m v es upto).view

-- the same version of what is looked at, and so the same answer
abbrev pub AnswersStay : Meaning → Type 0
AnswersStay m = (es : Entries) (v : View m) (upto : ℕ) (o : Oid) (q : m.ask) (s t : m.state) → IsRising es → IsSound m v →
    state_of m v o ≡ Some s → state_of m (play m v es upto).view o ≡ Some t →
    view_version m v o (m.look q) ≡ view_version m (play m v es upto).view o (m.look q) →
    m.answers s q ≡ m.answers t q

-- what is loaded of a checkpoint is what the view has
pub record IsKept (m : Meaning) (v : View m) (o : Oid) (s : m.state) (c : Base m) : Type 0 where
  pub oid : c.oid ≡ o
  pub state : c.state ≡ s
  pub upto : c.upto ≡ v.upto
  pub versions : (k : Part) → version_of c.versions o k ≡ view_version m v o k

-- of an object whose base isn't past what was played, and whose saved bytes load
abbrev pub CheckpointsKeep : Meaning → Type 0
CheckpointsKeep m = (v : View m) (o : Oid) (b : Base m) (s : m.state) (client number : ℕ) → IsSound m v →
    base_of m v o ≡ Some b → b.upto ≤ v.upto → state_of m v o ≡ Some s → m.load o (m.save s) ≡ Some s →
    (c : Base m) × (base_at m o (checkpoint m v o v.upto client number) ≡ Some c) × IsKept m v o s c
