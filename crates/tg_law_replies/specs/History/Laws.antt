-- What holds of every log.
use Rattle.std.specs.Prelude.{◌≡◌, ◌⊎◌, ℕ, ◌≤◌, List, []}
use Rattle.tg_base.specs.declared.ids.Oid.{Oid}
use Rattle.tg_base.specs.declared.marks.Part.{Part}
use Rattle.tg_kind.specs.Meaning.{Meaning}
use Rattle.tg_model.specs.Stores.{changed}
use Rattle.tg_protocol.specs.Views.{Entries}
use Rattle.tg_protocol.specs.Logs.{history_after}
use Rattle.tg_law_replies.specs.Plays.Sound.{IsRising}
use Rattle.tg_law_replies.specs.History.Logs.{AreSpelled, state_below, version_below, HasChange}

-- no version is above its position
abbrev pub VersionsBelow : Meaning → Type 0
VersionsBelow m = (objects : List Oid) (es : Entries) (n : ℕ) (o : Oid) (k : Part) → IsRising es → version_below m objects es n o k ≤ n

-- from one position to a later one a version stays, or a committed change made it
abbrev pub VersionsChange : Meaning → Type 0
VersionsChange m = (objects : List Oid) (es : Entries) (a b : ℕ) (o : Oid) (k : Part) → IsRising es → a ≤ b →
    (version_below m objects es b o k ≡ version_below m objects es a o k) ⊎ HasChange m objects es o k a b (version_below m objects es b o k)

-- where the version of what is looked at stays, the plain machine's answer stays
abbrev pub LogAnswersStay : Meaning → Type 0
LogAnswersStay m = (objects : List Oid) (es : Entries) (a b : ℕ) (o : Oid) (q : m.ask) → IsRising es → a ≤ b →
    version_below m objects es b o (m.look q) ≡ version_below m objects es a o (m.look q) →
    m.answers (state_below m objects es b o) q ≡ m.answers (state_below m objects es a o) q

-- where every write spells an op, versions are the places of the history's changes
abbrev pub VersionsAreChanges : Meaning → Type 0
VersionsAreChanges m = (objects : List Oid) (es : Entries) (n : ℕ) (o : Oid) (k : Part) → IsRising es → AreSpelled m es →
    version_below m objects es n o k ≡ changed m (history_after m [] es) o k n
