-- What holds of a view over the entries of a log.
use Rattle.std.specs.Prelude.{◌≡◌, ℕ, ◌≤◌, true, false, List, Some, None, Contains}
use Rattle.tg_base.specs.declared.ids.Oid.{Oid}
use Rattle.tg_base.specs.declared.marks.ReadMark.{ReadMark}
use Rattle.tg_entry.specs.declared.entry.Entry.{Entry}
use Rattle.tg_kind.specs.Meaning.{Meaning}
use Rattle.tg_protocol.specs.Entries.{is_commit}
use Rattle.tg_protocol.specs.Versions.{Changed}
use Rattle.tg_protocol.specs.Views.{Entries, Commits, Aborts, Base, View, base_of, view_start, fresh_base, unknown_in, changed_in, verdict, play}
use Rattle.tg_protocol.specs.Checkpoints.{checkpoint, base_at}
use Rattle.tg_law_replies.specs.Plays.Sound.{IsRising, IsSound, base_among}
use Rattle.tg_law_replies.specs.History.Logs.{state_below, AreListed, HasOutcome}
use Rattle.tg_law_replies.specs.Views.Views.{IsTrueBase, AreTrueDecisions, AreEntriesFor, IsTrueView, IsChanged, StandsAt, CanJudge}

-- a fresh base is true
abbrev pub FreshTrue : Meaning → Type 0
FreshTrue m = (objects : List Oid) (es : Entries) (o : Oid) → IsRising es → IsTrueBase m objects es o (fresh_base m objects o)

-- a view of true bases is true
abbrev pub StartsTrue : Meaning → Type 0
StartsTrue m = (objects : List Oid) (es : Entries) (bs : List (Base m)) → IsRising es → ((o : Oid) (b : Base m) → base_among m bs o ≡ Some b → IsTrueBase m objects es o b) →
    IsTrueView m objects es (view_start m bs)

-- a true view, played over entries of the log that lack none of its objects', stays true
abbrev pub PlaysTrue : Meaning → Type 0
PlaysTrue m = (objects : List Oid) (es own : Entries) (v : View m) (upto : ℕ) → IsRising es → AreListed es → AreTrueDecisions m objects es own →
    AreEntriesFor m objects es v own upto → IsTrueView m objects es v → IsTrueView m objects es (play m v own upto).view

-- what a true view says of a record that it can judge is its outcome
abbrev pub VerdictsTrue : Meaning → Type 0
VerdictsTrue m = (objects : List Oid) (es own : Entries) (v : View m) (p : ℕ) (e : Entry) → IsRising es → AreTrueDecisions m objects es own → IsTrueView m objects es v →
    Contains es (p, e) → is_commit e ≡ true → CanJudge m v own p e →
    (verdict m v own p e ≡ Commits → HasOutcome m objects es p true) × (verdict m v own p e ≡ Aborts → HasOutcome m objects es p false)

-- the read that it says has changed has done so
abbrev pub ChangesTrue : Meaning → Type 0
ChangesTrue m = (objects : List Oid) (es : Entries) (v : View m) (p : ℕ) (rs : List ReadMark) (x : Changed) → IsRising es → IsTrueView m objects es v → StandsAt m v p rs →
    unknown_in m v rs p ≡ None → changed_in m v rs p ≡ Some x → IsChanged m objects es p rs x

-- a checkpoint of a true view gives a true base
abbrev pub SavesTrue : Meaning → Type 0
SavesTrue m = (objects : List Oid) (es : Entries) (v : View m) (o : Oid) (b : Base m) (client number : ℕ) → IsRising es → IsSound m v → IsTrueView m objects es v →
    base_of m v o ≡ Some b → b.upto ≤ v.upto → m.load o (m.save (state_below m objects es v.upto o)) ≡ Some (state_below m objects es v.upto o) →
    (c : Base m) × (base_at m o (checkpoint m v o v.upto client number) ≡ Some c) × (c.upto ≡ v.upto) × IsTrueBase m objects es o c
