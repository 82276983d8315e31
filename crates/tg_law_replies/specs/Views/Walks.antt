-- What holds of views that begin anew, over entries that walks of streams have found.
use Rattle.std.specs.Prelude.{◌≡◌, ℕ, ◌<◌, ◌≤◌, List, Some, None, Contains}
use Rattle.tg_base.specs.declared.ids.Oid.{Oid}
use Rattle.tg_entry.specs.declared.entry.Entry.{Entry}
use Rattle.tg_kind.specs.Meaning.{Meaning}
use Rattle.tg_model.specs.declared.play.PlayEnd.TheVariants.{Played}
use Rattle.tg_protocol.specs.Views.{Entries, Base, View, Play, fate_of, view_start, play}
use Rattle.tg_protocol.specs.Checkpoints.{TrimPoints, base_at, view_bases}
use Rattle.tg_protocol.specs.Past.{commit_at, PastView, past_at}
use Rattle.tg_law_replies.specs.Plays.Sound.{IsRising}
use Rattle.tg_law_replies.specs.History.Logs.{AreListed}
use Rattle.tg_law_replies.specs.Views.Views.{IsTrueBase, IsTrueView, AreTrueDecisions, CanJudge}
use Rattle.tg_law_replies.specs.Views.Looking.{IsTrueAt, IsRescuer}
use Rattle.tg_law_replies.specs.Views.Exact.{AreExact, LeavesNone, AreWriting}

-- entries that the walks of some streams found in a log, whose checkpoints and decision records are true of it
pub record AreTrueFinds (m : Meaning) (objects : List Oid) (es own : Entries) (gone : TrimPoints) (oids : List Oid) (tail : ℕ) : Type 0 where
  pub exact : AreExact m es own gone oids tail
  pub checkpoints : (p : ℕ) (e : Entry) (o : Oid) (b : Base m) → Contains own (p, e) → base_at m o e ≡ Some b → IsTrueBase m objects es o b
  pub decisions : AreTrueDecisions m objects es own

-- a new view of the walked streams is true, however far below the tail it plays
abbrev pub NewViewsTrue : Meaning → Type 0
NewViewsTrue m = (objects oids : List Oid) (es own : Entries) (gone : TrimPoints) (tail upto : ℕ) → IsRising es → AreListed es →
    AreTrueFinds m objects es own gone oids tail → upto ≤ tail →
    IsTrueView m objects es (play m (view_start m (view_bases m own gone objects oids)) own upto).view

-- the view of a past position that isn't ahead of the tail is true and stands there, where its play came to its end
abbrev pub PastViewsTrue : Meaning → Type 0
PastViewsTrue m = (objects oids : List Oid) (es own : Entries) (gone : TrimPoints) (tail p t : ℕ) (o : Oid) (v : Play m) → IsRising es → AreListed es →
    AreTrueFinds m objects es own gone oids tail → p ≤ tail → past_at m own gone oids objects o p ≡ PastView v → v.came ≡ Played t →
    IsTrueAt m objects es v.view p o

-- the view of a rescue is true, and can judge the record that it was made for
abbrev pub RescuesJudge : Meaning → Type 0
RescuesJudge m = (objects oids : List Oid) (es own : Entries) (gone : TrimPoints) (tail p : ℕ) (e : Entry) → IsRising es → AreListed es →
    AreTrueFinds m objects es own gone oids tail → p < tail → commit_at own p ≡ Some e →
    IsRescuer m objects es own gone oids objects p e

-- a true view that has played past a record, and has no fate of it, can judge it
abbrev pub ViewsJudge : Meaning → Type 0
ViewsJudge m = (objects : List Oid) (es own : Entries) (v : View m) (upto p : ℕ) (e : Entry) → IsRising own →
    ((q : ℕ) (d : Entry) → Contains own (q, d) → Contains es (q, d)) → IsTrueView m objects es v → AreWriting own → LeavesNone m v own →
    commit_at own p ≡ Some e → p < (play m v own upto).view.upto → fate_of m (play m v own upto).view p ≡ None →
    CanJudge m (play m v own upto).view own p e
