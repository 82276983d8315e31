-- Views that answer, judge, save and rescue.
use Rattle.std.specs.Prelude.{◌≡◌, ℕ, ◌+◌, ◌≤◌, true, List, Some, None, Contains}
use Rattle.tg_base.specs.declared.ids.Oid.{Oid}
use Rattle.tg_entry.specs.declared.entry.Entry.{Entry}
use Rattle.tg_kind.specs.Meaning.{Meaning}
use Rattle.tg_model.specs.declared.play.PlayEnd.TheVariants.{Played}
use Rattle.tg_protocol.specs.Entries.{is_commit}
use Rattle.tg_protocol.specs.Views.{Entries, Base, View, Play, base_of, state_of, fate_of, view_start, play}
use Rattle.tg_protocol.specs.Checkpoints.{TrimPoints, view_bases}
use Rattle.tg_law_replies.specs.Plays.Sound.{IsSound}
use Rattle.tg_law_replies.specs.History.Logs.{state_below}
use Rattle.tg_law_replies.specs.Views.Views.{IsTrueView, AreTrueDecisions, CanJudge}

module _ (m : Meaning) (objects : List Oid) (es : Entries) where
  -- a true view stands at a position, and has an object with a base no further
  pub record IsTrueAt (v : View m) (t : ℕ) (o : Oid) : Type 0 where
    pub so : IsTrueView m objects es v
    pub stands : v.upto ≡ t
    pub based : (s : m.state) → state_of m v o ≡ Some s → (b : Base m) × (base_of m v o ≡ Some b) × (b.upto ≤ t)

  -- a true view can judge a record
  pub record IsJudge (v : View m) (own : Entries) (p : ℕ) (e : Entry) : Type 0 where
    pub so : IsTrueView m objects es v
    pub decisions : AreTrueDecisions m objects es own
    pub here : Contains es (p, e)
    pub commit : is_commit e ≡ true
    pub can : CanJudge m v own p e

  -- a true view that saves an object
  pub record IsSaver (v : View m) (o : Oid) (t : ℕ) : Type 0 where
    pub so : IsTrueView m objects es v
    pub sound : IsSound m v
    pub stands : v.upto ≡ t
    pub base : Base m
    pub hosted : base_of m v o ≡ Some base
    pub low : base.upto ≤ t
    pub loads : m.load o (m.save (state_below m objects es t o)) ≡ Some (state_below m objects es t o)

  abbrev pub rescuing : Entries → TrimPoints → List Oid → List Oid → ℕ → Play m
  rescuing own gone oids os p = play m (view_start m (view_bases m own gone os oids)) own (p + 1)

  -- the view of a rescue is true, and judges the record
  pub record IsRescuer (own : Entries) (gone : TrimPoints) (oids os : List Oid) (p : ℕ) (e : Entry) : Type 0 where
    pub only : (q : ℕ) (d : Entry) → Contains own (q, d) → Contains es (q, d)
    pub decisions : AreTrueDecisions m objects es own
    pub so : IsTrueView m objects es (rescuing own gone oids os p).view
    pub judge : (t : ℕ) → (rescuing own gone oids os p).came ≡ Played t → fate_of m (rescuing own gone oids os p).view p ≡ None → IsJudge (rescuing own gone oids os p).view own p e
