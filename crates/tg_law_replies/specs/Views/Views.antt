-- Views that are true of a log: the states, the versions and the fates that they tell are the log's.
use Rattle.std.specs.Prelude.{◌≡◌, ◌≢◌, ℕ, ◌<◌, ◌≤◌, max, Bool, true, List, [], Some, None, Contains}
use Rattle.tg_base.specs.declared.ids.Oid.{Oid}
use Rattle.tg_base.specs.declared.marks.Part.{Part}
use Rattle.tg_base.specs.declared.marks.Part.TheVariants.{All}
use Rattle.tg_base.specs.declared.marks.ReadMark.{ReadMark}
use Rattle.tg_entry.specs.declared.entry.WriteOp.{WriteOp}
use Rattle.tg_entry.specs.declared.entry.Entry.{Entry}
use Rattle.tg_kind.specs.Meaning.{Meaning}
use Rattle.tg_entry.specs.Needs.{reads_of, writes_of}
use Rattle.tg_protocol.specs.Entries.{is_commit, lists}
use Rattle.tg_protocol.specs.Versions.{Changed, version_in, version_of}
use Rattle.tg_protocol.specs.Views.{Entries, decision_in, unknown_in, Base, View, base_of, state_of, view_version, fate_of}
use Rattle.tg_law_replies.specs.Plays.Sound.{IsRising}
use Rattle.tg_law_replies.specs.History.Logs.{HasOutcome, state_below, version_below}

module _ (m : Meaning) (objects : List Oid) (es : Entries) where
  -- the log's state and versions of an object below where a base ends
  pub record IsTrueBase (o : Oid) (b : Base m) : Type 0 where
    pub plain : b.versions.noted ≡ []
    pub state : b.state ≡ state_below m objects es b.upto o
    pub versions : (k : Part) → version_of b.versions o k ≡ version_below m objects es b.upto o k

  -- what a checkpoint tells of an object is the log's: its bytes, and the version of each part
  pub record IsTrueCheckpoint (o : Oid) (upto version whole : ℕ) (keys : List (Part × ℕ)) (bytes : List ℕ) : Type 0 where
    pub saved : bytes ≡ m.save (state_below m objects es upto o)
    pub version_all : version ≡ version_below m objects es upto o All
    pub parts : (k : Part) → version_below m objects es upto o k ≡ version_in (record { oid = o; version = version; whole = whole; keys = keys }) k

  -- how far a view has an object: as far as it was played, and no less than its base
  abbrev pub reach : View m → Base m → ℕ
  reach v b = max v.upto b.upto

  pub record IsTrueOf (v : View m) (o : Oid) (b : Base m) : Type 0 where
    pub base : IsTrueBase o b
    pub state : state_of m v o ≡ Some (state_below m objects es (reach v b) o)
    pub versions : (k : Part) → view_version m v o k ≡ version_below m objects es (reach v b) o k

  -- a record that writes a hosted object, at or past its base, below where the view stands
  pub record IsPlayed (v : View m) (p : ℕ) : Type 0 where
    pub entry : Entry
    pub here : Contains es (p, entry)
    pub commit : is_commit entry ≡ true
    pub write : WriteOp
    pub writes : Contains (writes_of entry) write
    pub base : Base m
    pub hosted : base_of m v write.oid ≡ Some base
    pub after : base.upto ≤ p
    pub before : p < v.upto

  pub record IsTrueView (v : View m) : Type 0 where
    pub told : (o : Oid) (b : Base m) → base_of m v o ≡ Some b → IsTrueOf v o b
    pub fates : (p : ℕ) (b : Bool) → fate_of m v p ≡ Some b → HasOutcome m objects es p b
    pub settled : (p : ℕ) → IsPlayed v p → (b : Bool) × (fate_of m v p ≡ Some b)

  -- what the decision records among some entries say is so
  abbrev pub AreTrueDecisions : Entries → Type 0
  AreTrueDecisions own = (p : ℕ) (b : Bool) → decision_in own p ≡ Some b → HasOutcome m objects es p b

  -- what was read has changed: another version at a position than the one that was read
  pub record IsChanged (p : ℕ) (rs : List ReadMark) (x : Changed) : Type 0 where
    pub read : Contains rs x.read
    pub now : x.now ≡ version_below m objects es p x.read.oid x.read.part
    pub differs : x.now ≢ x.read.version

  -- entries of the log, and among them all that list a hosted object, from where the view has it up to a position
  pub record AreEntriesFor (v : View m) (own : Entries) (upto : ℕ) : Type 0 where
    pub rising : IsRising own
    pub only : (p : ℕ) (e : Entry) → Contains own (p, e) → Contains es (p, e)
    pub all : (o : Oid) (b : Base m) (p : ℕ) (e : Entry) → base_of m v o ≡ Some b → Contains es (p, e) → lists e o ≡ true → reach v b ≤ p → p < upto → Contains own (p, e)

module _ (m : Meaning) where
  -- a view stands at a position, or tells nothing later of what was read
  abbrev pub StandsAt : View m → ℕ → List ReadMark → Type 0
  StandsAt v p rs = (r : ReadMark) → Contains rs r → (b : Base m) → base_of m v r.oid ≡ Some b → b.upto ≤ p → v.upto ≡ p

  -- it can judge a record by its versions, where no decision record does and none of them is unknown
  abbrev pub CanJudge : View m → Entries → ℕ → Entry → Type 0
  CanJudge v own p e = decision_in own p ≡ None → unknown_in m v (reads_of e) p ≡ None → StandsAt v p (reads_of e)
