-- The directory's floor: what the laws of directories are, and what a floor says of each object.
use Rattle.std.specs.Prelude.{◌≡◌, ◌≢◌, ℕ, ◌<◌, ◌≤◌, true, Bool, List, Some, Contains}
use Rattle.tg_base.specs.declared.ids.Oid.{Oid}
use Rattle.tg_entry.specs.declared.entry.WriteOp.{WriteOp}
use Rattle.tg_entry.specs.declared.entry.Entry.{Entry}
use Rattle.tg_kind.specs.Meaning.{Meaning}
use Rattle.tg_protocol.specs.Words.{directory}
use Rattle.tg_entry.specs.Needs.{writes_of}
use Rattle.tg_protocol.specs.Entries.{lists}
use Rattle.tg_protocol.specs.Views.{Entries, Base}
use Rattle.tg_protocol.specs.Checkpoints.{base_at}
use Rattle.tg_law_replies.specs.Plays.Sound.{IsRising}
use Rattle.tg_law_replies.specs.History.Logs.{state_below, commits}
use Rattle.tg_law_replies.specs.History.Loading.{AreOpsOf}

-- What a directory is: each object has a mark, which an op that marks it sets; objects stay registered; the floor rises no higher than the mark of any object that is registered then.
-- An op is one that has a spelling: it marks only what has an object's number. (The op that marks another number says nothing of it.)
pub record IsDirectory (m : Meaning) (is_object : Oid → Bool) (is_op : m.op → Bool) : Type 0 where
  pub mark_of : m.state → Oid → ℕ
  pub first_floor : (os : List Oid) → m.floor (m.fresh directory os) ≡ 0
  pub first_listed : (os : List Oid) → m.registered (m.fresh directory os) directory ≡ true
  pub first_mark : (os : List Oid) (o : Oid) → mark_of (m.fresh directory os) o ≡ 0
  pub stays : (s : m.state) (op : m.op) (o : Oid) → m.registered s o ≡ true → m.registered (m.apply s op) o ≡ true
  pub marks : (s : m.state) (op : m.op) (o : Oid) → is_op op ≡ true → mark_of (m.apply s op) o ≢ mark_of s o → (op ≡ m.mark_op o (mark_of (m.apply s op) o)) × (is_object o ≡ true)
  pub never_falls : (s : m.state) (op : m.op) → m.floor s ≤ m.floor (m.apply s op)
  pub rises : (s : m.state) (op : m.op) (o : Oid) → m.floor (m.apply s op) ≢ m.floor s → m.registered (m.apply s op) o ≡ true → m.floor (m.apply s op) ≤ mark_of (m.apply s op) o

module _ (m : Meaning) (is_object : Oid → Bool) (objects : List Oid) (es : Entries) where
  -- a committed mark of an object, at or past a number, below a position
  pub record HasMark (o : Oid) (least high : ℕ) : Type 0 where
    pub at : ℕ
    pub entry : Entry
    pub write : WriteOp
    pub mark : ℕ
    pub here : Contains es (at, entry)
    pub before : at < high
    pub commit : commits m objects es at entry ≡ true
    pub writes : Contains (writes_of entry) write
    pub to : write.oid ≡ directory
    pub is : m.read directory write.op ≡ Some (m.mark_op o mark)
    pub object : is_object o ≡ true
    pub reaches : least ≤ mark

  -- a checkpoint of an object that reaches a number, below a position
  pub record IsCheckpointed (o : Oid) (least high : ℕ) : Type 0 where
    pub at : ℕ
    pub entry : Entry
    pub base : Base m
    pub here : Contains es (at, entry)
    pub before : at < high
    pub saves : base_at m o entry ≡ Some base
    pub reaches : least ≤ base.upto
    pub earlier : base.upto ≤ at

  -- each committed mark of an object stands after a checkpoint of it that reaches the mark
  abbrev pub MarksAreKept : Type 0
  MarksAreKept = (p : ℕ) (e : Entry) (w : WriteOp) (o : Oid) (mark : ℕ) → is_object o ≡ true → Contains es (p, e) → commits m objects es p e ≡ true → Contains (writes_of e) w → w.oid ≡ directory →
      m.read directory w.op ≡ Some (m.mark_op o mark) → IsCheckpointed o mark p

  -- each object whose stream an entry stands in was registered before
  abbrev pub AreRegistered : Type 0
  AreRegistered = (q : ℕ) (e : Entry) (o : Oid) → Contains es (q, e) → lists e o ≡ true → (a : ℕ) × (a ≤ q) × (m.registered (state_below m objects es a directory) o ≡ true)

-- where the floor has risen since an object was registered, the object is marked at or past it
abbrev pub FloorsAreMarked : Meaning → Type 0
FloorsAreMarked m = (is_object : Oid → Bool) (is_op : m.op → Bool) → IsDirectory m is_object is_op → (objects : List Oid) (es : Entries) (a n : ℕ) (o : Oid) → IsRising es → AreOpsOf m is_op es → a ≤ n →
    m.registered (state_below m objects es a directory) o ≡ true → m.floor (state_below m objects es a directory) < m.floor (state_below m objects es n directory) →
    HasMark m is_object objects es o (m.floor (state_below m objects es n directory)) n

-- what stands below the floor is saved: a checkpoint of each of its objects reaches the floor
abbrev pub FloorsAreSafe : Meaning → Type 0
FloorsAreSafe m = (is_object : Oid → Bool) (is_op : m.op → Bool) → IsDirectory m is_object is_op → (objects : List Oid) (es : Entries) (n q : ℕ) (e : Entry) (o : Oid) → IsRising es → AreOpsOf m is_op es → MarksAreKept m is_object objects es → AreRegistered m is_object objects es →
    Contains es (q, e) → lists e o ≡ true → q < m.floor (state_below m objects es n directory) →
    (m.floor (state_below m objects es n directory) ≤ n) × IsCheckpointed m is_object objects es o (m.floor (state_below m objects es n directory)) n
