-- What is told of a log, and when it is so; with that a run is legal.
use Rattle.std.specs.Prelude.{◌≡◌, ◌≢◌, ℕ, ◌≤◌, Bool, true, false, List, [], Some, Contains}
use Rattle.tg_base.specs.declared.ids.Oid.{Oid}
use Rattle.tg_base.specs.declared.marks.Part.{Part}
use Rattle.tg_base.specs.declared.marks.ReadMark.{ReadMark}
use Rattle.tg_entry.specs.declared.entry.Entry.{Entry}
use Rattle.tg_kind.specs.Meaning.{Meaning}
use Rattle.tg_model.specs.declared.refusal.Refusal.TheVariants as cause
use Rattle.tg_model.specs.declared.trace.What.TheVariants as told
use Rattle.tg_model.specs.Traces.{Trace, Says, Tells, puts_of}
use Rattle.tg_model.specs.Legal.{HasNoAsk, InOrder, Legal}
use Rattle.tg_entry.specs.Needs.{reads_of, writes_of}
use Rattle.tg_protocol.specs.Entries.{is_commit}
use Rattle.tg_protocol.specs.Views.{Entries}
use Rattle.tg_protocol.specs.Logs.{ops_of, history_after}
use Rattle.tg_law_replies.specs.Plays.Sound.{IsRising}
use Rattle.tg_law_replies.specs.History.Logs.{AreOps, state_below, version_below, commits, HasOutcome}

-- the log has a commit record of a client's transaction at a position
pub record HasRecordOf (es : Entries) (p k x : ℕ) : Type 0 where
  pub entry : Entry
  pub here : Contains es (p, entry)
  pub commit : is_commit entry ≡ true
  pub client : entry.head.client ≡ k
  pub number : entry.head.number ≡ x

module _ (m : Meaning) (objects : List Oid) (es : Entries) (trace : Trace m) where
  -- a read is of something that the transaction asked, with the version at its snapshot
  pub record IsOfAsk (k x p : ℕ) (r : ReadMark) : Type 0 where
    pub ask : m.ask
    pub snapshot : ℕ
    pub answer : m.answer
    pub asked : Tells m trace k x (told.Asked r.oid ask snapshot answer)
    pub looks : m.look ask ≡ r.part
    pub before : snapshot ≤ p
    pub seen : r.version ≡ version_below m objects es snapshot r.oid r.part

  -- a commit record is that of a transaction which was ended: it writes ops, those that were put, and reads what was asked
  pub record IsOfEnded (p : ℕ) (e : Entry) : Type 0 where
    pub ended : Tells m trace e.head.client e.head.number told.End
    pub ops : AreOps m (writes_of e)
    pub writes : ops_of m (writes_of e) ≡ puts_of m trace e.head.client e.head.number
    pub asks : (o : Oid) (q : m.ask) (t : ℕ) (a : m.answer) → Tells m trace e.head.client e.head.number (told.Asked o q t a) →
        (t ≤ p) × Contains (reads_of e) (record { oid = o; part = m.look q; version = version_below m objects es t o (m.look q) })
    pub reads : (r : ReadMark) → Contains (reads_of e) r → IsOfAsk e.head.client e.head.number p r

  pub record HasFailed (p k x : ℕ) (o : Oid) (part : Part) (seen now : ℕ) : Type 0 where
    pub rec : HasRecordOf es p k x
    pub outcome : commits m objects es p rec.entry ≡ false
    pub read : Contains (reads_of rec.entry) (record { oid = o; part = part; version = seen })
    pub is : now ≡ version_below m objects es p o part
    pub differs : now ≢ seen

  -- what the replies tell is so
  pub record TellsTrue : Type 0 where
    pub answers : (k x : ℕ) (o : Oid) (q : m.ask) (t : ℕ) (a : m.answer) → Tells m trace k x (told.Asked o q t a) → a ≡ m.answers (state_below m objects es t o) q
    pub one_snapshot : (k x : ℕ) (o r : Oid) (q s : m.ask) (t u : ℕ) (a b : m.answer) → Tells m trace k x (told.Asked o q t a) → Tells m trace k x (told.Asked r s u b) → t ≡ u
    pub records : (p : ℕ) (e : Entry) → Contains es (p, e) → is_commit e ≡ true → IsOfEnded p e
    pub once : (p q k x : ℕ) → HasRecordOf es p k x → HasRecordOf es q k x → p ≡ q
    pub committed : (k x p : ℕ) → Tells m trace k x (told.Committed p) → puts_of m trace k x ≢ [] → (r : HasRecordOf es p k x) × (commits m objects es p r.entry ≡ true)
    pub only_read : (k x p : ℕ) (o : Oid) (q : m.ask) (t : ℕ) (a : m.answer) → Tells m trace k x (told.Committed p) → puts_of m trace k x ≡ [] → Tells m trace k x (told.Asked o q t a) → p ≡ t
    pub did_nothing : (k x p : ℕ) → Tells m trace k x (told.Committed p) → puts_of m trace k x ≡ [] → HasNoAsk m trace k x → p ≡ 0
    pub aborted : (k x p : ℕ) (o : Oid) (part : Part) (seen now : ℕ) → Tells m trace k x (told.Aborted p o part seen now) → HasFailed p k x o part seen now
    pub unsure : (k x p q : ℕ) → Tells m trace k x (told.Unsure p q) → HasRecordOf es p k x
    pub forgotten : (k x p n q : ℕ) → Tells m trace k x (told.Refused (cause.Forgotten p n)) → HasRecordOf es q k x → q ≡ p
    pub dropped : (k x q : ℕ) → Tells m trace k x told.Dropped → HasRecordOf es q k x → ⊥
    pub fates : (k x p : ℕ) (b : Bool) → Says m trace k x (told.Fate p (Some b)) → HasOutcome m objects es p b
    pub decided : (k x p : ℕ) (b : Bool) → Says m trace k x (told.Decided p (Some b)) → HasOutcome m objects es p b
    pub order : InOrder m (history_after m [] es) trace

-- a run is legal where what it tells is so
abbrev pub TellingIsLegal : Meaning → Type 0
TellingIsLegal m = (objects : List Oid) (es : Entries) (trace : Trace m) → IsRising es → TellsTrue m objects es trace → Legal m objects (history_after m [] es) trace
