-- What makes a run legal, in words of the objects, the history and the replies alone.
-- The clauses speak of transactions, whose numbers are above 0; only a fate is told without one.
use Rattle.std.specs.Prelude.{◌≡◌, ◌≢◌, ℕ, ◌+◌, ◌<◌, ◌≤◌, true, false, List, [], ◌∷◌, ◌++◌, Some, Contains}
use Rattle.tg_base.specs.declared.ids.Oid.{Oid}
use Rattle.tg_base.specs.declared.marks.Part.{Part}
use Rattle.tg_kind.specs.Meaning.{Meaning}
use Rattle.tg_model.specs.declared.refusal.Refusal.TheVariants as cause
use Rattle.tg_model.specs.declared.trace.What.TheVariants as told
use Rattle.tg_model.specs.Kinds.{MarkOf, DoneOf}
use Rattle.tg_model.specs.Stores.{History, answer_at, changes, changed, is_stamp}
use Rattle.tg_model.specs.Traces.{Trace, Says, Tells, puts_of, IsOf, HasNone, point_of, Place}

module _ (m : Meaning) where
  -- each ask of a transaction has its snapshot at or below a position, and the same answer there
  abbrev pub AsksHoldAt : List Oid → History m → Trace m → ℕ → ℕ → ℕ → Type 0
  AsksHoldAt objects h trace k x p = (o : Oid) (q : m.ask) (t : ℕ) (a : m.answer) → Tells m trace k x (told.Asked o q t a) →
      (t ≤ p) × (a ≡ answer_at m objects h p o q)

  -- a: every answer is that of the history at its snapshot, and a transaction has one snapshot
  pub record AnswersRight (objects : List Oid) (h : History m) (trace : Trace m) : Type 0 where
    pub at_snapshot : (k x : ℕ) (o : Oid) (q : m.ask) (t : ℕ) (a : m.answer) → Tells m trace k x (told.Asked o q t a) → a ≡ answer_at m objects h t o q
    pub one_snapshot : (k x : ℕ) (o r : Oid) (q s : m.ask) (t u : ℕ) (a b : m.answer) →
        Tells m trace k x (told.Asked o q t a) → Tells m trace k x (told.Asked r s u b) → t ≡ u

  -- the entry of a committed transaction
  pub record IsCommitted (objects : List Oid) (h : History m) (trace : Trace m) (k x p : ℕ) : Type 0 where
    pub done : DoneOf m
    pub here : Contains h done
    pub stamp : done.stamp ≡ p
    pub of : IsOf m done k x
    pub writes : done.writes ≡ puts_of m trace k x
    pub asks : AsksHoldAt objects h trace k x p

  abbrev pub HasNoAsk : Trace m → ℕ → ℕ → Type 0
  HasNoAsk trace k x = (o : Oid) (q : m.ask) (t : ℕ) (a : m.answer) → Tells m trace k x (told.Asked o q t a) → ⊥

  -- b: a committed transaction is in the history at its place; one without puts is committed at its snapshot, or at 0
  pub record CommitsRight (objects : List Oid) (h : History m) (trace : Trace m) : Type 0 where
    pub with_puts : (k x p : ℕ) → Tells m trace k x (told.Committed p) → puts_of m trace k x ≢ [] → IsCommitted objects h trace k x p
    pub at_snapshot : (k x p : ℕ) (o : Oid) (q : m.ask) (t : ℕ) (a : m.answer) → Tells m trace k x (told.Committed p) → puts_of m trace k x ≡ [] →
        Tells m trace k x (told.Asked o q t a) → p ≡ t
    pub at_zero : (k x p : ℕ) → Tells m trace k x (told.Committed p) → puts_of m trace k x ≡ [] → HasNoAsk trace k x → p ≡ 0

  -- the ask of an aborted transaction, and the committed change after its snapshot
  pub record IsAborted (h : History m) (trace : Trace m) (k x p : ℕ) (o : Oid) (part : Part) (seen now : ℕ) : Type 0 where
    pub ask : m.ask
    pub snapshot : ℕ
    pub answer : m.answer
    pub asked : Tells m trace k x (told.Asked o ask snapshot answer)
    pub looks : m.look ask ≡ part
    pub change : DoneOf m
    pub here : Contains h change
    pub stamp : change.stamp + 1 ≡ now
    pub changes_it : changes m change o part ≡ true
    pub after : snapshot ≤ change.stamp
    pub before : change.stamp < p
    pub was : seen ≡ changed m h o part snapshot
    pub is : now ≡ changed m h o part p

  -- c: an aborted transaction isn't in the history, and names a committed change of what it read
  pub record AbortsRight (h : History m) (trace : Trace m) : Type 0 where
    pub none : (k x p : ℕ) (o : Oid) (part : Part) (seen now : ℕ) → Tells m trace k x (told.Aborted p o part seen now) → HasNone m h k x
    pub cause : (k x p : ℕ) (o : Oid) (part : Part) (seen now : ℕ) → Tells m trace k x (told.Aborted p o part seen now) → IsAborted h trace k x p o part seen now

  -- d: every entry belongs to a transaction that was ended, and what is told of an outcome is so
  pub record EntriesRight (objects : List Oid) (h : History m) (trace : Trace m) : Type 0 where
    pub ended : (d : DoneOf m) → Contains h d → Tells m trace d.client d.number told.End
    pub writes : (d : DoneOf m) → Contains h d → d.writes ≡ puts_of m trace d.client d.number
    pub once : (d e : DoneOf m) → Contains h d → Contains h e → IsOf m e d.client d.number → d ≡ e
    pub asks : (d : DoneOf m) → Contains h d → AsksHoldAt objects h trace d.client d.number d.stamp
    pub unsure : (k x p q : ℕ) (d : DoneOf m) → Tells m trace k x (told.Unsure p q) → Contains h d → IsOf m d k x → d.stamp ≡ p
    pub forgotten : (k x p n : ℕ) (d : DoneOf m) → Tells m trace k x (told.Refused (cause.Forgotten p n)) → Contains h d → IsOf m d k x → d.stamp ≡ p
    pub dropped : (k x : ℕ) → Tells m trace k x told.Dropped → HasNone m h k x
    pub fate_yes : (k x p : ℕ) → Says m trace k x (told.Fate p (Some true)) → is_stamp m h p ≡ true
    pub fate_no : (k x p : ℕ) → Says m trace k x (told.Fate p (Some false)) → is_stamp m h p ≡ false
    pub decided_yes : (k x p : ℕ) → Says m trace k x (told.Decided p (Some true)) → is_stamp m h p ≡ true
    pub decided_no : (k x p : ℕ) → Says m trace k x (told.Decided p (Some false)) → is_stamp m h p ≡ false

  -- e: no place precedes a reply that came before the transaction's begin
  abbrev pub InOrder : History m → Trace m → Type 0
  InOrder h trace = (before after : Trace m) (b r : MarkOf m) (p n : ℕ) → trace ≡ before ++ b ∷ after → b.what ≡ told.Begin → 0 < b.tx →
      Contains before r → point_of m trace r ≡ Some p → Place m h trace b.client b.tx n → p ≤ n

  -- the five clauses of a legal run
  pub record Legal (objects : List Oid) (h : History m) (trace : Trace m) : Type 0 where
    pub answers : AnswersRight objects h trace
    pub commits : CommitsRight objects h trace
    pub aborts : AbortsRight h trace
    pub entries : EntriesRight objects h trace
    pub order : InOrder h trace
