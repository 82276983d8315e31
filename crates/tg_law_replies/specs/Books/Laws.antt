-- The books of transactions that each run keeps.
use Rattle.std.specs.Prelude.{◌≡◌, ◌⊎◌, ℕ, ◌<◌, ◌≤◌, true, Some, Contains}
use Rattle.tg_base.specs.Clusters.{Header}
use Rattle.tg_base.specs.declared.ids.Oid.{Oid}
use Rattle.tg_base.specs.declared.marks.Part.{Part}
use Rattle.tg_entry.specs.declared.entry.Entry.{Entry}
use Rattle.tg_kind.specs.Meaning.{Meaning}
use Rattle.tg_model.specs.declared.trace.What.TheVariants as told
use Rattle.tg_model.specs.Kinds.{MarkOf}
use Rattle.tg_model.specs.Traces.{Tells}
use Rattle.tg_model.specs.Legal.{InOrder, Legal}
use Rattle.tg_protocol.specs.Entries.{is_commit}
use Rattle.tg_protocol.specs.Transactions.{Tx}
use Rattle.tg_protocol.specs.Worlds.{World, client, trace, history}
use Rattle.tg_protocol.specs.Runs.{Moves, Reaches}
use Rattle.tg_protocol.specs.Holding.{EntriesOnce, EntriesOwn, RecordsOwn, RepliesHaveRecords}
use Rattle.tg_law_replies.specs.History.Worlds.{entries_in}
use Rattle.tg_law_replies.specs.Replies.Told.{HasRecordOf}
use Rattle.tg_law_replies.specs.Replies.Laws.{ClientsFind}
use Rattle.tg_law_replies.specs.Replies.Ended.{AppendsEnd}
use Rattle.tg_law_replies.specs.Books.Booked.{IsClosed, ClientsBook}
use Rattle.tg_law_replies.specs.Books.Kept.{RecordsLeft, AsksPrecede, RecordsEnd, RefusedLeaveNone}

-- each step of a run keeps the books of transactions, by what the log has of their records
abbrev pub BooksAreKept : Meaning → Type 0
BooksAreKept m = (h : Header) (ms : Moves m) (w : World m) → Reaches m h ms w → RecordsLeft m h ms w → AsksPrecede m w → ClientsBook m h ms w

-- whose each record is, by its number
pub record RecordsKnown (m : Meaning) (w : World m) : Type 0 where
  pub numbers : (u : MarkOf m) → Contains (trace m w) u → u.tx ≤ (client m w u.client).begun
  pub known : (p : ℕ) (e : Entry) → Contains (entries_in m w) (p, e) → is_commit e ≡ true → (0 < e.head.number) × (e.head.number ≤ (client m w e.head.client).begun)
  pub closed : (k : ℕ) (t : Tx) → (client m w k).tx ≡ Some t → IsClosed m (entries_in m w) (trace m w) k t
  pub once : (p q k x : ℕ) → HasRecordOf (entries_in m w) p k x → HasRecordOf (entries_in m w) q k x → p ≡ q

-- a run's log has of each transaction one record at most, with a number that its client has begun; of one that is open its record as it stands, where it was ended
abbrev pub RecordsAreKnown : Meaning → Type 0
RecordsAreKnown m = (h : Header) (ms : Moves m) (w : World m) → Reaches m h ms w → RecordsLeft m h ms w → AsksPrecede m w → EntriesOnce m w → RecordsKnown m w

-- one of a transaction's asks was answered at a position
pub record IsAskedAt (m : Meaning) (w : World m) (k x p : ℕ) : Type 0 where
  pub oid : Oid
  pub ask : m.ask
  pub answer : m.answer
  pub tells : Tells m (trace m w) k x (told.Asked oid ask p answer)

-- what replies tell of a transaction's record, as far as whose it is
pub record RepliesKnown (m : Meaning) (w : World m) : Type 0 where
  pub aborted : (k x p : ℕ) (o : Oid) (part : Part) (seen now : ℕ) → Tells m (trace m w) k x (told.Aborted p o part seen now) → HasRecordOf (entries_in m w) p k x
  pub unsure : (k x p q : ℕ) → Tells m (trace m w) k x (told.Unsure p q) → HasRecordOf (entries_in m w) p k x
  pub committed : (k x p : ℕ) → Tells m (trace m w) k x (told.Committed p) → HasRecordOf (entries_in m w) p k x ⊎ (IsAskedAt m w k x p ⊎ (p ≡ 0))
  pub refused : RefusedLeaveNone m w

-- A transaction that was aborted, or whose outcome is unsure, has its record where the reply says; one that was refused has left none.
-- One that committed has its record there, or an ask of it was answered there, or the reply says 0.
abbrev pub RepliesAreKnown : Meaning → Type 0
RepliesAreKnown m = (h : Header) (ms : Moves m) (w : World m) → Reaches m h ms w → RecordsLeft m h ms w → AsksPrecede m w → RecordsEnd m h ms w → RepliesKnown m w

-- A run is legal, where its clients find what they need of the log that it comes to, and these hold of that log: an append that ends stands where it says, and a record is what its client had
-- in hand for an append that wasn't refused afterwards for want of room; each entry is what its client began, and once; a record is that of what was put and asked, at or past where it was asked;
-- what replies tell of it stands there; and no place precedes a reply from before its transaction.
abbrev pub RunsAreLegal : Meaning → Type 0
RunsAreLegal m = (h : Header) (ms : Moves m) (w : World m) → Reaches m h ms w → ClientsFind m h ms w → AppendsEnd m h ms w → RecordsLeft m h ms w →
    EntriesOwn m h ms w → EntriesOnce m w → RecordsOwn m w → RepliesHaveRecords m w → AsksPrecede m w → InOrder m (history m w) (trace m w) →
    Legal m w.cluster.objects (history m w) (trace m w)
