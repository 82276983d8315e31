-- What the log that a run comes to has of its clients' records.
use Rattle.std.specs.Prelude.{◌≡◌, ℕ, ◌≤◌, true, List, ◌++◌, Some, Contains}
use Rattle.tg_base.specs.Clusters.{Header}
use Rattle.tg_base.specs.declared.ids.Oid.{Oid}
use Rattle.tg_base.specs.declared.marks.StreamLink.{StreamLink}
use Rattle.tg_entry.specs.declared.entry.Entry.{Entry}
use Rattle.tg_kind.specs.Meaning.{Meaning}
use Rattle.tg_model.specs.declared.refusal.Refusal.TheVariants as cause
use Rattle.tg_model.specs.declared.trace.What.TheVariants as told
use Rattle.tg_model.specs.Kinds.{MarkOf}
use Rattle.tg_model.specs.Traces.{Trace, Tells}
use Rattle.tg_protocol.specs.Entries.{is_commit}
use Rattle.tg_entry.specs.Records.{linked}
use Rattle.tg_protocol.specs.Appending.{Append, AppendEnd, At, Full, Forgotten}
use Rattle.tg_protocol.specs.Views.{Entries}
use Rattle.tg_protocol.specs.Worlds.{World, start, client, trace}
use Rattle.tg_protocol.specs.Runs.{Moves, run}
use Rattle.tg_protocol.specs.Alike.{HasRecord}
use Rattle.tg_protocol.specs.Holding.{append_by}
use Rattle.tg_law_replies.specs.History.Worlds.{entries_in}
use Rattle.tg_law_replies.specs.Replies.Runs.{InEachStep}
use Rattle.tg_law_replies.specs.Replies.Ended.{ended_in}

module _ (m : Meaning) where
  -- An entry is what its client had in hand in a world of the run, for an append that wasn't refused afterwards for want of room.
  pub record WasLeft (h : Header) (ms : Moves m) (w : World m) (e : Entry) : Type 0 where
    pub before : Moves m
    pub after : Moves m
    pub split : ms ≡ before ++ after
    pub append : Append
    pub begun : append_by m (client m (run m before (start m h)) e.head.client).work ≡ Some append
    pub draft : e ≡ linked append.draft e.head.streams
    pub since : Trace m
    pub traced : trace m w ≡ trace m (run m before (start m h)) ++ since
    pub stays : (u : MarkOf m) (limit : ℕ) → Contains since u → u.client ≡ e.head.client → u.tx ≡ e.head.number → u.what ≡ told.Refused (cause.LogFull limit) → ⊥

  -- each commit record of the log is so
  abbrev pub RecordsLeft : Header → Moves m → World m → Type 0
  RecordsLeft h ms w = (p : ℕ) (e : Entry) → Contains (entries_in m w) (p, e) → is_commit e ≡ true → WasLeft h ms w e

  -- a transaction's record stands at or past where it asked
  abbrev pub AsksPrecede : World m → Type 0
  AsksPrecede w = (k x p s : ℕ) (o : Oid) (q : m.ask) (a : m.answer) → Tells m (trace m w) k x (told.Asked o q s a) → HasRecord m w p k x → s ≤ p

  -- What was refused has left no record: one that was forgotten none but where the reply says, one that was dropped none.
  pub record RefusedLeaveNone (w : World m) : Type 0 where
    pub forgotten : (k x p n q : ℕ) → Tells m (trace m w) k x (told.Refused (cause.Forgotten p n)) → HasRecord m w q k x → q ≡ p
    pub dropped : (k x q : ℕ) → Tells m (trace m w) k x told.Dropped → HasRecord m w q k x → ⊥

  -- A record whose append has ended stands where it says, with the links that were issued to it; one that it forgot stands nowhere else.
  abbrev pub RecordEndsSo : Entries → Entry → AppendEnd → Type 0
  RecordEndsSo es d (At p page) = is_commit d ≡ true → (links : List StreamLink) × Contains es (p, linked d links)
  RecordEndsSo es d (Forgotten p below) = (q : ℕ) (e : Entry) → Contains es (q, e) → is_commit d ≡ true → is_commit e ≡ true → e.head.client ≡ d.head.client → e.head.number ≡ d.head.number → q ≡ p
  RecordEndsSo es d (Full limit) = Unit {0}

  -- so does each that ends in a step of the run
  abbrev pub RecordsEnd : Header → Moves m → World m → Type 0
  RecordsEnd h ms w = InEachStep m h ms (λ before v e. (k : ℕ) (a : Append) (x : AppendEnd) → append_by m (client m v k).work ≡ Some a → ended_in m v e k ≡ Some x → RecordEndsSo (entries_in m w) a.draft x)
