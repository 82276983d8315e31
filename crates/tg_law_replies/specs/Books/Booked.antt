-- The books that clients keep of their transactions, by the log that the run comes to.
use Rattle.std.specs.Prelude.{◌≡◌, ℕ, ◌+◌, ◌≤◌, true, [], ◌∷◌, Some, Contains, slice_get}
use Rattle.tg_base.specs.Clusters.{Header}
use Rattle.tg_base.specs.declared.ids.Oid.{Oid}
use Rattle.tg_base.specs.declared.ids.Role.TheVariants as role
use Rattle.tg_base.specs.declared.packet.Packet.{Packet}
use Rattle.tg_entry.specs.declared.entry.Body.TheVariants.{Commit}
use Rattle.tg_entry.specs.declared.entry.Entry.{Entry}
use Rattle.tg_kind.specs.Meaning.{Meaning}
use Rattle.tg_model.specs.Kinds.{MarkOf, EventOf}
use Rattle.tg_model.specs.declared.command.Event.TheVariants.{Command as Commands, Deliver, Tick}
use Rattle.tg_model.specs.declared.trace.What.TheVariants as told
use Rattle.tg_model.specs.Traces.{Trace, Tells}
use Rattle.tg_protocol.specs.Words.{directory, client_id}
use Rattle.tg_protocol.specs.Entries.{is_commit}
use Rattle.tg_protocol.specs.Views.{Entries}
use Rattle.tg_protocol.specs.Transactions.{Tx}
use Rattle.tg_protocol.specs.Clients.{Client, write_of}
use Rattle.tg_protocol.specs.Answers.{mark_notes}
use Rattle.tg_protocol.specs.ClientSteps.{ClientTurn, client_command, client_deliver, client_tick}
use Rattle.tg_protocol.specs.Worlds.{World, client, runs, trace}
use Rattle.tg_protocol.specs.Runs.{Moves}
use Rattle.tg_law_replies.specs.History.Worlds.{entries_in}
use Rattle.tg_law_replies.specs.Replies.Runs.{InEachStep}

module _ (m : Meaning) (es : Entries) where
  -- no reply yet speaks of a transaction
  abbrev pub IsFresh : Trace m → ℕ → ℕ → Type 0
  IsFresh replies k x = (u : MarkOf m) → Contains replies u → u.client ≡ k → u.tx ≡ x → ⊥

  -- what a transaction comes to: the log's record of it, if there is one, is the record of it as it stands, and it was ended; it stands at or past the snapshot
  abbrev pub IsClosed : Trace m → ℕ → Tx → Type 0
  IsClosed replies k t = (p : ℕ) (e : Entry) → Contains es (p, e) → is_commit e ≡ true → e.head.client ≡ k → e.head.number ≡ t.number →
      Tells m replies k t.number told.End × (e.body ≡ Commit t.reads t.writes) × ((s : ℕ) → t.snapshot ≡ Some s → s ≤ p)

  -- the log's record of a mark
  abbrev pub IsClosedMark : ℕ → ℕ → Oid → ℕ → Type 0
  IsClosedMark k x o mark =
      (m.read directory (m.spell (m.mark_op o mark)) ≡ Some (m.mark_op o mark))
      × ((p : ℕ) (e : Entry) → Contains es (p, e) → is_commit e ≡ true → e.head.client ≡ k → e.head.number ≡ x → e.body ≡ Commit [] (write_of m directory (m.mark_op o mark) ∷ []))

  -- a client's turn: what leaves its hand is closed so, and what it begins is new
  pub record IsBookedTurn (replies : Trace m) (k : ℕ) (c : Client m) (t : ClientTurn m) : Type 0 where
    pub closes : (x : Tx) → c.tx ≡ Some x → ((y : Tx) → t.now.tx ≡ Some y → y.number ≡ x.number → ⊥) → IsClosed replies k x
    pub begins : t.now.begun ≡ c.begun + 1 → IsFresh replies k (c.begun + 1)
    pub marks : (o : Oid) (mark : ℕ) → t.notes ≡ mark_notes m (c.begun + 1) o mark → IsClosedMark k (c.begun + 1) o mark

  abbrev pub EachBooked : World m → EventOf m → Type 0
  EachBooked w (Commands k x) = runs m w (client_id k) ≡ true → IsBookedTurn (trace m w) k (client m w k) (client_command m (client m w k) x)
  EachBooked w (Deliver i) = (p : Packet) → slice_get w.packets i ≡ Some p → p.to.role ≡ role.Client → runs m w p.to ≡ true →
      IsBookedTurn (trace m w) p.to.num (client m w p.to.num) (client_deliver m (client m w p.to.num) p.from p.rid p.msg)
  EachBooked w (Tick n) = n.role ≡ role.Client → runs m w n ≡ true → IsBookedTurn (trace m w) n.num (client m w n.num) (client_tick m (client m w n.num))
  EachBooked w e = Unit {0}

-- each step keeps the books of transactions by the log that the run ends with
abbrev pub ClientsBook : (m : Meaning) → Header → Moves m → World m → Type 0
ClientsBook m h ms w = InEachStep m h ms (λ before v e. EachBooked m (entries_in m w) v e)
