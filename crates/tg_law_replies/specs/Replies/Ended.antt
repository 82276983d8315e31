-- Where a step ends a client's append, and how.
use Rattle.std.specs.Prelude.{◌≡◌, ℕ, Bool, true, false, ◌&&◌, nat_lt, List, Option, Some, None, Contains, slice_get}
use Rattle.tg_base.specs.Clusters.{Header}
use Rattle.tg_base.specs.declared.ids.NodeId.{NodeId}
use Rattle.tg_base.specs.declared.marks.StreamLink.{StreamLink}
use Rattle.tg_base.specs.declared.packet.Packet.{Packet}
use Rattle.tg_entry.specs.declared.entry.Entry.{Entry}
use Rattle.tg_kind.specs.Meaning.{Meaning}
use Rattle.tg_model.specs.declared.command.Event.TheVariants.{Deliver}
use Rattle.tg_model.specs.Kinds.{EventOf}
use Rattle.tg_base.specs.Orders.{node_eq}
use Rattle.tg_protocol.specs.Words.{layout_id, client_id}
use Rattle.tg_protocol.specs.Entries.{is_commit}
use Rattle.tg_entry.specs.Records.{linked}
use Rattle.tg_protocol.specs.Requests.{awaits, Next, Goes, Learns, Ends}
use Rattle.tg_protocol.specs.Replies.{Reply, IsLatest, reply}
use Rattle.tg_protocol.specs.Appending.{Append, AppendEnd, At, Full, Forgotten, append_feed, append_again}
use Rattle.tg_protocol.specs.Views.{Entries}
use Rattle.tg_protocol.specs.Clients.{Task, Appending, Hand, Doing, Learning, Work, Client}
use Rattle.tg_protocol.specs.ClientSteps.{task_awaited, task_in, stands}
use Rattle.tg_protocol.specs.Worlds.{World, client, runs}
use Rattle.tg_protocol.specs.Runs.{Moves}
use Rattle.tg_protocol.specs.Holding.{append_by}
use Rattle.tg_law_replies.specs.History.Worlds.{entries_in}
use Rattle.tg_law_replies.specs.Replies.Runs.{InEachStep}

abbrev pub end_of : {M E : Type 0} → Next M E → Option E
end_of (Goes x) = None
end_of (Learns x) = None
end_of (Ends e) = Some e

module _ (m : Meaning) where
  -- an awaited answer
  abbrev pub task_ends : Client m → Task m → ℕ → Reply → Option AppendEnd
  task_ends c (Appending a y) n x = end_of (append_feed c.stand a a.work n x c.next).to
  task_ends c t n x = None

  -- a newer layout
  abbrev pub again_ends : Client m → Task m → Option AppendEnd
  again_ends c (Appending a y) = end_of (append_again c.stand a c.next).to
  again_ends c t = None

  abbrev pub awaited_ends : Bool → Client m → Task m → NodeId → Reply → Option AppendEnd
  awaited_ends true c t from x = task_ends c t from.num x
  awaited_ends false c t from x = None

  abbrev pub hand_ends : Client m → Hand m → NodeId → ℕ → Reply → Option AppendEnd
  hand_ends c (Doing t) from rid x = awaited_ends (awaits (task_awaited m c.stand t) from rid) c t from x
  hand_ends c (Learning waits t) from rid x = None

  abbrev pub latest_ends : Bool → Client m → Task m → Option AppendEnd
  latest_ends true c t = again_ends c t
  latest_ends false c t = None

  abbrev pub reply_ends : Client m → Work m → NodeId → ℕ → Reply → Option AppendEnd
  reply_ends c w from rid (IsLatest q) = latest_ends (node_eq from (layout_id from.num) && nat_lt c.stand.epoch q.epoch) (stands m c q) (task_in m w.hand)
  reply_ends c w from rid x = hand_ends c w.hand from rid x

  abbrev pub work_ends : Client m → Option (Work m) → NodeId → ℕ → Reply → Option AppendEnd
  work_ends c None from rid x = None
  work_ends c (Some w) from rid x = reply_ends c w from rid x

  -- a packet that is handed to this client
  abbrev pub handed_ends : Bool → Client m → Packet → Option AppendEnd
  handed_ends true c p = work_ends c c.work p.from p.rid (reply p.msg)
  handed_ends false c p = None

  abbrev pub packet_ends : World m → ℕ → Option Packet → Option AppendEnd
  packet_ends w k None = None
  packet_ends w k (Some p) = handed_ends (node_eq p.to (client_id k) && runs m w p.to) (client m w k) p

  -- how a step ends the append of a client, which only a delivery does
  abbrev pub ended_in : World m → EventOf m → ℕ → Option AppendEnd
  ended_in w (Deliver i) k = packet_ends w k (slice_get w.packets i)
  ended_in w e k = None

  -- An append that has ended stands where it says, with the links that were issued to it; a record that it forgot stands nowhere else.
  abbrev pub EndsSo : Entries → Entry → AppendEnd → Type 0
  EndsSo es d (At p page) = (links : List StreamLink) × Contains es (p, linked d links)
  EndsSo es d (Forgotten p below) = (q : ℕ) (e : Entry) → Contains es (q, e) → is_commit d ≡ true → is_commit e ≡ true → e.head.client ≡ d.head.client → e.head.number ≡ d.head.number → q ≡ p
  EndsSo es d (Full limit) = Unit {0}

  -- so does each append that ends in a step of the run
  abbrev pub AppendsEnd : Header → Moves m → World m → Type 0
  AppendsEnd h ms w = InEachStep m h ms (λ before v e. (k : ℕ) (a : Append) (x : AppendEnd) → append_by m (client m v k).work ≡ Some a → ended_in v e k ≡ Some x → EndsSo (entries_in m w) a.draft x)
