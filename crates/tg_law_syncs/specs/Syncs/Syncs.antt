-- What syncs and walks end with, in every run.
use Rattle.std.specs.Prelude.{◌≡◌, ℕ, true, List, Some, Contains}
use Rattle.tg_base.specs.declared.cell.Cell.{Cell}
use Rattle.tg_base.specs.declared.ids.Oid.{Oid}
use Rattle.tg_base.specs.declared.packet.Packet.{Packet}
use Rattle.tg_kind.specs.Meaning.{Meaning}
use Rattle.tg_protocol.specs.Words.{cell_at, client_id}
use Rattle.tg_protocol.specs.Entries.{link_of, backs_of}
use Rattle.tg_protocol.specs.Requests.{awaits, Ends}
use Rattle.tg_protocol.specs.Replies.{reply}
use Rattle.tg_protocol.specs.Syncing.{Sync, Confirmed, sync_feed}
use Rattle.tg_protocol.specs.Walking.{Walk}
use Rattle.tg_protocol.specs.Logs.{Log}
use Rattle.tg_protocol.specs.Clients.{Syncing, Doing, Work}
use Rattle.tg_protocol.specs.ClientSteps.{task_awaited}
use Rattle.tg_protocol.specs.Worlds.{World, client, log}
use Rattle.tg_protocol.specs.Chosen.{Sent}
use Rattle.tg_law_walks.specs.Walks.Streams.{IsGood}
use Rattle.tg_law_walks.specs.Walks.Walks.{JobEndsAs}
use Rattle.tg_law_walks.specs.Walks.Reading.{Awaits}

-- What a sync of some streams ends with is true of a log: the last cell below the tail, and for each stream the last
-- positions.
pub record IsTail (l : Log) (os : List Oid) (x : Confirmed) : Type 0 where
  pub settled : (q : ℕ) (c : Cell) → x.settled ≡ Some (q, c) → cell_at l q ≡ Some c
  pub lists : (o : Oid) → Contains os o → IsGood l o x.tail (backs_of (link_of o x.lasts))

module _ (m : Meaning) where
  -- a client syncs, and a packet was sent to it that it awaits
  pub record AwaitsSync (w : World m) (k : ℕ) (x : Packet) (s : Sync) : Type 0 where
    pub work : Work m
    pub works : (client m w k).work ≡ Some work
    pub syncs : work.hand ≡ Doing (Syncing s)
    pub sent : Sent m w x
    pub to : x.to ≡ client_id k
    pub awaited : awaits (task_awaited m (client m w k).stand (Syncing s)) x.from x.rid ≡ true

  -- the tail that it confirms by it is true of the log, then and later
  abbrev pub SyncsConfirm : World m → World m → Type 0
  SyncsConfirm w v = (k : ℕ) (x : Packet) (s : Sync) (c : Confirmed) → AwaitsSync w k x s →
      (sync_feed (client m w k).stand s s.work x.from.num (reply x.msg) (client m w k).next).to ≡ Ends c → IsTail (log m v) s.oids c

  -- the cell with which a walk ends the reading of a position is the log's, then and later
  abbrev pub WalksRead : World m → World m → Type 0
  WalksRead w v = (k : ℕ) (x : Packet) (walk : Walk) → Awaits m w k x walk → JobEndsAs (log m v) walk.job x.from.num (reply x.msg) (client m w k).next
