-- What walks read is settled, and so the log's.
use Rattle.std.specs.Prelude.{◌≡◌, ℕ, ◌≤◌, true, List, Some, Contains}
use Rattle.tg_base.specs.declared.cell.Cell.{Cell}
use Rattle.tg_base.specs.declared.ids.Oid.{Oid}
use Rattle.tg_base.specs.declared.packet.Packet.{Packet}
use Rattle.tg_kind.specs.Meaning.{Meaning}
use Rattle.tg_protocol.specs.Words.{cell_at, seqr_id, client_id}
use Rattle.tg_protocol.specs.Layouts.{chain_of}
use Rattle.tg_protocol.specs.Requests.{awaits, Ends}
use Rattle.tg_protocol.specs.Replies.{reply}
use Rattle.tg_protocol.specs.Cells.{CellJob, Done, cell_asks, cell_feed}
use Rattle.tg_protocol.specs.Walking.{Walk}
use Rattle.tg_protocol.specs.Clients.{Walking, Doing, Work}
use Rattle.tg_protocol.specs.ClientSteps.{task_awaited}
use Rattle.tg_protocol.specs.Worlds.{World, client, seqr, unit, latest, log}
use Rattle.tg_protocol.specs.Chosen.{Sent}
use Rattle.tg_law_cells.specs.Cells.Settled.{IsSettled}
use Rattle.tg_law_walks.specs.Walks.Walks.{JobEndsAs}

module _ (m : Meaning) where
  -- a client walks a stream, and a packet was sent to it that it awaits
  pub record Awaits (w : World m) (k : ℕ) (x : Packet) (walk : Walk) : Type 0 where
    pub work : Work m
    pub works : (client m w k).work ≡ Some work
    pub rest : List Oid
    pub walks : work.hand ≡ Doing (Walking walk rest)
    pub sent : Sent m w x
    pub to : x.to ≡ client_id k
    pub awaited : awaits (task_awaited m (client m w k).stand (Walking walk rest)) x.from x.rid ≡ true

  -- the cell with which it ends the reading of a position is settled there
  abbrev pub WalksReadSettled : World m → Type 0
  WalksReadSettled w = (k : ℕ) (x : Packet) (walk : Walk) (j : CellJob) (c : Cell) → Awaits w k x walk → walk.job ≡ Some j →
      (cell_feed j x.from.num (reply x.msg) (client m w k).next).to ≡ Ends (Done c) → IsSettled m w j.place.pos c

  -- no unit of the last layout's chain has trimmed a position
  abbrev pub IsUntrimmed : World m → ℕ → Type 0
  IsUntrimmed v p = (u : ℕ) → Contains (chain_of (latest m v) p) u → (unit m v u).low ≤ p

  -- So it is the log's, in this and in each later world in which no unit of its chain has trimmed the position.
  abbrev pub WalksReadLog : World m → World m → Type 0
  WalksReadLog w v = (k : ℕ) (x : Packet) (walk : Walk) → Awaits w k x walk →
      ((j : CellJob) → walk.job ≡ Some j → IsUntrimmed v j.place.pos) → JobEndsAs (log m v) walk.job x.from.num (reply x.msg) (client m w k).next

  -- Likewise the scan of a sequencer.

  pub record ScanAwaits (w : World m) (s : ℕ) (x : Packet) (j : CellJob) : Type 0 where
    pub scans : (seqr m w s).scan ≡ Some j
    pub sent : Sent m w x
    pub to : x.to ≡ seqr_id s
    pub awaited : awaits (cell_asks j) x.from x.rid ≡ true

  abbrev pub ScansReadSettled : World m → Type 0
  ScansReadSettled w = (s : ℕ) (x : Packet) (j : CellJob) (c : Cell) → ScanAwaits w s x j →
      (cell_feed j x.from.num (reply x.msg) (seqr m w s).rids).to ≡ Ends (Done c) → IsSettled m w j.place.pos c

  abbrev pub ScansReadLog : World m → World m → Type 0
  ScansReadLog w v = (s : ℕ) (x : Packet) (j : CellJob) (c : Cell) → ScanAwaits w s x j → IsUntrimmed v j.place.pos →
      (cell_feed j x.from.num (reply x.msg) (seqr m w s).rids).to ≡ Ends (Done c) → cell_at (log m v) j.place.pos ≡ Some c
