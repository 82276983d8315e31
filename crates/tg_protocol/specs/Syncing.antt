-- A sync: the tail, confirmed by the units of its epoch.
use Rattle.std.specs.Prelude.{ℕ, ◌-◌, Bool, true, false, nat_lt, List, [], ◌∷◌, Option, Some, None}
use Rattle.tg_base.specs.Layouts.{Layout}
use Rattle.tg_base.specs.declared.cell.Cell.{Cell}
use Rattle.tg_base.specs.declared.ids.Oid.{Oid}
use Rattle.tg_base.specs.declared.marks.StreamLink.{StreamLink}
use Rattle.tg_base.specs.declared.msg.Msg.TheVariants as msg
use Rattle.tg_base.specs.declared.packet.Out.{Out}
use Rattle.tg_protocol.specs.Words.{seqr_id}
use Rattle.tg_protocol.specs.Requests.{out, Next, Goes, Learns, Ends, Turn, turn, passes, draws, ends, learns, met_gone}
use Rattle.tg_protocol.specs.Replies.{Reply, IsTail, IsOldEpoch}
use Rattle.tg_protocol.specs.Cells.{CellJob, CellEnd, CellTurn, Done, Seen, Fenced, Gone, place_in, fill_cell, probe, cell_asks, cell_feed}
use Rattle.tg_protocol.specs.Appending.{names_all, on_old_epoch}

-- what the sequencer answered: the tail, and the last positions of each stream
pub record Answer : Type 0 where
  pub tail : ℕ
  pub lasts : List StreamLink

pub data SyncWork : Type 0 where
  Checking : (rid : ℕ) → SyncWork
  Settling : (answer : Answer) → (job : CellJob) → SyncWork  -- the last position below the tail
  Probing : (answer : Answer) → (job : CellJob) → SyncWork  -- the chain there

pub record Sync : Type 0 where
  pub oids : List Oid  -- rising
  pub work : SyncWork

pub record Confirmed : Type 0 where
  pub tail : ℕ
  pub lasts : List StreamLink
  pub settled : Option (ℕ × Cell)

abbrev pub SyncTurn : Type 0
SyncTurn = Turn Sync Confirmed

unfoldable pub sync_work_asks : Layout → Sync → SyncWork → List Out
sync_work_asks p s (Checking r) = out (seqr_id p.seq) r (msg.Check p.epoch s.oids) ∷ []
sync_work_asks p s (Settling a j) = cell_asks j
sync_work_asks p s (Probing a j) = cell_asks j

abbrev pub sync_asks : Layout → Sync → List Out
sync_asks p s = sync_work_asks p s s.work

unfoldable pub sync_start : List Oid → ℕ → SyncTurn
sync_start oids next = draws next (record { oids = oids; work = Checking next })

abbrev pub confirmed : Answer → Option (ℕ × Cell) → Confirmed
confirmed a settled = record { tail = a.tail; lasts = a.lasts; settled = settled }

abbrev pub probe_end : Sync → Answer → CellEnd → ℕ → SyncTurn
probe_end s a Seen next = ends next (confirmed a None)
probe_end s a (Fenced u e) next = learns next s
probe_end s a _ next = passes next s

abbrev pub probe_next : Sync → Answer → Next CellJob CellEnd → ℕ → SyncTurn
probe_next s a (Goes j) next = turn next (Goes (record { oids = s.oids; work = Probing a j }))
probe_next s a (Learns j) next = learns next s
probe_next s a (Ends e) next = probe_end s a e next

abbrev pub probe_turn : Sync → Answer → CellTurn → SyncTurn
probe_turn s a c = probe_next s a c.to c.next

-- the chain of the last position below the tail, or of position 0
abbrev pub probes : Layout → Sync → Answer → ℕ → SyncTurn
probes p s a next = probe_turn s a (probe (place_in p (a.tail - 1)) next)

abbrev pub settle_end : Layout → Sync → Answer → CellEnd → ℕ → SyncTurn
settle_end p s a (Done c) next = ends next (confirmed a (Some (a.tail - 1, c)))
settle_end p s a (Gone b) next = met_gone b (probes p s a next)
settle_end p s a (Fenced u e) next = learns next s
settle_end p s a _ next = passes next s

abbrev pub settle_next : Layout → Sync → Answer → Next CellJob CellEnd → ℕ → SyncTurn
settle_next p s a (Goes j) next = turn next (Goes (record { oids = s.oids; work = Settling a j }))
settle_next p s a (Learns j) next = learns next s
settle_next p s a (Ends e) next = settle_end p s a e next

abbrev pub settle_turn : Layout → Sync → Answer → CellTurn → SyncTurn
settle_turn p s a c = settle_next p s a c.to c.next

-- past the epoch's start the last position is settled, even where it is known; else its chain is probed
abbrev pub confirm_by : Layout → Sync → Answer → ℕ → Bool → SyncTurn
confirm_by p s a next true = settle_turn p s a (fill_cell (place_in p (a.tail - 1)) next)
confirm_by p s a next false = probes p s a next

abbrev pub on_tail : Layout → Sync → Answer → ℕ → Bool → SyncTurn
on_tail p s a next true = confirm_by p s a next (nat_lt p.start a.tail)
on_tail p s a next false = passes next s

abbrev pub checking_feed : Layout → Sync → Reply → ℕ → SyncTurn
checking_feed p s (IsTail t ls) next = on_tail p s (record { tail = t; lasts = ls }) next (names_all s.oids ls)
checking_feed p s (IsOldEpoch e) next = on_old_epoch p e next s
checking_feed p s _ next = passes next s

-- an awaited answer
unfoldable pub sync_feed : Layout → Sync → SyncWork → ℕ → Reply → ℕ → SyncTurn
sync_feed p s (Checking r) n x next = checking_feed p s x next
sync_feed p s (Settling a j) n x next = settle_turn p s a (cell_feed j n x next)
sync_feed p s (Probing a j) n x next = probe_turn s a (cell_feed j n x next)

-- in a newer layout it starts over
abbrev pub sync_again : Sync → ℕ → SyncTurn
sync_again s next = sync_start s.oids next
