-- What the layer above rests on: what a sync keeps, on which answers it ends and pauses, which it passes by, and how many
-- requests it still sends.
use Rattle.std.specs.Prelude.{◌≡◌, ⊤, ℕ, ◌+◌, ◌-◌, ◌<◌, ◌≤◌, Bool, true, false, not, ◌||◌, ◌==◌, nat_lt, List, [], ◌∷◌, length, Option, Some, None}
use Rattle.tg_base.specs.Layouts.{Layout}
use Rattle.tg_base.specs.declared.cell.Cell.{Cell}
use Rattle.tg_base.specs.declared.ids.NodeId.{NodeId}
use Rattle.tg_base.specs.declared.ids.Oid.{Oid}
use Rattle.tg_base.specs.declared.msg.Msg.{Msg}
use Rattle.tg_base.specs.declared.packet.Packet.{Packet}
use Rattle.tg_protocol.specs.Layouts.{chain_of}
use Rattle.tg_protocol.specs.Requests.{Next, Goes, Learns, Ends, turn, awaits}
use Rattle.tg_protocol.specs.Replies.{Reply, IsTail, IsOldEpoch, reply}
use Rattle.tg_protocol.specs.Cells.{CellJob, CellWork, Probes, Done, Seen, place_in}
use Rattle.tg_protocol.specs.Appending.{names_all}
use Rattle.tg_protocol.specs.Syncing.{Sync, SyncWork, Checking, Settling, Probing, Answer, Confirmed, SyncTurn, sync_asks, sync_start}
use Rattle.tg_chain.specs.Laws.{EndsBy, left}
use Rattle.tg_append.specs.AppendLaws.{is_fill, cell_passes, epoch_told, ToldAbove, HasChainsUpTo, count_if}
use Rattle.tg_append.specs.Syncs.{sync_fed, by_sync}

-- What a sync keeps.

abbrev pub is_probe : CellWork → Bool
is_probe (Probes ws) = true
is_probe w = false

-- the last position below the tail is settled where it is past the start of the layout's epoch; and settled or probed at the
-- units that hold it in the layout
abbrev pub SyncWorkKept : Layout → List Oid → SyncWork → Type 0
SyncWorkKept p os (Checking r) = ⊤
SyncWorkKept p os (Settling a j) = (names_all os a.lasts ≡ true) × (p.start < a.tail) × (j.place ≡ place_in p (a.tail - 1)) × (is_fill j.work ≡ true)
SyncWorkKept p os (Probing a j) = (names_all os a.lasts ≡ true) × (j.place ≡ place_in p (a.tail - 1)) × (is_probe j.work ≡ true)

abbrev pub IsSyncKept : Layout → Sync → Type 0
IsSyncKept p s = SyncWorkKept p s.oids s.work

-- the last positions are those of the streams that were asked for
abbrev pub SyncNextKept : Layout → List Oid → Next Sync Confirmed → Type 0
SyncNextKept p os (Goes s) = (s.oids ≡ os) × IsSyncKept p s
SyncNextKept p os (Learns s) = s.oids ≡ os
SyncNextKept p os (Ends e) = names_all os e.lasts ≡ true

pub record SyncsKeep : Type 0 where
  pub starts : (p : Layout) (os : List Oid) (next : ℕ) → SyncNextKept p os (sync_start os next).to
  pub steps : (p : Layout) (s : Sync) (from : NodeId) (rid : ℕ) (m : Msg) (next : ℕ) → IsSyncKept p s → SyncNextKept p s.oids (sync_fed p s from rid m next).to

-- The tail is the sequencer's.

abbrev pub answer_in : SyncWork → Option Answer
answer_in (Checking r) = None
answer_in (Settling a j) = Some a
answer_in (Probing a j) = Some a

-- the answer that a sync works by has just come, awaited, or it is the one before
abbrev pub ToldNow : Bool → Option Answer → Option Answer → Reply → Type 0
ToldNow awaited None (Some a) x = (awaited ≡ true) × (x ≡ IsTail a.tail a.lasts)
ToldNow awaited old new x = new ≡ old

-- while it checks, a sync awaits an answer of the layout's sequencer alone
abbrev pub SyncIsTold : Type 0
SyncIsTold = (p : Layout) (s : Sync) (from : NodeId) (rid : ℕ) (m : Msg) (next : ℕ) (t : Sync) →
    (sync_fed p s from rid m next).to ≡ Goes t → ToldNow (awaits (sync_asks p s) from rid) (answer_in s.work) (answer_in t.work) (reply m)

-- Ends and pauses.

-- the last unit has the cell that is settled
abbrev pub SettledBy : Answer → CellJob → ℕ → Reply → Option (ℕ × Cell) → Type 0
SettledBy a j u x None = ⊥
SettledBy a j u x (Some s) = (s.0 ≡ a.tail - 1) × EndsBy j u x (Done s.1)

-- after the sequencer's answer the last unit of the chain holds a cell, or each unit of it has answered in the epoch
abbrev pub SyncEndsBy : SyncWork → ℕ → Reply → Confirmed → Type 0
SyncEndsBy (Checking r) u x e = ⊥
SyncEndsBy (Settling a j) u x e = (e.tail ≡ a.tail) × (e.lasts ≡ a.lasts) × SettledBy a j u x e.settled
SyncEndsBy (Probing a j) u x e = (e.tail ≡ a.tail) × (e.lasts ≡ a.lasts) × (e.settled ≡ None) × EndsBy j u x Seen

-- a sync ends only on such an answer, of a unit that it asked, under the number of that request
abbrev pub SyncEndsByAnswers : Type 0
SyncEndsByAnswers = (p : Layout) (s : Sync) (from : NodeId) (rid : ℕ) (m : Msg) (next : ℕ) (e : Confirmed) → IsSyncKept p s →
    (sync_fed p s from rid m next).to ≡ Ends e → (awaits (sync_asks p s) from rid ≡ true) × SyncEndsBy s.work from.num (reply m) e

-- a sync pauses only where a node that it asked tells a later epoch
abbrev pub SyncPausesByAnswers : Type 0
SyncPausesByAnswers = (p : Layout) (s : Sync) (from : NodeId) (rid : ℕ) (m : Msg) (next : ℕ) (t : Sync) → IsSyncKept p s →
    (sync_fed p s from rid m next).to ≡ Learns t → (awaits (sync_asks p s) from rid ≡ true) × ToldAbove p.epoch (epoch_told (reply m))

-- What is passed by.

abbrev pub checking_passes : Layout → List Oid → Reply → Bool
checking_passes p os (IsTail t ls) = not (names_all os ls)
checking_passes p os (IsOldEpoch e) = e == p.epoch
checking_passes p os x = true

abbrev pub sync_passes : Layout → Sync → SyncWork → ℕ → Reply → Bool
sync_passes p s (Checking r) u x = checking_passes p s.oids x
sync_passes p s (Settling a j) u x = cell_passes j u x
sync_passes p s (Probing a j) u x = cell_passes j u x

-- each position has a unit
pub record HasUnits (p : Layout) : Type 0 where
  pub some : (pos : ℕ) → 0 < length (chain_of p pos)

-- a sync goes on without sending anything only where the message isn't awaited or is passed by, or where a probe awaits answers
-- of other units
abbrev pub SyncWaitsForAnswers : Type 0
SyncWaitsForAnswers = (p : Layout) (s : Sync) (from : NodeId) (rid : ℕ) (m : Msg) (next : ℕ) (t : Sync) → IsSyncKept p s → HasUnits p →
    (sync_fed p s from rid m next).to ≡ Goes t → (by_sync p next (sync_fed p s from rid m next)).outs ≡ [] →
    (not (awaits (sync_asks p s) from rid) || sync_passes p s s.work from.num (reply m)) ≡ true

-- Requests to come.

-- how many requests are still sent until the end, where the longest chain has so many units
abbrev pub sync_left_in : ℕ → SyncWork → ℕ
sync_left_in most (Checking r) = most + most
sync_left_in most (Settling a j) = left j + most
sync_left_in most (Probing a j) = 0

-- and besides them: an answer of a sequencer that stands at an older epoch costs one `Learn`
abbrev pub sync_extra_in : Layout → SyncWork → Reply → ℕ
sync_extra_in p (Checking r) (IsOldEpoch e) = count_if (nat_lt e p.epoch) 1
sync_extra_in p w x = 0

abbrev pub sync_extra : Layout → Next Sync Confirmed → Packet → ℕ
sync_extra p (Goes s) q = count_if (awaits (sync_asks p s) q.from q.rid) (sync_extra_in p s.work (reply q.msg))
sync_extra p x q = 0

-- what becomes of a sync after these messages
abbrev pub sync_fed_next : Layout → Next Sync Confirmed → Packet → ℕ → SyncTurn
sync_fed_next p (Goes s) q next = sync_fed p s q.from q.rid q.msg next
sync_fed_next p x q next = turn next x

unfoldable pub sync_fed_all : Layout → Next Sync Confirmed → List Packet → ℕ → SyncTurn
sync_fed_all p x [] next = turn next x
sync_fed_all p x (q ∷ qs) next = sync_fed_all p (sync_fed_next p x q next).to qs (sync_fed_next p x q next).next

unfoldable pub sync_extra_all : Layout → Next Sync Confirmed → List Packet → ℕ → ℕ
sync_extra_all p x [] next = 0
sync_extra_all p x (q ∷ qs) next = sync_extra p x q + sync_extra_all p (sync_fed_next p x q next).to qs (sync_fed_next p x q next).next

-- whatever messages come, a sync sends no more than these
abbrev pub SyncRequestsAreFew : Type 0
SyncRequestsAreFew = (p : Layout) (most : ℕ) (s : Sync) (qs : List Packet) (next : ℕ) → HasChainsUpTo p most → IsSyncKept p s →
    (sync_fed_all p (Goes s) qs next).next ≤ next + sync_left_in most s.work + sync_extra_all p (Goes s) qs next
