-- A sync's state in the words of the rules.
use Rattle.std.specs.Prelude.{ℕ, Bool, true, false, List}
use Rattle.tg_base.specs.Layouts.{Layout}
use Rattle.tg_base.specs.declared.ids.NodeId.{NodeId}
use Rattle.tg_base.specs.declared.ids.Oid.{Oid}
use Rattle.tg_base.specs.declared.msg.Msg.{Msg}
use Rattle.tg_protocol.specs.Cells.{CellJob}
use Rattle.tg_protocol.specs.Replies.{reply}
use Rattle.tg_protocol.specs.Requests.{passes, awaits}
use Rattle.tg_protocol.specs.Syncing.{Sync, SyncTurn, SyncWork, Answer, Checking, Settling, Probing, Confirmed, sync_asks, sync_feed}
use Rattle.tg_append.specs.declared.sync_state.SyncState.{SyncState}
use Rattle.tg_append.specs.declared.sync_state.SyncState.TheVariants as state
use Rattle.tg_append.specs.declared.ends.Confirmed.{Confirmed as Given}
use Rattle.tg_append.specs.Turns.{Shown, by_rules}

abbrev pub sync_at : List Oid → SyncWork → Sync
sync_at os w = record { oids = os; work = w }

abbrev pub checking : List Oid → ℕ → Sync
checking os r = sync_at os (Checking r)

abbrev pub settling : List Oid → Answer → CellJob → Sync
settling os a j = sync_at os (Settling a j)

abbrev pub probing : List Oid → Answer → CellJob → Sync
probing os a j = sync_at os (Probing a j)

abbrev pub sync_of : List Oid → SyncState → Sync
sync_of os (state.Checks r) = checking os r
sync_of os (state.Settles a j) = settling os a j
sync_of os (state.Probes a j) = probing os a j

-- what goes on of a sync in a newer layout: it starts over
abbrev pub oids_of : Sync → List Oid
oids_of s = s.oids

abbrev pub confirmed_of : Given → Confirmed
confirmed_of e = record { tail = e.tail; lasts = e.lasts; settled = e.settled }

-- an answer to an outstanding request is taken, and every other message is passed by
abbrev pub sync_fed_if : Bool → Layout → Sync → ℕ → Msg → ℕ → SyncTurn
sync_fed_if true p s n m next = sync_feed p s s.work n (reply m) next
sync_fed_if false p s n m next = passes next s

abbrev pub sync_fed : Layout → Sync → NodeId → ℕ → Msg → ℕ → SyncTurn
sync_fed p s from rid m next = sync_fed_if (awaits (sync_asks p s) from rid) p s from.num m next

-- what the rules name of a sync that began its step with this number
abbrev pub by_sync : Layout → ℕ → SyncTurn → Shown Sync (List Oid) Confirmed
by_sync p old t = by_rules oids_of (sync_asks p) old t
