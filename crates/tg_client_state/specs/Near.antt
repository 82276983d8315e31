-- Positions that a machine was told: below 2 ^ 62, since answers that name others are passed by.
use Rattle.std.specs.Prelude.{⊤, ℕ, ◌<◌, ◌^◌, List, Option, Some, None}
use Rattle.tg_base.specs.Layouts.{Layout}
use Rattle.tg_base.specs.declared.ids.NodeId.{NodeId}
use Rattle.tg_base.specs.declared.ids.Oid.{Oid}
use Rattle.tg_base.specs.declared.msg.Msg.{Msg}
use Rattle.tg_entry.specs.declared.entry.Entry.{Entry}
use Rattle.tg_protocol.specs.Requests.{Next, Goes, Learns, Ends}
use Rattle.tg_protocol.specs.Syncing.{Sync, Answer, Confirmed, sync_start, sync_again}
use Rattle.tg_protocol.specs.Appending.{Append, Token, AppendEnd, At, Full, Forgotten, append_start, append_again}
use Rattle.tg_append.specs.SyncLaws.{answer_in}
use Rattle.tg_append.specs.Syncs.{sync_fed}
use Rattle.tg_append.specs.Appends.{append_fed}

abbrev pub NearAnswer : Option Answer → Type 0
NearAnswer None = ⊤
NearAnswer (Some a) = a.tail < 2 ^ 62

abbrev pub SyncThenNear : Next Sync Confirmed → Type 0
SyncThenNear (Goes s) = NearAnswer (answer_in s.work)
SyncThenNear (Learns s) = NearAnswer (answer_in s.work)
SyncThenNear (Ends e) = e.tail < 2 ^ 62

-- from its beginning on a sync works by a near tail, and ends with one
pub record SyncStaysNear : Type 0 where
  pub start : (oids : List Oid) (next : ℕ) → SyncThenNear (sync_start oids next).to
  pub fed : (p : Layout) (s : Sync) (from : NodeId) (rid : ℕ) (m : Msg) (next : ℕ) → NearAnswer (answer_in s.work) → SyncThenNear (sync_fed p s from rid m next).to
  pub again : (s : Sync) (next : ℕ) → SyncThenNear (sync_again s next).to

abbrev pub NearToken : Option Token → Type 0
NearToken None = ⊤
NearToken (Some t) = t.pos < 2 ^ 62

abbrev pub AppendEndNear : AppendEnd → Type 0
AppendEndNear (At pos page) = pos < 2 ^ 62
AppendEndNear (Full limit) = ⊤
AppendEndNear (Forgotten at below) = at < 2 ^ 62

abbrev pub AppendThenNear : Next Append AppendEnd → Type 0
AppendThenNear (Goes a) = NearToken a.token
AppendThenNear (Learns a) = NearToken a.token
AppendThenNear (Ends e) = AppendEndNear e

-- from its beginning on an append has tokens of near positions, and ends at one
pub record AppendStaysNear : Type 0 where
  pub start : (p : Layout) (draft : Entry) (next : ℕ) → AppendThenNear (append_start p draft next).to
  pub fed : (p : Layout) (a : Append) (from : NodeId) (rid : ℕ) (m : Msg) (next : ℕ) → NearToken a.token → AppendThenNear (append_fed p a from rid m next).to
  pub again : (p : Layout) (a : Append) (next : ℕ) → NearToken a.token → AppendThenNear (append_again p a next).to
