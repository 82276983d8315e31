-- The numbers of each machine.
use Rattle.std.specs.Prelude.{◌≡◌, ⊤, ℕ, ◌≤◌, true, List}
use Rattle.tg_base.specs.Layouts.{Layout}
use Rattle.tg_base.specs.Changes.{Changed}
use Rattle.tg_base.specs.declared.cell.Cell.{Cell}
use Rattle.tg_base.specs.declared.change.Join.{Join}
use Rattle.tg_base.specs.declared.ids.NodeId.{NodeId}
use Rattle.tg_base.specs.declared.ids.Oid.{Oid}
use Rattle.tg_base.specs.declared.msg.Msg.{Msg}
use Rattle.tg_entry.specs.declared.entry.Entry.{Entry}
use Rattle.tg_protocol.specs.Requests.{Next, Goes, Learns, Ends}
use Rattle.tg_protocol.specs.Syncing.{Sync, sync_asks, sync_start, sync_again}
use Rattle.tg_protocol.specs.Appending.{Append, append_asks, append_start, append_again}
use Rattle.tg_protocol.specs.Walking.{Walk, walk_asks, walk_start, walk_again}
use Rattle.tg_protocol.specs.Trimming.{Trims, trim_asks, trim_start, Copying, CopyEnd, copy_asks, copy_start}
use Rattle.tg_protocol.specs.Reconfiguring.{Reconf, reconf_asks, reconf_awaited, reconf_start, reconf_latest}
use Rattle.tg_append.specs.Syncs.{sync_fed}
use Rattle.tg_append.specs.Appends.{append_fed}
use Rattle.tg_stream.specs.Walks.{walk_fed}
use Rattle.tg_copy.specs.Stripes.{HasStripe}
use Rattle.tg_copy.specs.Turns.{spare_of}
use Rattle.tg_copy.specs.Copies.{copy_fed}
use Rattle.tg_trim.specs.Turns.{trim_fed}
use Rattle.tg_reconf.specs.Turns.{all_drawn, fed as reconf_fed}
use Rattle.tg_client_state.specs.Numbers.{FitsNumbers, BeginsNumbers}

pub record SyncNumbers : Type 0 where
  pub start : (p : Layout) (oids : List Oid) (next : ℕ) → BeginsNumbers (sync_asks p) next (sync_start oids next)
  pub fed : (p : Layout) (s : Sync) (from : NodeId) (rid : ℕ) (m : Msg) (next : ℕ) → all_drawn next (sync_asks p s) ≡ true →
      FitsNumbers (sync_asks p) next (sync_fed p s from rid m next)
  pub again : (p : Layout) (s : Sync) (next : ℕ) → BeginsNumbers (sync_asks p) next (sync_again s next)

pub record AppendNumbers : Type 0 where
  pub start : (p : Layout) (draft : Entry) (next : ℕ) → BeginsNumbers (append_asks p) next (append_start p draft next)
  pub fed : (p : Layout) (a : Append) (from : NodeId) (rid : ℕ) (m : Msg) (next : ℕ) → all_drawn next (append_asks p a) ≡ true →
      FitsNumbers (append_asks p) next (append_fed p a from rid m next)
  pub again : (p : Layout) (a : Append) (next : ℕ) → BeginsNumbers (append_asks p) next (append_again p a next)

pub record WalkNumbers : Type 0 where
  pub start : (p : Layout) (o : Oid) (lasts : List ℕ) (lo : ℕ) (cells : List (ℕ × Cell)) (next : ℕ) → BeginsNumbers walk_asks next (walk_start p o lasts lo cells next)
  pub fed : (p : Layout) (w : Walk) (from : NodeId) (rid : ℕ) (m : Msg) (next : ℕ) → all_drawn next (walk_asks w) ≡ true →
      FitsNumbers walk_asks next (walk_fed p w from rid m next)
  pub again : (p : Layout) (w : Walk) (next : ℕ) → BeginsNumbers walk_asks next (walk_again p w next)

pub record CopyNumbers : Type 0 where
  pub start : (p : Layout) (unit range stripe next : ℕ) → BeginsNumbers (copy_asks p) next (copy_start unit range stripe next)
  pub fed : (p : Layout) (c : Copying) (from : NodeId) (rid : ℕ) (m : Msg) (next : ℕ) → all_drawn next (copy_asks p c) ≡ true →
      FitsNumbers (copy_asks p) next (copy_fed p c from rid m next)

pub record TrimNumbers : Type 0 where
  pub start : (p : Layout) (below next : ℕ) → BeginsNumbers (trim_asks p) next (trim_start p below next)
  pub fed : (p : Layout) (t : Trims) (from : NodeId) (rid : ℕ) (m : Msg) (next : ℕ) → all_drawn next (trim_asks p t) ≡ true →
      FitsNumbers (trim_asks p) next (trim_fed p t from rid m next)

-- what is awaited was drawn, and so is what is sent, which is a part of it
pub record ReconfNumbers : Type 0 where
  pub start : (p : Layout) (layouts : ℕ) (c : Changed) (me next : ℕ) → BeginsNumbers reconf_asks next (reconf_start p layouts c me next)
  pub start_awaits : (p : Layout) (layouts : ℕ) (c : Changed) (me next : ℕ) → BeginsNumbers reconf_awaited next (reconf_start p layouts c me next)
  pub fed : (r : Reconf) (from : NodeId) (rid : ℕ) (m : Msg) (next : ℕ) → all_drawn next (reconf_awaited r) ≡ true →
      FitsNumbers reconf_asks next (reconf_fed r from rid m next)
  pub fed_awaits : (r : Reconf) (from : NodeId) (rid : ℕ) (m : Msg) (next : ℕ) → all_drawn next (reconf_awaited r) ≡ true →
      FitsNumbers reconf_awaited next (reconf_fed r from rid m next)
  pub latest : (r : Reconf) (server rid : ℕ) (q : Layout) (next : ℕ) → all_drawn next (reconf_awaited r) ≡ true →
      FitsNumbers reconf_asks next (reconf_latest r r.work server rid q next)
  pub latest_awaits : (r : Reconf) (server rid : ℕ) (q : Layout) (next : ℕ) → all_drawn next (reconf_awaited r) ≡ true →
      FitsNumbers reconf_awaited next (reconf_latest r r.work server rid q next)

-- no step takes a number back, whatever its machine was before
pub record NumbersGrow : Type 0 where
  pub sync : (p : Layout) (s : Sync) (from : NodeId) (rid : ℕ) (m : Msg) (next : ℕ) → next ≤ (sync_fed p s from rid m next).next
  pub append : (p : Layout) (a : Append) (from : NodeId) (rid : ℕ) (m : Msg) (next : ℕ) → next ≤ (append_fed p a from rid m next).next
  pub append_again : (p : Layout) (a : Append) (next : ℕ) → next ≤ (append_again p a next).next
  pub walk : (p : Layout) (w : Walk) (from : NodeId) (rid : ℕ) (m : Msg) (next : ℕ) → next ≤ (walk_fed p w from rid m next).next
  pub walk_again : (p : Layout) (w : Walk) (next : ℕ) → next ≤ (walk_again p w next).next
  pub copy : (p : Layout) (c : Copying) (from : NodeId) (rid : ℕ) (m : Msg) (next : ℕ) → next ≤ (copy_fed p c from rid m next).next
  pub trim : (p : Layout) (t : Trims) (from : NodeId) (rid : ℕ) (m : Msg) (next : ℕ) → next ≤ (trim_fed p t from rid m next).next
  pub reconf : (r : Reconf) (from : NodeId) (rid : ℕ) (m : Msg) (next : ℕ) → next ≤ (reconf_fed r from rid m next).next
  pub reconf_latest : (r : Reconf) (server rid : ℕ) (q : Layout) (next : ℕ) → next ≤ (reconf_latest r r.work server rid q next).next

-- a copy that goes on, or waits to learn a newer layout, is one to this spare of this stripe
abbrev pub ThenOfSpare : Join → Next Copying CopyEnd → Type 0
ThenOfSpare s (Goes c) = spare_of c ≡ s
ThenOfSpare s (Learns c) = spare_of c ≡ s
ThenOfSpare s (Ends e) = ⊤

-- and the layout has that stripe
abbrev pub ThenHasStripe : Layout → Next Copying CopyEnd → Type 0
ThenHasStripe p (Goes c) = HasStripe p (spare_of c)
ThenHasStripe p (Learns c) = HasStripe p (spare_of c)
ThenHasStripe p (Ends e) = ⊤

pub record CopyStays : Type 0 where
  pub start : (s : Join) (next : ℕ) → ThenOfSpare s (copy_start s.unit s.range s.stripe next).to
  pub fed : (p : Layout) (c : Copying) (from : NodeId) (rid : ℕ) (m : Msg) (next : ℕ) → ThenOfSpare (spare_of c) (copy_fed p c from rid m next).to
  pub stripe : (p : Layout) (c : Copying) (from : NodeId) (rid : ℕ) (m : Msg) (next : ℕ) → HasStripe p (spare_of c) → ThenHasStripe p (copy_fed p c from rid m next).to
