-- A copy stays one of the same stripe to the same spare.
use Rattle.std.proofs.Common.{ℕ, ◌+◌, Bool, true, false, refl, sym, subst}
use Rattle.std.specs.Prelude.{nat_lt}
use Rattle.tg_base.specs.Layouts.{Layout}
use Rattle.tg_base.specs.declared.change.Join.{Join}
use Rattle.tg_base.specs.declared.ids.NodeId.{NodeId}
use Rattle.tg_base.specs.declared.msg.Msg.{Msg}
use Rattle.tg_proj.specs.Places.{range_at}
use Rattle.tg_protocol.specs.Layouts.{range_end, next_in_stripe}
use Rattle.tg_protocol.specs.Requests.{Next, Goes, Learns, Ends, awaits}
use Rattle.tg_protocol.specs.Replies.{Reply, IsHeld, IsTaken, IsGone, IsFenced, IsSealed, IsMissing, IsWhole, reply}
use Rattle.tg_protocol.specs.Cells.{CellJob, CellEnd, Done, Fenced, Gone, get_cell, cell_feed}
use Rattle.tg_protocol.specs.Trimming.{Copying, CopyWork, Sealing, Reading, Storing, Trimming, Looking, CopyEnd, copy_asks, copy_start, copy_from, copies_past, read_end, read_next, stored_if, skipped_if, sealed_if, learns_if, copy_feed}
use Rattle.tg_copy.specs.Copies.{copy_fed, copy_fed_if}
use Rattle.tg_copy.specs.Stripes.{HasStripe}
use Rattle.tg_copy.specs.Turns.{spare_of}
use Rattle.tg_client_state.specs.Laws.{ThenOfSpare, ThenHasStripe, CopyStays}

from_stays : (p : Layout) (c : Copying) (pos n : ℕ) (b : Bool) → ThenOfSpare (spare_of c) (copy_from p c pos n b).to
unfolding get_cell
from_stays p c pos n true = refl
from_stays p c pos n false = refl

past_stays : (p : Layout) (c : Copying) (pos n : ℕ) → ThenOfSpare (spare_of c) (copies_past p c pos n).to
past_stays p c pos n = from_stays p c (next_in_stripe (range_at p.ranges c.range) c.stripe pos) n (nat_lt (next_in_stripe (range_at p.ranges c.range) c.stripe pos) (range_end p c.range))

learns_if_stays : (b : Bool) (c : Copying) (n : ℕ) → ThenOfSpare (spare_of c) (learns_if {E = CopyEnd} b c n).to
learns_if_stays true c n = refl
learns_if_stays false c n = refl

sealed_stays : (b : Bool) (p : Layout) (c : Copying) (n : ℕ) → ThenOfSpare (spare_of c) (sealed_if p c n b).to
sealed_stays true p c n = past_stays p c 0 n
sealed_stays false p c n = refl

stored_stays : (b : Bool) (p : Layout) (c : Copying) (pos n : ℕ) → ThenOfSpare (spare_of c) (stored_if p c pos n b).to
stored_stays true p c pos n = past_stays p c (pos + 1) n
stored_stays false p c pos n = refl

skipped_stays : (b : Bool) (p : Layout) (c : Copying) (below n : ℕ) → ThenOfSpare (spare_of c) (skipped_if p c below n b).to
skipped_stays true p c below n = past_stays p c below n
skipped_stays false p c below n = refl

read_end_stays : (p : Layout) (c : Copying) (pos : ℕ) (e : CellEnd) (k : ℕ) → ThenOfSpare (spare_of c) (read_end p c pos e k).to
read_end_stays p c pos (Done x) k = refl
read_end_stays p c pos (Gone b) k = refl
read_end_stays p c pos (Fenced u e) k = refl
read_end_stays p c pos _ k = refl

read_next_stays : (p : Layout) (c : Copying) (pos : ℕ) (y : Next CellJob CellEnd) (k : ℕ) → ThenOfSpare (spare_of c) (read_next p c pos y k).to
read_next_stays p c pos (Goes j) k = refl
read_next_stays p c pos (Learns j) k = refl
read_next_stays p c pos (Ends e) k = read_end_stays p c pos e k

feed_stays : (p : Layout) (c : Copying) (w : CopyWork) (u : ℕ) (x : Reply) (n : ℕ) → ThenOfSpare (spare_of c) (copy_feed p c w u x n).to
unfolding copy_feed
feed_stays p c (Reading j) u x n = read_next_stays p c j.place.pos (cell_feed j u x n).to (cell_feed j u x n).next
feed_stays p c (Sealing r) u (IsFenced e) n = learns_if_stays _ c n
feed_stays p c (Sealing r) u (IsSealed e g) n = sealed_stays _ p c n
feed_stays p c (Sealing r) u _ n = refl
feed_stays p c (Storing r pos y) u (IsFenced e) n = learns_if_stays _ c n
feed_stays p c (Storing r pos y) u IsHeld n = past_stays p c (pos + 1) n
feed_stays p c (Storing r pos y) u (IsTaken z) n = stored_stays _ p c pos n
feed_stays p c (Storing r pos y) u (IsGone b) n = skipped_stays _ p c b n
feed_stays p c (Storing r pos y) u _ n = refl
feed_stays p c (Trimming r b) u (IsFenced e) n = learns_if_stays _ c n
feed_stays p c (Trimming r b) u (IsGone d) n = past_stays p c b n
feed_stays p c (Trimming r b) u _ n = refl
feed_stays p c (Looking r) u (IsFenced e) n = learns_if_stays _ c n
feed_stays p c (Looking r) u IsWhole n = tt
feed_stays p c (Looking r) u (IsMissing pos) n = from_stays p c pos n _
feed_stays p c (Looking r) u _ n = refl

if_stays : (b : Bool) (p : Layout) (c : Copying) (u : ℕ) (m : Msg) (n : ℕ) → ThenOfSpare (spare_of c) (copy_fed_if b p c u m n).to
if_stays true p c u m n = feed_stays p c c.work u (reply m) n
if_stays false p c u m n = refl

fed_stays : (p : Layout) (c : Copying) (from : NodeId) (rid : ℕ) (m : Msg) (n : ℕ) → ThenOfSpare (spare_of c) (copy_fed p c from rid m n).to
fed_stays p c from rid m n = if_stays (awaits (copy_asks p c) from rid) p c from.num m n

starts_stay : (s : Join) (n : ℕ) → ThenOfSpare s (copy_start s.unit s.range s.stripe n).to
unfolding copy_start
starts_stay s n = refl

has_stripe : (p : Layout) (s : Join) (y : Next Copying CopyEnd) → ThenOfSpare s y → HasStripe p s → ThenHasStripe p y
has_stripe p s (Goes c) e h = subst (HasStripe p) (sym e) h
has_stripe p s (Learns c) e h = subst (HasStripe p) (sym e) h
has_stripe p s (Ends x) e h = tt

pub copy_stays : CopyStays
copy_stays = record {
  start = starts_stay;
  fed = fed_stays;
  stripe = λ p c from rid m n h. has_stripe p (spare_of c) (copy_fed p c from rid m n).to (fed_stays p c from rid m n) h;
}
