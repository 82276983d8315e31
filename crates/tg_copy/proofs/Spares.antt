-- A copy is of the same spare and stripe all along.
use Rattle.std.proofs.Common.{◌≡◌, ℕ, ◌+◌, Bool, true, false, ◌==◌, nat_lt, Result, Ok, Err, IfOk, refl, sym, ap, subst, ◌∙◌}
use Rattle.tg_base.specs.Layouts.{Layout}
use Rattle.tg_base.specs.declared.change.Join.{Join}
use Rattle.tg_base.specs.declared.ids.NodeId.{NodeId}
use Rattle.tg_base.specs.declared.msg.Msg.{Msg}
use Rattle.tg_proj.specs.Places.{range_at}
use Rattle.tg_protocol.specs.Words.{cell_eq}
use Rattle.tg_protocol.specs.Layouts.{range_end, next_in_stripe}
use Rattle.tg_protocol.specs.Requests.{Next, Goes, Learns, Ends, awaits}
use Rattle.tg_protocol.specs.Replies.{Reply, IsHeld, IsTaken, IsGone, IsFenced, IsSealed, IsMissing, IsWhole, reply}
use Rattle.tg_protocol.specs.Cells.{CellJob, CellEnd, Done, Seen, Lost, Fenced, Gone, get_cell}
use Rattle.tg_protocol.specs.Trimming.{Copying, CopyWork, Sealing, Reading, Storing, Trimming, Looking, CopyEnd, CopyTurn, learns_if, copy_from, read_next, stored_if, skipped_if, sealed_if, copy_asks, copy_start, copy_feed}
use Rattle.tg_copy.specs.Turns.{Then, Shown, spare_of, ruled_to, by_copy, IsOfSpare}
use Rattle.tg_copy.specs.Copies.{copying, copy_fed, copy_fed_if}

abbrev Stays : Join → Next Copying CopyEnd → Type 0
Stays s x = IsOfSpare s (ruled_to x)

from_stays : (b : Bool) (p : Layout) (s : Join) (w : CopyWork) (pos n : ℕ) → Stays s (copy_from p (copying s w) pos n b).to
unfolding get_cell
from_stays true p s w pos n = refl
from_stays false p s w pos n = refl

at_stays : (p : Layout) (s : Join) (w : CopyWork) (pos n : ℕ) → Stays s (copy_from p (copying s w) pos n (nat_lt pos (range_end p s.range))).to
at_stays p s w pos n = from_stays (nat_lt pos (range_end p s.range)) p s w pos n

learns_stays : (b : Bool) (s : Join) (w : CopyWork) (n : ℕ) → Stays s (learns_if {E = CopyEnd} b (copying s w) n).to
learns_stays true s w n = refl
learns_stays false s w n = refl

sealed_stays : (b : Bool) (p : Layout) (s : Join) (w : CopyWork) (n : ℕ) → Stays s (sealed_if p (copying s w) n b).to
sealed_stays true p s w n = at_stays p s w (next_in_stripe (range_at p.ranges s.range) s.stripe 0) n
sealed_stays false p s w n = refl

stored_stays : (b : Bool) (p : Layout) (s : Join) (w : CopyWork) (pos n : ℕ) → Stays s (stored_if p (copying s w) pos n b).to
stored_stays true p s w pos n = at_stays p s w (next_in_stripe (range_at p.ranges s.range) s.stripe (pos + 1)) n
stored_stays false p s w pos n = refl

skipped_stays : (b : Bool) (p : Layout) (s : Join) (w : CopyWork) (below n : ℕ) → Stays s (skipped_if p (copying s w) below n b).to
skipped_stays true p s w below n = at_stays p s w (next_in_stripe (range_at p.ranges s.range) s.stripe below) n
skipped_stays false p s w below n = refl

read_stays : (p : Layout) (s : Join) (w : CopyWork) (pos : ℕ) (y : Next CellJob CellEnd) (n : ℕ) → Stays s (read_next p (copying s w) pos y n).to
read_stays p s w pos (Goes k) n = refl
read_stays p s w pos (Learns k) n = refl
read_stays p s w pos (Ends (Done c)) n = refl
read_stays p s w pos (Ends Seen) n = refl
read_stays p s w pos (Ends (Lost c)) n = refl
read_stays p s w pos (Ends (Fenced u e)) n = refl
read_stays p s w pos (Ends (Gone b)) n = refl

work_stays : (p : Layout) (s : Join) (w : CopyWork) (u : ℕ) (x : Reply) (n : ℕ) → Stays s (copy_feed p (copying s w) w u x n).to
unfolding copy_feed
work_stays p s (Reading j) u x n = read_stays p s (Reading j) j.place.pos _ _
work_stays p s (Sealing r) u (IsFenced e) n = learns_stays (nat_lt p.epoch e) s (Sealing r) n
work_stays p s (Sealing r) u (IsSealed e h) n = sealed_stays (e == p.epoch) p s (Sealing r) n
work_stays p s (Sealing r) u _ n = refl
work_stays p s (Storing r pos c) u (IsFenced e) n = learns_stays (nat_lt p.epoch e) s (Storing r pos c) n
work_stays p s (Storing r pos c) u IsHeld n = stored_stays true p s (Storing r pos c) pos n
work_stays p s (Storing r pos c) u (IsTaken y) n = stored_stays (cell_eq c y) p s (Storing r pos c) pos n
work_stays p s (Storing r pos c) u (IsGone b) n = skipped_stays (nat_lt pos b) p s (Storing r pos c) b n
work_stays p s (Storing r pos c) u _ n = refl
work_stays p s (Trimming r b) u (IsFenced e) n = learns_stays (nat_lt p.epoch e) s (Trimming r b) n
work_stays p s (Trimming r b) u (IsGone d) n = skipped_stays true p s (Trimming r b) b n
work_stays p s (Trimming r b) u _ n = refl
work_stays p s (Looking r) u (IsFenced e) n = learns_stays (nat_lt p.epoch e) s (Looking r) n
work_stays p s (Looking r) u IsWhole n = tt
work_stays p s (Looking r) u (IsMissing pos) n = at_stays p s (Looking r) pos n
work_stays p s (Looking r) u _ n = refl

if_stays : (b : Bool) (p : Layout) (s : Join) (w : CopyWork) (u : ℕ) (m : Msg) (n : ℕ) → Stays s (copy_fed_if b p (copying s w) u m n).to
if_stays true p s w u m n = work_stays p s w u (reply m) n
if_stays false p s w u m n = refl

fed_stays : (p : Layout) (c : Copying) (from : NodeId) (rid : ℕ) (m : Msg) (n : ℕ) → Stays (spare_of c) (copy_fed p c from rid m n).to
fed_stays p c from rid m n = if_stays (awaits (copy_asks p c) from rid) p (spare_of c) c.work from.num m n

-- what a call gives is of the same spare and stripe, as what the rules name is

pub fed_spare : (p : Layout) (c : Copying) (from : NodeId) (rid : ℕ) (m : Msg) (n : ℕ) (t : Shown) → t ≡ by_copy p n (copy_fed p c from rid m n) → IsOfSpare (spare_of c) t.to
fed_spare p c from rid m n t h = subst (λ (z : Shown). IsOfSpare (spare_of c) z.to) (sym h) (fed_stays p c from rid m n)

pub start_spare : (p : Layout) (s : Join) (n : ℕ) (t : Shown) → t ≡ by_copy p n (copy_start s.unit s.range s.stripe n) → IsOfSpare s t.to
unfolding copy_start
start_spare p s n t h = subst (λ (z : Shown). IsOfSpare s z.to) (sym h) refl
