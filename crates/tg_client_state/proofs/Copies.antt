-- The numbers of a copy.
use Rattle.std.proofs.Common.{◌≡◌, ℕ, ◌+◌, ◌≤◌, Bool, true, false, [], arith}
use Rattle.std.specs.Prelude.{nat_lt}
use Rattle.tg_base.specs.Layouts.{Layout}
use Rattle.tg_base.specs.declared.cell.Cell.{Cell}
use Rattle.tg_base.specs.declared.change.Join.{Join}
use Rattle.tg_base.specs.declared.msg.Msg.{Msg}
use Rattle.tg_proj.specs.Places.{range_at}
use Rattle.tg_protocol.specs.Layouts.{range_end, next_in_stripe}
use Rattle.tg_protocol.specs.Requests.{Next, Goes, Learns, Ends, awaits, passes}
use Rattle.tg_protocol.specs.Replies.{Reply, IsHeld, IsTaken, IsGone, IsFenced, IsSealed, IsMissing, IsWhole, reply}
use Rattle.tg_protocol.specs.Cells.{CellJob, CellEnd, Done, Fenced, Gone, place_in, get_cell, cell_asks, cell_feed}
use Rattle.tg_protocol.specs.Trimming.{Copying, CopyWork, Sealing, Reading, Storing, Trimming, Looking, CopyEnd, Whole, copies, copy_asks, copy_work_asks, copy_start, copy_from, copies_past, read_end, read_next, stored_if, skipped_if, sealed_if, learns_if, copy_feed}
use Rattle.tg_copy.specs.Copies.{copying, copy_fed_if}
use Rattle.tg_copy.specs.Turns.{spare_of}
use Rattle.tg_reconf.specs.Turns.{all_drawn}
use Rattle.tg_client_state.specs.Numbers.{ThenDrawn, BeginsNumbers}
use Rattle.tg_client_state.specs.Laws.{CopyNumbers}
use Rattle.tg_client_state.proofs.Steps.{more_drawn, one_below, one_from, Plain, plain_fits, plain_begins, goes_plain, learns_plain, ends_plain, gone_plain}
use Rattle.tg_client_state.proofs.Cells.{get_below, cell_plain}

begins : (p : Layout) (u r s n : ℕ) → BeginsNumbers (copy_asks p) n (copy_start u r s n)
unfolding copy_start copy_work_asks
begins p u r s n = plain_begins (copy_asks p) n _ (goes_plain (copy_asks p) n (n + 1) _ (omega arith) (one_below n)) (one_from n)

abbrev IsDrawn : Layout → Copying → ℕ → Type 0
IsDrawn p c n = all_drawn n (copy_asks p c) ≡ true

stays : (p : Layout) (c : Copying) (n k : ℕ) → n ≤ k → IsDrawn p c n → Plain (copy_asks p) n (passes {E = CopyEnd} k c)
stays p c n k le h = goes_plain (copy_asks p) n k c le (more_drawn _ n k le h)

waits : (p : Layout) (c : Copying) (n k : ℕ) → n ≤ k → IsDrawn p c n → Plain {E = CopyEnd} (copy_asks p) n (record { next = k; besides = []; gone = 0; to = Learns c })
waits p c n k le h = learns_plain (copy_asks p) n k c le (more_drawn _ n k le h)

-- The next position, or the look at the end.

look_below : (p : Layout) (c : Copying) (n : ℕ) → all_drawn (n + 1) (copy_asks p (copies c (Looking n))) ≡ true
unfolding copy_work_asks
look_below p c n = one_below n

store_below : (p : Layout) (c : Copying) (x : Cell) (pos n : ℕ) → all_drawn (n + 1) (copy_asks p (copies c (Storing n pos x))) ≡ true
unfolding copy_work_asks
store_below p c x pos n = one_below n

trim_below : (p : Layout) (c : Copying) (b n : ℕ) → all_drawn (n + 1) (copy_asks p (copies c (Trimming n b))) ≡ true
unfolding copy_work_asks
trim_below p c b n = one_below n

from_plain : (p : Layout) (c : Copying) (pos n : ℕ) (b : Bool) → Plain (copy_asks p) n (copy_from p c pos n b)
unfolding get_cell copy_work_asks
from_plain p c pos n true = goes_plain (copy_asks p) n (n + 1) _ (omega arith) (get_below (place_in p pos) n)
from_plain p c pos n false = goes_plain (copy_asks p) n (n + 1) _ (omega arith) (look_below p c n)

past_plain : (p : Layout) (c : Copying) (pos n : ℕ) → Plain (copy_asks p) n (copies_past p c pos n)
past_plain p c pos n = from_plain p c (next_in_stripe (range_at p.ranges c.range) c.stripe pos) n (nat_lt (next_in_stripe (range_at p.ranges c.range) c.stripe pos) (range_end p c.range))

-- The spare.

learns_if_plain : (b : Bool) (p : Layout) (c : Copying) (n : ℕ) → IsDrawn p c n → Plain (copy_asks p) n (learns_if {E = CopyEnd} b c n)
learns_if_plain true p c n h = waits p c n n (omega arith) h
learns_if_plain false p c n h = stays p c n n (omega arith) h

sealed_plain : (b : Bool) (p : Layout) (c : Copying) (n : ℕ) → IsDrawn p c n → Plain (copy_asks p) n (sealed_if p c n b)
sealed_plain true p c n h = past_plain p c 0 n
sealed_plain false p c n h = stays p c n n (omega arith) h

stored_plain : (b : Bool) (p : Layout) (c : Copying) (pos n : ℕ) → IsDrawn p c n → Plain (copy_asks p) n (stored_if p c pos n b)
stored_plain true p c pos n h = past_plain p c (pos + 1) n
stored_plain false p c pos n h = stays p c n n (omega arith) h

skipped_plain : (b : Bool) (p : Layout) (c : Copying) (below n : ℕ) → IsDrawn p c n → Plain (copy_asks p) n (skipped_if p c below n b)
skipped_plain true p c below n h = gone_plain (copy_asks p) n below _ (past_plain p c below n)
skipped_plain false p c below n h = stays p c n n (omega arith) h

-- A cell that is read.

read_end_plain : (p : Layout) (c : Copying) (pos : ℕ) (e : CellEnd) (n k : ℕ) → n ≤ k → IsDrawn p c n → Plain (copy_asks p) n (read_end p c pos e k)
read_end_plain p c pos (Done x) n k le h = goes_plain (copy_asks p) n (k + 1) _ (omega (arith, le)) (store_below p c x pos k)
read_end_plain p c pos (Gone b) n k le h = gone_plain (copy_asks p) n b _ (goes_plain (copy_asks p) n (k + 1) _ (omega (arith, le)) (trim_below p c b k))
read_end_plain p c pos (Fenced u e) n k le h = waits p c n k le h
read_end_plain p c pos _ n k le h = stays p c n k le h

read_next_plain : (p : Layout) (c : Copying) (pos : ℕ) (y : Next CellJob CellEnd) (n k : ℕ) → n ≤ k → ThenDrawn cell_asks k y → IsDrawn p c n → Plain (copy_asks p) n (read_next p c pos y k)
unfolding copy_work_asks
read_next_plain p c pos (Goes j) n k le d h = goes_plain (copy_asks p) n k _ le d
read_next_plain p c pos (Learns j) n k le d h = waits p c n k le h
read_next_plain p c pos (Ends e) n k le d h = read_end_plain p c pos e n k le h

reads_plain : (p : Layout) (s : Join) (j : CellJob) (u : ℕ) (x : Reply) (n : ℕ) → IsDrawn p (copying s (Reading j)) n →
    Plain (copy_asks p) n (read_next p (copying s (Reading j)) j.place.pos (cell_feed j u x n).to (cell_feed j u x n).next)
unfolding copy_work_asks
reads_plain p s j u x n h =
    let c = cell_plain j u x n h in
    read_next_plain p (copying s (Reading j)) j.place.pos (cell_feed j u x n).to n (cell_feed j u x n).next c.grows c.drawn h

feed_plain : (p : Layout) (s : Join) (w : CopyWork) (u : ℕ) (x : Reply) (n : ℕ) → IsDrawn p (copying s w) n → Plain (copy_asks p) n (copy_feed p (copying s w) w u x n)
unfolding copy_feed
feed_plain p s (Reading j) u x n h = reads_plain p s j u x n h
feed_plain p s (Sealing r) u (IsFenced e) n h = learns_if_plain _ p _ n h
feed_plain p s (Sealing r) u (IsSealed e g) n h = sealed_plain _ p _ n h
feed_plain p s (Sealing r) u _ n h = stays p _ n n (omega arith) h
feed_plain p s (Storing r pos c) u (IsFenced e) n h = learns_if_plain _ p _ n h
feed_plain p s (Storing r pos c) u IsHeld n h = past_plain p _ (pos + 1) n
feed_plain p s (Storing r pos c) u (IsTaken y) n h = stored_plain _ p _ pos n h
feed_plain p s (Storing r pos c) u (IsGone b) n h = skipped_plain _ p _ b n h
feed_plain p s (Storing r pos c) u _ n h = stays p _ n n (omega arith) h
feed_plain p s (Trimming r b) u (IsFenced e) n h = learns_if_plain _ p _ n h
feed_plain p s (Trimming r b) u (IsGone d) n h = gone_plain (copy_asks p) n d _ (past_plain p _ b n)
feed_plain p s (Trimming r b) u _ n h = stays p _ n n (omega arith) h
feed_plain p s (Looking r) u (IsFenced e) n h = learns_if_plain _ p _ n h
feed_plain p s (Looking r) u IsWhole n h = ends_plain (copy_asks p) n n Whole (omega arith)
feed_plain p s (Looking r) u (IsMissing pos) n h = from_plain p _ pos n _
feed_plain p s (Looking r) u _ n h = stays p _ n n (omega arith) h

pub if_plain : (b : Bool) (p : Layout) (c : Copying) (u : ℕ) (m : Msg) (n : ℕ) → IsDrawn p c n → Plain (copy_asks p) n (copy_fed_if b p c u m n)
if_plain true p c u m n h = feed_plain p (spare_of c) c.work u (reply m) n h
if_plain false p c u m n h = stays p c n n (omega arith) h

pub copy_numbers : CopyNumbers
copy_numbers = record {
  start = begins;
  fed = λ p c from rid m n h. plain_fits (copy_asks p) n _ (if_plain (awaits (copy_asks p c) from rid) p c from.num m n h);
}
