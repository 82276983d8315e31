-- No step takes a number back.
use Rattle.std.proofs.Common.{ℕ, ◌+◌, ◌≤◌, Bool, true, false, List, [], ◌∷◌, Option, Some, None, arith}
use Rattle.std.specs.Prelude.{nat_lt}
use Rattle.tg_base.specs.Layouts.{Layout}
use Rattle.tg_base.specs.declared.cell.Cell.TheVariants.{Data}
use Rattle.tg_base.specs.declared.marks.StreamLink.{StreamLink}
use Rattle.tg_base.specs.declared.msg.Msg.{Msg}
use Rattle.tg_proj.specs.Places.{range_at}
use Rattle.tg_protocol.specs.Words.{cell_eq}
use Rattle.tg_protocol.specs.Entries.{streams_of}
use Rattle.tg_protocol.specs.Layouts.{range_end, next_in_stripe}
use Rattle.tg_protocol.specs.Requests.{Waits, without_wait, Next, Goes, Learns, Ends, awaits}
use Rattle.tg_protocol.specs.Replies.{Reply, IsHeld, IsTaken, IsGone, IsFenced, IsSealed, IsMissing, IsWhole, IsIssued, IsTail, IsFull, IsOldEpoch, reply}
use Rattle.tg_protocol.specs.Cells.{Place, CellJob, CellWork, CellEnd, Done, Seen, Lost, Fenced, Gone, works, put_cell, get_cell, fill_cell, probe, work_feed, cell_feed}
use Rattle.tg_protocol.specs.Appending.{Append, AppendWork, Asking, Putting, Judging, Token, AppendEnd, names_all, on_older, on_newer, put_end, put_next, own_or_not, judge_end, judge_next, on_issued, asking_feed, by_token, append_asks, append_feed}
use Rattle.tg_protocol.specs.Syncing.{Sync, SyncWork, Checking, Settling, Probing, Answer, Confirmed, sync_asks, probe_end, probe_next, probes, settle_end, settle_next, confirm_by, on_tail, checking_feed, sync_feed}
use Rattle.tg_protocol.specs.Walking.{Walk, walk_asks, walk_end, walk_next, walk_feed, next_visit, steps_left, read_at}
use Rattle.tg_protocol.specs.Trimming.{Trims, Trimmed, trim_asks, trims_left, trim_feed, learns_if, Copying, CopyWork, Sealing, Reading, Storing, Trimming, Looking, CopyEnd, copy_asks, copy_from, copies_past, read_end, read_next, stored_if, skipped_if, sealed_if, copy_feed}
use Rattle.tg_append.specs.Appends.{append_fed_if}
use Rattle.tg_append.specs.Syncs.{sync_fed_if}
use Rattle.tg_stream.specs.Walks.{walk_fed_if}
use Rattle.tg_copy.specs.Copies.{copy_fed_if}
use Rattle.tg_trim.specs.Turns.{trim_fed_if}
use Rattle.tg_client_state.specs.Laws.{NumbersGrow}
use Rattle.tg_client_state.proofs.Appends.{append_numbers}
use Rattle.tg_client_state.proofs.Walks.{on_begins, walk_numbers}
use Rattle.tg_client_state.proofs.Reconfs.{fed_send, latest_send}

-- The machine of a cell.

work_grows : (a : Place) (w : CellWork) (u : ℕ) (x : Reply) (n : ℕ) → n ≤ (cell_feed (works a w) u x n).next
unfolding cell_feed work_feed fill_cell
work_grows a w u x n = grind arith

cell_grows : (j : CellJob) (u : ℕ) (x : Reply) (n : ℕ) → n ≤ (cell_feed j u x n).next
cell_grows j u x n = work_grows j.place j.work u x n

-- A sequencer at another epoch.

older_grows : {M : Type 0} (E : Type 0) (p : Layout) (n : ℕ) (m : M) (b : Bool) → n ≤ (on_older {E = E} p n m b).next
older_grows E p n m true = omega arith
older_grows E p n m false = omega arith

newer_grows : {M : Type 0} (E : Type 0) (p : Layout) (e n : ℕ) (m : M) (b : Bool) → n ≤ (on_newer {E = E} p e n m b).next
newer_grows E p e n m true = omega arith
newer_grows E p e n m false = older_grows E p n m (nat_lt e p.epoch)

-- Appends.

put_end_grows : (a : Append) (t : Token) (e : CellEnd) (n k : ℕ) → n ≤ k → n ≤ (put_end a t e k).next
put_end_grows a t (Done c) n k le = le
put_end_grows a t (Lost c) n k le = omega (arith, le)
put_end_grows a t (Gone b) n k le = le
put_end_grows a t (Fenced u e) n k le = le
put_end_grows a t Seen n k le = le

put_next_grows : (a : Append) (t : Token) (y : Next CellJob CellEnd) (n k : ℕ) → n ≤ k → n ≤ (put_next a t y k).next
put_next_grows a t (Goes j) n k le = le
put_next_grows a t (Learns j) n k le = le
put_next_grows a t (Ends e) n k le = put_end_grows a t e n k le

own_grows : (a : Append) (t : Token) (n k : ℕ) (b : Bool) → n ≤ k → n ≤ (own_or_not a t k b).next
own_grows a t n k true le = le
own_grows a t n k false le = omega (arith, le)

judge_end_grows : (a : Append) (t : Token) (e : CellEnd) (n k : ℕ) → n ≤ k → n ≤ (judge_end a t e k).next
judge_end_grows a t (Done c) n k le = own_grows a t n k (cell_eq c (Data t.page)) le
judge_end_grows a t (Lost c) n k le = le
judge_end_grows a t (Gone b) n k le = le
judge_end_grows a t (Fenced u e) n k le = le
judge_end_grows a t Seen n k le = le

judge_next_grows : (a : Append) (t : Token) (y : Next CellJob CellEnd) (n k : ℕ) → n ≤ k → n ≤ (judge_next a t y k).next
judge_next_grows a t (Goes j) n k le = le
judge_next_grows a t (Learns j) n k le = le
judge_next_grows a t (Ends e) n k le = judge_end_grows a t e n k le

issued_grows : (p : Layout) (a : Append) (pos : ℕ) (ls : List StreamLink) (n : ℕ) (b : Bool) → n ≤ (on_issued p a pos ls n b).next
unfolding put_cell
issued_grows p a pos ls n true = omega arith
issued_grows p a pos ls n false = omega arith

asking_grows : (p : Layout) (a : Append) (x : Reply) (n : ℕ) → n ≤ (asking_feed p a x n).next
asking_grows p a (IsIssued pos ls) n = issued_grows p a pos ls n (names_all (streams_of a.draft) ls)
asking_grows p a (IsFull l) n = omega arith
asking_grows p a (IsOldEpoch e) n = newer_grows AppendEnd p e n a (nat_lt p.epoch e)
asking_grows p a _ n = omega arith

put_grows : (a : Append) (o : Option Token) (j : CellJob) (u : ℕ) (x : Reply) (n : ℕ) → n ≤ (by_token a n o (λ t. put_next a t (cell_feed j u x n).to (cell_feed j u x n).next)).next
put_grows a None j u x n = omega arith
put_grows a (Some t) j u x n = put_next_grows a t (cell_feed j u x n).to n (cell_feed j u x n).next (cell_grows j u x n)

judge_grows : (a : Append) (o : Option Token) (j : CellJob) (u : ℕ) (x : Reply) (n : ℕ) → n ≤ (by_token a n o (λ t. judge_next a t (cell_feed j u x n).to (cell_feed j u x n).next)).next
judge_grows a None j u x n = omega arith
judge_grows a (Some t) j u x n = judge_next_grows a t (cell_feed j u x n).to n (cell_feed j u x n).next (cell_grows j u x n)

append_feed_grows : (p : Layout) (a : Append) (w : AppendWork) (u : ℕ) (x : Reply) (n : ℕ) → n ≤ (append_feed p a w u x n).next
unfolding append_feed
append_feed_grows p a (Asking r) u x n = asking_grows p a x n
append_feed_grows p a (Putting j) u x n = put_grows a a.token j u x n
append_feed_grows p a (Judging j) u x n = judge_grows a a.token j u x n

append_grows : (b : Bool) (p : Layout) (a : Append) (u : ℕ) (m : Msg) (n : ℕ) → n ≤ (append_fed_if b p a u m n).next
append_grows true p a u m n = append_feed_grows p a a.work u (reply m) n
append_grows false p a u m n = omega arith

-- Syncs.

probe_end_grows : (s : Sync) (a : Answer) (e : CellEnd) (n k : ℕ) → n ≤ k → n ≤ (probe_end s a e k).next
probe_end_grows s a Seen n k le = le
probe_end_grows s a (Fenced u e) n k le = le
probe_end_grows s a _ n k le = le

probe_next_grows : (s : Sync) (a : Answer) (y : Next CellJob CellEnd) (n k : ℕ) → n ≤ k → n ≤ (probe_next s a y k).next
probe_next_grows s a (Goes j) n k le = le
probe_next_grows s a (Learns j) n k le = le
probe_next_grows s a (Ends e) n k le = probe_end_grows s a e n k le

probes_grow : (p : Layout) (s : Sync) (a : Answer) (n k : ℕ) → n ≤ k → n ≤ (probes p s a k).next
unfolding probe
probes_grow p s a n k le = omega (arith, le)

settle_end_grows : (p : Layout) (s : Sync) (a : Answer) (e : CellEnd) (n k : ℕ) → n ≤ k → n ≤ (settle_end p s a e k).next
settle_end_grows p s a (Done c) n k le = le
settle_end_grows p s a (Gone b) n k le = probes_grow p s a n k le
settle_end_grows p s a (Fenced u e) n k le = le
settle_end_grows p s a _ n k le = le

settle_next_grows : (p : Layout) (s : Sync) (a : Answer) (y : Next CellJob CellEnd) (n k : ℕ) → n ≤ k → n ≤ (settle_next p s a y k).next
settle_next_grows p s a (Goes j) n k le = le
settle_next_grows p s a (Learns j) n k le = le
settle_next_grows p s a (Ends e) n k le = settle_end_grows p s a e n k le

confirm_grows : (p : Layout) (s : Sync) (a : Answer) (n : ℕ) (b : Bool) → n ≤ (confirm_by p s a n b).next
unfolding fill_cell
confirm_grows p s a n true = omega arith
confirm_grows p s a n false = probes_grow p s a n n (omega arith)

tail_grows : (p : Layout) (s : Sync) (a : Answer) (n : ℕ) (b : Bool) → n ≤ (on_tail p s a n b).next
tail_grows p s a n true = confirm_grows p s a n (nat_lt p.start a.tail)
tail_grows p s a n false = omega arith

checking_grows : (p : Layout) (s : Sync) (x : Reply) (n : ℕ) → n ≤ (checking_feed p s x n).next
checking_grows p s (IsTail t ls) n = tail_grows p s (record { tail = t; lasts = ls }) n (names_all s.oids ls)
checking_grows p s (IsOldEpoch e) n = newer_grows Confirmed p e n s (nat_lt p.epoch e)
checking_grows p s _ n = omega arith

sync_feed_grows : (p : Layout) (s : Sync) (w : SyncWork) (u : ℕ) (x : Reply) (n : ℕ) → n ≤ (sync_feed p s w u x n).next
unfolding sync_feed
sync_feed_grows p s (Checking r) u x n = checking_grows p s x n
sync_feed_grows p s (Settling a j) u x n = settle_next_grows p s a (cell_feed j u x n).to n (cell_feed j u x n).next (cell_grows j u x n)
sync_feed_grows p s (Probing a j) u x n = probe_next_grows s a (cell_feed j u x n).to n (cell_feed j u x n).next (cell_grows j u x n)

sync_grows : (b : Bool) (p : Layout) (s : Sync) (u : ℕ) (m : Msg) (n : ℕ) → n ≤ (sync_fed_if b p s u m n).next
sync_grows true p s u m n = sync_feed_grows p s s.work u (reply m) n
sync_grows false p s u m n = omega arith

-- Walks.

walks_grow : (p : Layout) (w : Walk) (q : ℕ) (e : CellEnd) (n k : ℕ) → n ≤ k → n ≤ (walk_end p w q e k).next
walks_grow p w q (Done c) n k le = let on = (on_begins p k (steps_left (next_visit (read_at w q c))) (read_at w q c)).plain.grows in omega (arith, le, on)
walks_grow p w q (Gone b) n k le = le
walks_grow p w q (Fenced u e) n k le = le
walks_grow p w q _ n k le = le

walk_next_grows : (p : Layout) (w : Walk) (q : ℕ) (y : Next CellJob CellEnd) (n k : ℕ) → n ≤ k → n ≤ (walk_next p w q y k).next
walk_next_grows p w q (Goes j) n k le = le
walk_next_grows p w q (Learns j) n k le = le
walk_next_grows p w q (Ends e) n k le = walks_grow p w q e n k le

walk_feed_grows : (p : Layout) (w : Walk) (o : Option CellJob) (u : ℕ) (x : Reply) (n : ℕ) → n ≤ (walk_feed p w o u x n).next
unfolding walk_feed
walk_feed_grows p w None u x n = omega arith
walk_feed_grows p w (Some j) u x n = walk_next_grows p w j.place.pos (cell_feed j u x n).to n (cell_feed j u x n).next (cell_grows j u x n)

walk_grows : (b : Bool) (p : Layout) (w : Walk) (u : ℕ) (m : Msg) (n : ℕ) → n ≤ (walk_fed_if b p w u m n).next
walk_grows true p w u m n = walk_feed_grows p w w.job u (reply m) n
walk_grows false p w u m n = omega arith

-- Copies.

from_grows : (p : Layout) (c : Copying) (pos n : ℕ) (b : Bool) → n ≤ (copy_from p c pos n b).next
unfolding get_cell
from_grows p c pos n true = omega arith
from_grows p c pos n false = omega arith

past_grows : (p : Layout) (c : Copying) (pos n : ℕ) → n ≤ (copies_past p c pos n).next
past_grows p c pos n = from_grows p c (next_in_stripe (range_at p.ranges c.range) c.stripe pos) n (nat_lt (next_in_stripe (range_at p.ranges c.range) c.stripe pos) (range_end p c.range))

learns_if_grows : {M : Type 0} (E : Type 0) (b : Bool) (m : M) (n : ℕ) → n ≤ (learns_if {E = E} b m n).next
learns_if_grows E true m n = omega arith
learns_if_grows E false m n = omega arith

sealed_grows : (b : Bool) (p : Layout) (c : Copying) (n : ℕ) → n ≤ (sealed_if p c n b).next
sealed_grows true p c n = past_grows p c 0 n
sealed_grows false p c n = omega arith

stored_grows : (b : Bool) (p : Layout) (c : Copying) (pos n : ℕ) → n ≤ (stored_if p c pos n b).next
stored_grows true p c pos n = past_grows p c (pos + 1) n
stored_grows false p c pos n = omega arith

skipped_grows : (b : Bool) (p : Layout) (c : Copying) (below n : ℕ) → n ≤ (skipped_if p c below n b).next
skipped_grows true p c below n = past_grows p c below n
skipped_grows false p c below n = omega arith

read_end_grows : (p : Layout) (c : Copying) (pos : ℕ) (e : CellEnd) (n k : ℕ) → n ≤ k → n ≤ (read_end p c pos e k).next
read_end_grows p c pos (Done x) n k le = omega (arith, le)
read_end_grows p c pos (Gone b) n k le = omega (arith, le)
read_end_grows p c pos (Fenced u e) n k le = le
read_end_grows p c pos _ n k le = le

read_next_grows : (p : Layout) (c : Copying) (pos : ℕ) (y : Next CellJob CellEnd) (n k : ℕ) → n ≤ k → n ≤ (read_next p c pos y k).next
read_next_grows p c pos (Goes j) n k le = le
read_next_grows p c pos (Learns j) n k le = le
read_next_grows p c pos (Ends e) n k le = read_end_grows p c pos e n k le

copy_feed_grows : (p : Layout) (c : Copying) (w : CopyWork) (u : ℕ) (x : Reply) (n : ℕ) → n ≤ (copy_feed p c w u x n).next
unfolding copy_feed
copy_feed_grows p c (Reading j) u x n = read_next_grows p c j.place.pos (cell_feed j u x n).to n (cell_feed j u x n).next (cell_grows j u x n)
copy_feed_grows p c (Sealing r) u (IsFenced e) n = learns_if_grows CopyEnd _ c n
copy_feed_grows p c (Sealing r) u (IsSealed e g) n = sealed_grows _ p c n
copy_feed_grows p c (Sealing r) u _ n = omega arith
copy_feed_grows p c (Storing r pos y) u (IsFenced e) n = learns_if_grows CopyEnd _ c n
copy_feed_grows p c (Storing r pos y) u IsHeld n = past_grows p c (pos + 1) n
copy_feed_grows p c (Storing r pos y) u (IsTaken z) n = stored_grows _ p c pos n
copy_feed_grows p c (Storing r pos y) u (IsGone b) n = skipped_grows _ p c b n
copy_feed_grows p c (Storing r pos y) u _ n = omega arith
copy_feed_grows p c (Trimming r b) u (IsFenced e) n = learns_if_grows CopyEnd _ c n
copy_feed_grows p c (Trimming r b) u (IsGone d) n = past_grows p c b n
copy_feed_grows p c (Trimming r b) u _ n = omega arith
copy_feed_grows p c (Looking r) u (IsFenced e) n = learns_if_grows CopyEnd _ c n
copy_feed_grows p c (Looking r) u IsWhole n = omega arith
copy_feed_grows p c (Looking r) u (IsMissing pos) n = from_grows p c pos n _
copy_feed_grows p c (Looking r) u _ n = omega arith

copy_grows : (b : Bool) (p : Layout) (c : Copying) (u : ℕ) (m : Msg) (n : ℕ) → n ≤ (copy_fed_if b p c u m n).next
copy_grows true p c u m n = copy_feed_grows p c c.work u (reply m) n
copy_grows false p c u m n = omega arith

-- Trims.

left_grows : (below : ℕ) (ws : Waits) (n : ℕ) → n ≤ (trims_left below ws n).next
left_grows below [] n = omega arith
left_grows below (w ∷ ws) n = omega arith

trim_feed_grows : (p : Layout) (t : Trims) (u : ℕ) (x : Reply) (n : ℕ) → n ≤ (trim_feed p t u x n).next
unfolding trim_feed
trim_feed_grows p t u (IsGone b) n = left_grows t.below (without_wait u t.waits) n
trim_feed_grows p t u (IsFenced e) n = learns_if_grows Trimmed (nat_lt p.epoch e) t n
trim_feed_grows p t u _ n = omega arith

trim_grows : (b : Bool) (p : Layout) (t : Trims) (u : ℕ) (m : Msg) (n : ℕ) → n ≤ (trim_fed_if b p t u m n).next
trim_grows true p t u m n = trim_feed_grows p t u (reply m) n
trim_grows false p t u m n = omega arith

pub numbers_grow : NumbersGrow
numbers_grow = record {
  sync = λ p s from rid m n. sync_grows (awaits (sync_asks p s) from rid) p s from.num m n;
  append = λ p a from rid m n. append_grows (awaits (append_asks p a) from rid) p a from.num m n;
  append_again = λ p a n. (append_numbers.again p a n).fits.grows;
  walk = λ p w from rid m n. walk_grows (awaits (walk_asks w) from rid) p w from.num m n;
  walk_again = λ p w n. (walk_numbers.again p w n).fits.grows;
  copy = λ p c from rid m n. copy_grows (awaits (copy_asks p c) from rid) p c from.num m n;
  trim = λ p t from rid m n. trim_grows (awaits (trim_asks p t) from rid) p t from.num m n;
  reconf = λ r from rid m n. (fed_send r from rid m n).grows;
  reconf_latest = λ r u rid q n. (latest_send r r.work u rid q n).grows;
}
