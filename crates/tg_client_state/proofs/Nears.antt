-- The positions that syncs and appends were told are near.
use Rattle.std.proofs.Common.{◌≡◌, ℕ, ◌<◌, ◌^◌, Bool, true, false, List, Option, Some, None, refl, arith}
use Rattle.std.specs.Prelude.{⊤, nat_lt, nat_le, if◌then◌else◌}
use Rattle.std.proofs.lemmas.Bool.Decides.{nat_tests}
use Rattle.tg_base.specs.Layouts.{Layout}
use Rattle.tg_base.specs.declared.cell.Cell.TheVariants.{Data}
use Rattle.tg_base.specs.declared.ids.Oid.{Oid}
use Rattle.tg_base.specs.declared.marks.StreamLink.{StreamLink}
use Rattle.tg_base.specs.declared.msg.Msg.{Msg}
use Rattle.tg_base.specs.declared.msg.Msg.TheVariants as msg
use Rattle.tg_entry.specs.declared.entry.Entry.{Entry}
use Rattle.tg_protocol.specs.Words.{too_far, cell_eq}
use Rattle.tg_protocol.specs.Entries.{streams_of}
use Rattle.tg_protocol.specs.Requests.{Next, Goes, Learns, Ends, awaits}
use Rattle.tg_protocol.specs.Replies.{Reply, IsGone, IsSealed, IsMissing, IsLatest, IsIssued, IsTail, IsFull, IsOldEpoch, IsOther, reply}
use Rattle.tg_protocol.specs.Cells.{CellJob, CellEnd, Done, Seen, Lost, Fenced, Gone, put_cell, fill_cell, probe, cell_feed}
use Rattle.tg_protocol.specs.Appending.{Append, AppendWork, Asking, Putting, Judging, Token, names_all, on_older, on_newer, put_end, put_next, own_or_not, judge_end, judge_next, on_issued, asking_feed, by_token, dead_or_judged, again_with, append_asks, append_start, append_feed, append_again}
use Rattle.tg_protocol.specs.Syncing.{Sync, SyncWork, Checking, Settling, Probing, Answer, sync_asks, sync_start, probe_end, probe_next, probes, settle_end, settle_next, confirm_by, on_tail, checking_feed, sync_feed}
use Rattle.tg_append.specs.Appends.{append_fed_if}
use Rattle.tg_append.specs.Syncs.{sync_at, sync_fed_if}
use Rattle.tg_append.specs.SyncLaws.{answer_in}
use Rattle.tg_client_state.specs.Near.{NearAnswer, SyncThenNear, SyncStaysNear, NearToken, AppendThenNear, AppendStaysNear}

-- What an answer names.

abbrev IsNear : Reply → Type 0
IsNear (IsTail t ls) = t < 2 ^ 62
IsNear (IsIssued p ls) = p < 2 ^ 62
IsNear x = ⊤

below : (a k : ℕ) → nat_le k a ≡ false → a < k
below a k h = grind (arith, nat_tests)

tail_near : (b : Bool) (t : ℕ) (ls : List StreamLink) → too_far t ≡ b → IsNear (if b then IsOther else IsTail t ls)
tail_near true t ls h = tt
tail_near false t ls h = below t (2 ^ 62) h

issued_near : (b : Bool) (p : ℕ) (ls : List StreamLink) → too_far p ≡ b → IsNear (if b then IsOther else IsIssued p ls)
issued_near true p ls h = tt
issued_near false p ls h = below p (2 ^ 62) h

other_near : (b : Bool) (x : Reply) → IsNear x → IsNear (if b then IsOther else x)
other_near true x h = tt
other_near false x h = h

reply_near : (m : Msg) → IsNear (reply m)
unfolding reply
reply_near (msg.Gone b) = other_near (too_far b) (IsGone b) tt
reply_near (msg.Sealed e h) = other_near (too_far h) (IsSealed e h) tt
reply_near (msg.Missing p) = other_near (too_far p) (IsMissing p) tt
reply_near (msg.Latest q) = other_near (nat_le (2 ^ 32) q.epoch) (IsLatest q) tt
reply_near (msg.Issued p ls) = issued_near (too_far p) p ls refl
reply_near (msg.Tail t ls) = tail_near (too_far t) t ls refl
reply_near _ = tt

-- Syncs.

sync_older : (p : Layout) (s : Sync) (n : ℕ) (b : Bool) → NearAnswer (answer_in s.work) → SyncThenNear (on_older p n s b).to
sync_older p s n true h = h
sync_older p s n false h = h

sync_newer : (p : Layout) (s : Sync) (e n : ℕ) (b : Bool) → NearAnswer (answer_in s.work) → SyncThenNear (on_newer p e n s b).to
sync_newer p s e n true h = h
sync_newer p s e n false h = sync_older p s n (nat_lt e p.epoch) h

probe_end_near : (s : Sync) (a : Answer) (e : CellEnd) (k : ℕ) → NearAnswer (answer_in s.work) → a.tail < 2 ^ 62 → SyncThenNear (probe_end s a e k).to
probe_end_near s a Seen k h near = near
probe_end_near s a (Fenced u e) k h near = h
probe_end_near s a _ k h near = h

probe_next_near : (s : Sync) (a : Answer) (y : Next CellJob CellEnd) (k : ℕ) → NearAnswer (answer_in s.work) → a.tail < 2 ^ 62 → SyncThenNear (probe_next s a y k).to
probe_next_near s a (Goes j) k h near = near
probe_next_near s a (Learns j) k h near = h
probe_next_near s a (Ends e) k h near = probe_end_near s a e k h near

probes_near : (p : Layout) (s : Sync) (a : Answer) (k : ℕ) → a.tail < 2 ^ 62 → SyncThenNear (probes p s a k).to
unfolding probe
probes_near p s a k near = near

settle_end_near : (p : Layout) (s : Sync) (a : Answer) (e : CellEnd) (k : ℕ) → NearAnswer (answer_in s.work) → a.tail < 2 ^ 62 → SyncThenNear (settle_end p s a e k).to
settle_end_near p s a (Done c) k h near = near
settle_end_near p s a (Gone b) k h near = probes_near p s a k near
settle_end_near p s a (Fenced u e) k h near = h
settle_end_near p s a _ k h near = h

settle_next_near : (p : Layout) (s : Sync) (a : Answer) (y : Next CellJob CellEnd) (k : ℕ) → NearAnswer (answer_in s.work) → a.tail < 2 ^ 62 → SyncThenNear (settle_next p s a y k).to
settle_next_near p s a (Goes j) k h near = near
settle_next_near p s a (Learns j) k h near = h
settle_next_near p s a (Ends e) k h near = settle_end_near p s a e k h near

confirm_near : (p : Layout) (s : Sync) (a : Answer) (k : ℕ) (b : Bool) → a.tail < 2 ^ 62 → SyncThenNear (confirm_by p s a k b).to
unfolding fill_cell
confirm_near p s a k true near = near
confirm_near p s a k false near = probes_near p s a k near

on_tail_near : (p : Layout) (s : Sync) (a : Answer) (k : ℕ) (b : Bool) → NearAnswer (answer_in s.work) → a.tail < 2 ^ 62 → SyncThenNear (on_tail p s a k b).to
on_tail_near p s a k true h near = confirm_near p s a k (nat_lt p.start a.tail) near
on_tail_near p s a k false h near = h

checking_near : (p : Layout) (s : Sync) (x : Reply) (n : ℕ) → NearAnswer (answer_in s.work) → IsNear x → SyncThenNear (checking_feed p s x n).to
checking_near p s (IsTail t ls) n h near = on_tail_near p s (record { tail = t; lasts = ls }) n (names_all s.oids ls) h near
checking_near p s (IsOldEpoch e) n h near = sync_newer p s e n (nat_lt p.epoch e) h
checking_near p s _ n h near = h

sync_feed_near : (p : Layout) (os : List Oid) (w : SyncWork) (u : ℕ) (x : Reply) (n : ℕ) → NearAnswer (answer_in w) → IsNear x → SyncThenNear (sync_feed p (sync_at os w) w u x n).to
unfolding sync_feed
sync_feed_near p os (Checking r) u x n h near = checking_near p (sync_at os (Checking r)) x n h near
sync_feed_near p os (Settling a j) u x n h near = settle_next_near p (sync_at os (Settling a j)) a (cell_feed j u x n).to (cell_feed j u x n).next h h
sync_feed_near p os (Probing a j) u x n h near = probe_next_near (sync_at os (Probing a j)) a (cell_feed j u x n).to (cell_feed j u x n).next h h

sync_if_near : (b : Bool) (p : Layout) (s : Sync) (u : ℕ) (m : Msg) (n : ℕ) → NearAnswer (answer_in s.work) → SyncThenNear (sync_fed_if b p s u m n).to
sync_if_near true p s u m n h = sync_feed_near p s.oids s.work u (reply m) n h (reply_near m)
sync_if_near false p s u m n h = h

sync_begins_near : (os : List Oid) (n : ℕ) → SyncThenNear (sync_start os n).to
unfolding sync_start
sync_begins_near os n = tt

pub sync_stays_near : SyncStaysNear
sync_stays_near = record {
  start = sync_begins_near;
  fed = λ p s from rid m n h. sync_if_near (awaits (sync_asks p s) from rid) p s from.num m n h;
  again = λ s n. sync_begins_near s.oids n;
}

-- Appends.

append_older : (p : Layout) (a : Append) (n : ℕ) (b : Bool) → NearToken a.token → AppendThenNear (on_older p n a b).to
append_older p a n true h = h
append_older p a n false h = h

append_newer : (p : Layout) (a : Append) (e n : ℕ) (b : Bool) → NearToken a.token → AppendThenNear (on_newer p e n a b).to
append_newer p a e n true h = h
append_newer p a e n false h = append_older p a n (nat_lt e p.epoch) h

put_end_near : (a : Append) (t : Token) (e : CellEnd) (k : ℕ) → NearToken a.token → t.pos < 2 ^ 62 → AppendThenNear (put_end a t e k).to
put_end_near a t (Done c) k h near = near
put_end_near a t (Lost c) k h near = tt
put_end_near a t (Gone b) k h near = near
put_end_near a t (Fenced u e) k h near = h
put_end_near a t Seen k h near = h

put_next_near : (a : Append) (t : Token) (y : Next CellJob CellEnd) (k : ℕ) → NearToken a.token → t.pos < 2 ^ 62 → AppendThenNear (put_next a t y k).to
put_next_near a t (Goes j) k h near = near
put_next_near a t (Learns j) k h near = h
put_next_near a t (Ends e) k h near = put_end_near a t e k h near

own_near : (a : Append) (t : Token) (k : ℕ) (b : Bool) → t.pos < 2 ^ 62 → AppendThenNear (own_or_not a t k b).to
own_near a t k true near = near
own_near a t k false near = tt

judge_end_near : (a : Append) (t : Token) (e : CellEnd) (k : ℕ) → NearToken a.token → t.pos < 2 ^ 62 → AppendThenNear (judge_end a t e k).to
judge_end_near a t (Done c) k h near = own_near a t k (cell_eq c (Data t.page)) near
judge_end_near a t (Lost c) k h near = h
judge_end_near a t (Gone b) k h near = near
judge_end_near a t (Fenced u e) k h near = h
judge_end_near a t Seen k h near = h

judge_next_near : (a : Append) (t : Token) (y : Next CellJob CellEnd) (k : ℕ) → NearToken a.token → t.pos < 2 ^ 62 → AppendThenNear (judge_next a t y k).to
judge_next_near a t (Goes j) k h near = near
judge_next_near a t (Learns j) k h near = h
judge_next_near a t (Ends e) k h near = judge_end_near a t e k h near

on_issued_near : (p : Layout) (a : Append) (pos : ℕ) (ls : List StreamLink) (n : ℕ) (b : Bool) → NearToken a.token → pos < 2 ^ 62 → AppendThenNear (on_issued p a pos ls n b).to
unfolding put_cell
on_issued_near p a pos ls n true h near = near
on_issued_near p a pos ls n false h near = h

asking_near : (p : Layout) (a : Append) (x : Reply) (n : ℕ) → NearToken a.token → IsNear x → AppendThenNear (asking_feed p a x n).to
asking_near p a (IsIssued pos ls) n h near = on_issued_near p a pos ls n (names_all (streams_of a.draft) ls) h near
asking_near p a (IsFull l) n h near = tt
asking_near p a (IsOldEpoch e) n h near = append_newer p a e n (nat_lt p.epoch e) h
asking_near p a _ n h near = h

put_near : (a : Append) (o : Option Token) (j : CellJob) (u : ℕ) (x : Reply) (n : ℕ) → NearToken a.token → NearToken o →
    AppendThenNear (by_token a n o (λ t. put_next a t (cell_feed j u x n).to (cell_feed j u x n).next)).to
put_near a None j u x n h near = h
put_near a (Some t) j u x n h near = put_next_near a t (cell_feed j u x n).to (cell_feed j u x n).next h near

judge_near : (a : Append) (o : Option Token) (j : CellJob) (u : ℕ) (x : Reply) (n : ℕ) → NearToken a.token → NearToken o →
    AppendThenNear (by_token a n o (λ t. judge_next a t (cell_feed j u x n).to (cell_feed j u x n).next)).to
judge_near a None j u x n h near = h
judge_near a (Some t) j u x n h near = judge_next_near a t (cell_feed j u x n).to (cell_feed j u x n).next h near

append_feed_near : (p : Layout) (a : Append) (w : AppendWork) (u : ℕ) (x : Reply) (n : ℕ) → NearToken a.token → IsNear x → AppendThenNear (append_feed p a w u x n).to
unfolding append_feed
append_feed_near p a (Asking r) u x n h near = asking_near p a x n h near
append_feed_near p a (Putting j) u x n h near = put_near a a.token j u x n h h
append_feed_near p a (Judging j) u x n h near = judge_near a a.token j u x n h h

append_if_near : (b : Bool) (p : Layout) (a : Append) (u : ℕ) (m : Msg) (n : ℕ) → NearToken a.token → AppendThenNear (append_fed_if b p a u m n).to
append_if_near true p a u m n h = append_feed_near p a a.work u (reply m) n h (reply_near m)
append_if_near false p a u m n h = h

dead_near : (p : Layout) (a : Append) (t : Token) (n : ℕ) (b : Bool) → t.pos < 2 ^ 62 → AppendThenNear (dead_or_judged p a t n b).to
unfolding fill_cell
dead_near p a t n true near = tt
dead_near p a t n false near = near

with_near : (p : Layout) (a : Append) (n : ℕ) (o : Option Token) → NearToken o → AppendThenNear (again_with p a n o).to
with_near p a n None near = tt
with_near p a n (Some t) near = dead_near p a t n (nat_le p.start t.pos) near

append_begins_near : (p : Layout) (d : Entry) (n : ℕ) → AppendThenNear (append_start p d n).to
unfolding append_start
append_begins_near p d n = tt

append_again_near : (p : Layout) (a : Append) (n : ℕ) → NearToken a.token → AppendThenNear (append_again p a n).to
unfolding append_again
append_again_near p a n h = with_near p a n a.token h

pub append_stays_near : AppendStaysNear
append_stays_near = record {
  start = append_begins_near;
  fed = λ p a from rid m n h. append_if_near (awaits (append_asks p a) from rid) p a from.num m n h;
  again = append_again_near;
}
