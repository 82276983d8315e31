-- The numbers of an append.
use Rattle.std.proofs.Common.{◌≡◌, ℕ, ◌+◌, ◌≤◌, Bool, true, false, List, [], Option, Some, None, arith}
use Rattle.std.specs.Prelude.{nat_lt, nat_le}
use Rattle.tg_base.specs.Layouts.{Layout}
use Rattle.tg_base.specs.declared.marks.StreamLink.{StreamLink}
use Rattle.tg_base.specs.declared.msg.Msg.{Msg}
use Rattle.tg_entry.specs.declared.entry.Entry.{Entry}
use Rattle.tg_protocol.specs.Entries.{streams_of}
use Rattle.tg_protocol.specs.Requests.{Next, Goes, Learns, Ends, awaits, passes}
use Rattle.tg_protocol.specs.Replies.{Reply, IsIssued, IsFull, IsOldEpoch, reply}
use Rattle.tg_protocol.specs.Cells.{CellJob, CellEnd, Done, Seen, Lost, Fenced, Gone, place_in, put_cell, fill_cell, cell_asks, cell_feed}
use Rattle.tg_protocol.specs.Appending.{Append, AppendWork, Asking, Putting, Judging, Token, AppendEnd, names_all, asks_token, put_end, put_next, own_or_not, judge_end, judge_next, on_issued, on_newer, asking_feed, by_token, dead_or_judged, again_with, append_asks, append_work_asks, append_start, append_feed, append_again}
use Rattle.tg_append.specs.Appends.{append_at, append_fed_if}
use Rattle.tg_reconf.specs.Turns.{all_drawn}
use Rattle.tg_client_state.specs.Numbers.{ThenDrawn, ThenFresh, FitsNumbers, BeginsNumbers}
use Rattle.tg_client_state.specs.Laws.{AppendNumbers}
use Rattle.tg_client_state.proofs.Steps.{more_drawn, one_below, one_from, Plain, plain_fits, plain_begins, goes_plain, learns_plain, ends_plain, gone_plain, older_fits}
use Rattle.tg_client_state.proofs.Cells.{put_below, fill_below, fill_from, cell_plain}

token_below : (p : Layout) (d : Entry) (n : ℕ) → all_drawn (n + 1) (append_asks p (append_at d None (Asking n))) ≡ true
unfolding append_work_asks
token_below p d n = one_below n

token_from : (p : Layout) (d : Entry) (n : ℕ) → ThenFresh (append_asks p) n (asks_token d n).to
unfolding append_work_asks
token_from p d n = one_from n

token_plain : (p : Layout) (d : Entry) (n k : ℕ) → n ≤ k → Plain (append_asks p) n (asks_token d k)
token_plain p d n k le = goes_plain (append_asks p) n (k + 1) _ (omega (arith, le)) (token_below p d k)

token_begins : (p : Layout) (d : Entry) (n : ℕ) → BeginsNumbers (append_asks p) n (asks_token d n)
token_begins p d n = plain_begins (append_asks p) n _ (token_plain p d n n (omega arith)) (token_from p d n)

begins : (p : Layout) (d : Entry) (n : ℕ) → BeginsNumbers (append_asks p) n (append_start p d n)
unfolding append_start
begins p d n = token_begins p d n

-- in a newer layout

judged : (p : Layout) (a : Append) (t : Token) (n : ℕ) → BeginsNumbers (append_asks p) n (judge_next a t (fill_cell (place_in p t.pos) n).to (fill_cell (place_in p t.pos) n).next)
unfolding append_work_asks fill_cell
judged p a t n = plain_begins (append_asks p) n _ (goes_plain (append_asks p) n (n + 1) _ (omega arith) (fill_below (place_in p t.pos) n)) (fill_from (place_in p t.pos) n)

dead_begins : (p : Layout) (a : Append) (t : Token) (n : ℕ) (b : Bool) → BeginsNumbers (append_asks p) n (dead_or_judged p a t n b)
dead_begins p a t n true = token_begins p a.draft n
dead_begins p a t n false = judged p a t n

with_begins : (p : Layout) (a : Append) (n : ℕ) (o : Option Token) → BeginsNumbers (append_asks p) n (again_with p a n o)
with_begins p a n None = token_begins p a.draft n
with_begins p a n (Some t) = dead_begins p a t n (nat_le p.start t.pos)

again_begins : (p : Layout) (a : Append) (n : ℕ) → BeginsNumbers (append_asks p) n (append_again p a n)
unfolding append_again
again_begins p a n = with_begins p a n a.token

-- Steps.

abbrev IsDrawn : Layout → Append → ℕ → Type 0
IsDrawn p a n = all_drawn n (append_asks p a) ≡ true

stays : (p : Layout) (a : Append) (n k : ℕ) → n ≤ k → IsDrawn p a n → Plain (append_asks p) n (passes {E = AppendEnd} k a)
stays p a n k le h = goes_plain (append_asks p) n k a le (more_drawn _ n k le h)

waits : (p : Layout) (a : Append) (n k : ℕ) → n ≤ k → IsDrawn p a n → Plain {E = AppendEnd} (append_asks p) n (record { next = k; besides = []; gone = 0; to = Learns a })
waits p a n k le h = learns_plain (append_asks p) n k a le (more_drawn _ n k le h)

put_end_plain : (p : Layout) (a : Append) (t : Token) (e : CellEnd) (n k : ℕ) → n ≤ k → IsDrawn p a n → Plain (append_asks p) n (put_end a t e k)
put_end_plain p a t (Done c) n k le h = ends_plain (append_asks p) n k _ le
put_end_plain p a t (Lost c) n k le h = token_plain p a.draft n k le
put_end_plain p a t (Gone b) n k le h = gone_plain (append_asks p) n b _ (ends_plain (append_asks p) n k _ le)
put_end_plain p a t (Fenced u e) n k le h = waits p a n k le h
put_end_plain p a t Seen n k le h = stays p a n k le h

put_next_plain : (p : Layout) (a : Append) (t : Token) (y : Next CellJob CellEnd) (n k : ℕ) → n ≤ k → ThenDrawn cell_asks k y → IsDrawn p a n → Plain (append_asks p) n (put_next a t y k)
unfolding append_work_asks
put_next_plain p a t (Goes j) n k le d h = goes_plain (append_asks p) n k _ le d
put_next_plain p a t (Learns j) n k le d h = waits p a n k le h
put_next_plain p a t (Ends e) n k le d h = put_end_plain p a t e n k le h

own_plain : (p : Layout) (a : Append) (t : Token) (n k : ℕ) (b : Bool) → n ≤ k → Plain (append_asks p) n (own_or_not a t k b)
own_plain p a t n k true le = ends_plain (append_asks p) n k _ le
own_plain p a t n k false le = token_plain p a.draft n k le

judge_end_plain : (p : Layout) (a : Append) (t : Token) (e : CellEnd) (n k : ℕ) → n ≤ k → IsDrawn p a n → Plain (append_asks p) n (judge_end a t e k)
judge_end_plain p a t (Done c) n k le h = own_plain p a t n k _ le
judge_end_plain p a t (Lost c) n k le h = stays p a n k le h
judge_end_plain p a t (Gone b) n k le h = gone_plain (append_asks p) n b _ (ends_plain (append_asks p) n k _ le)
judge_end_plain p a t (Fenced u e) n k le h = waits p a n k le h
judge_end_plain p a t Seen n k le h = stays p a n k le h

judge_next_plain : (p : Layout) (a : Append) (t : Token) (y : Next CellJob CellEnd) (n k : ℕ) → n ≤ k → ThenDrawn cell_asks k y → IsDrawn p a n → Plain (append_asks p) n (judge_next a t y k)
unfolding append_work_asks
judge_next_plain p a t (Goes j) n k le d h = goes_plain (append_asks p) n k _ le d
judge_next_plain p a t (Learns j) n k le d h = waits p a n k le h
judge_next_plain p a t (Ends e) n k le d h = judge_end_plain p a t e n k le h

issued_plain : (p : Layout) (a : Append) (pos : ℕ) (ls : List StreamLink) (n : ℕ) (b : Bool) → IsDrawn p a n → Plain (append_asks p) n (on_issued p a pos ls n b)
unfolding append_work_asks put_cell
issued_plain p a pos ls n true h = goes_plain (append_asks p) n (n + 1) _ (omega arith) (put_below (place_in p pos) _ 0 n)
issued_plain p a pos ls n false h = stays p a n n (omega arith) h

newer_fits : (p : Layout) (a : Append) (e n : ℕ) (b : Bool) → IsDrawn p a n → FitsNumbers {E = AppendEnd} (append_asks p) n (on_newer p e n a b)
newer_fits p a e n true h = plain_fits (append_asks p) n _ (waits p a n n (omega arith) h)
newer_fits p a e n false h = older_fits (append_asks p) p n a (nat_lt e p.epoch) h

asking_fits : (p : Layout) (a : Append) (x : Reply) (n : ℕ) → IsDrawn p a n → FitsNumbers (append_asks p) n (asking_feed p a x n)
asking_fits p a (IsIssued pos ls) n h = plain_fits (append_asks p) n _ (issued_plain p a pos ls n (names_all (streams_of a.draft) ls) h)
asking_fits p a (IsFull l) n h = plain_fits (append_asks p) n _ (ends_plain (append_asks p) n n _ (omega arith))
asking_fits p a (IsOldEpoch e) n h = newer_fits p a e n (nat_lt p.epoch e) h
asking_fits p a _ n h = plain_fits (append_asks p) n _ (stays p a n n (omega arith) h)

put_plain : (p : Layout) (d : Entry) (o : Option Token) (j : CellJob) (u : ℕ) (x : Reply) (n : ℕ) → IsDrawn p (append_at d o (Putting j)) n →
    Plain (append_asks p) n (by_token (append_at d o (Putting j)) n o (λ t. put_next (append_at d o (Putting j)) t (cell_feed j u x n).to (cell_feed j u x n).next))
unfolding append_work_asks
put_plain p d None j u x n h = stays p _ n n (omega arith) h
put_plain p d (Some t) j u x n h =
    let c = cell_plain j u x n h in
    put_next_plain p (append_at d (Some t) (Putting j)) t (cell_feed j u x n).to n (cell_feed j u x n).next c.grows c.drawn h

judge_plain : (p : Layout) (d : Entry) (o : Option Token) (j : CellJob) (u : ℕ) (x : Reply) (n : ℕ) → IsDrawn p (append_at d o (Judging j)) n →
    Plain (append_asks p) n (by_token (append_at d o (Judging j)) n o (λ t. judge_next (append_at d o (Judging j)) t (cell_feed j u x n).to (cell_feed j u x n).next))
unfolding append_work_asks
judge_plain p d None j u x n h = stays p _ n n (omega arith) h
judge_plain p d (Some t) j u x n h =
    let c = cell_plain j u x n h in
    judge_next_plain p (append_at d (Some t) (Judging j)) t (cell_feed j u x n).to n (cell_feed j u x n).next c.grows c.drawn h

feed_fits : (p : Layout) (d : Entry) (o : Option Token) (w : AppendWork) (u : ℕ) (x : Reply) (n : ℕ) → IsDrawn p (append_at d o w) n →
    FitsNumbers (append_asks p) n (append_feed p (append_at d o w) w u x n)
unfolding append_feed
feed_fits p d o (Asking r) u x n h = asking_fits p (append_at d o (Asking r)) x n h
feed_fits p d o (Putting j) u x n h = plain_fits (append_asks p) n _ (put_plain p d o j u x n h)
feed_fits p d o (Judging j) u x n h = plain_fits (append_asks p) n _ (judge_plain p d o j u x n h)

if_fits : (b : Bool) (p : Layout) (a : Append) (u : ℕ) (m : Msg) (n : ℕ) → IsDrawn p a n → FitsNumbers (append_asks p) n (append_fed_if b p a u m n)
if_fits true p a u m n h = feed_fits p a.draft a.token a.work u (reply m) n h
if_fits false p a u m n h = plain_fits (append_asks p) n _ (stays p a n n (omega arith) h)

pub append_numbers : AppendNumbers
append_numbers = record {
  start = begins;
  fed = λ p a from rid m n h. if_fits (awaits (append_asks p a) from rid) p a from.num m n h;
  again = again_begins;
}
