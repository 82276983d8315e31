-- The numbers of a sync.
use Rattle.std.proofs.Common.{◌≡◌, ℕ, ◌+◌, ◌-◌, ◌≤◌, Bool, true, false, List, [], length, arith}
use Rattle.std.specs.Prelude.{nat_lt}
use Rattle.tg_base.specs.Layouts.{Layout}
use Rattle.tg_base.specs.declared.ids.Oid.{Oid}
use Rattle.tg_base.specs.declared.msg.Msg.{Msg}
use Rattle.tg_protocol.specs.Layouts.{chain_of}
use Rattle.tg_protocol.specs.Requests.{Next, Goes, Learns, Ends, awaits, passes}
use Rattle.tg_protocol.specs.Replies.{Reply, IsTail, IsOldEpoch, reply}
use Rattle.tg_protocol.specs.Cells.{CellJob, CellEnd, Done, Seen, Fenced, Gone, place_in, fill_cell, probe, cell_asks, cell_feed}
use Rattle.tg_protocol.specs.Appending.{names_all, on_newer}
use Rattle.tg_protocol.specs.Syncing.{Sync, SyncWork, Checking, Settling, Probing, Answer, Confirmed, sync_asks, sync_work_asks, sync_start, probe_end, probe_next, probes, settle_end, settle_next, confirm_by, on_tail, checking_feed, sync_feed}
use Rattle.tg_append.specs.Syncs.{sync_at, sync_fed_if}
use Rattle.tg_reconf.specs.Turns.{all_drawn}
use Rattle.tg_client_state.specs.Numbers.{ThenDrawn, FitsNumbers, BeginsNumbers}
use Rattle.tg_client_state.specs.Laws.{SyncNumbers}
use Rattle.tg_client_state.proofs.Steps.{more_drawn, one_below, one_from, Plain, plain_fits, plain_begins, goes_plain, learns_plain, ends_plain, gone_plain, later_plain, older_fits}
use Rattle.tg_client_state.proofs.Cells.{fill_below, probe_below, cell_plain}

begins : (p : Layout) (os : List Oid) (n : ℕ) → BeginsNumbers (sync_asks p) n (sync_start os n)
unfolding sync_start sync_work_asks
begins p os n = plain_begins (sync_asks p) n _ (goes_plain (sync_asks p) n (n + 1) _ (omega arith) (one_below n)) (one_from n)

abbrev IsDrawn : Layout → Sync → ℕ → Type 0
IsDrawn p s n = all_drawn n (sync_asks p s) ≡ true

stays : (p : Layout) (s : Sync) (n k : ℕ) → n ≤ k → IsDrawn p s n → Plain (sync_asks p) n (passes {E = Confirmed} k s)
stays p s n k le h = goes_plain (sync_asks p) n k s le (more_drawn _ n k le h)

waits : (p : Layout) (s : Sync) (n k : ℕ) → n ≤ k → IsDrawn p s n → Plain {E = Confirmed} (sync_asks p) n (record { next = k; besides = []; gone = 0; to = Learns s })
waits p s n k le h = learns_plain (sync_asks p) n k s le (more_drawn _ n k le h)

-- the probe of a chain

probe_end_plain : (p : Layout) (s : Sync) (a : Answer) (e : CellEnd) (n k : ℕ) → n ≤ k → IsDrawn p s n → Plain (sync_asks p) n (probe_end s a e k)
probe_end_plain p s a Seen n k le h = ends_plain (sync_asks p) n k _ le
probe_end_plain p s a (Fenced u e) n k le h = waits p s n k le h
probe_end_plain p s a _ n k le h = stays p s n k le h

probe_next_plain : (p : Layout) (s : Sync) (a : Answer) (y : Next CellJob CellEnd) (n k : ℕ) → n ≤ k → ThenDrawn cell_asks k y → IsDrawn p s n → Plain (sync_asks p) n (probe_next s a y k)
unfolding sync_work_asks
probe_next_plain p s a (Goes j) n k le d h = goes_plain (sync_asks p) n k _ le d
probe_next_plain p s a (Learns j) n k le d h = waits p s n k le h
probe_next_plain p s a (Ends e) n k le d h = probe_end_plain p s a e n k le h

probes_plain : (p : Layout) (s : Sync) (a : Answer) (n : ℕ) → Plain (sync_asks p) n (probes p s a n)
unfolding sync_work_asks probe
probes_plain p s a n = goes_plain (sync_asks p) n (n + length (chain_of p (a.tail - 1))) _ (omega arith) (probe_below (place_in p (a.tail - 1)) n)

-- the last position is settled

settle_end_plain : (p : Layout) (s : Sync) (a : Answer) (e : CellEnd) (n k : ℕ) → n ≤ k → IsDrawn p s n → Plain (sync_asks p) n (settle_end p s a e k)
settle_end_plain p s a (Done c) n k le h = ends_plain (sync_asks p) n k _ le
settle_end_plain p s a (Gone b) n k le h = gone_plain (sync_asks p) n b _ (later_plain (sync_asks p) n k _ le (probes_plain p s a k))
settle_end_plain p s a (Fenced u e) n k le h = waits p s n k le h
settle_end_plain p s a _ n k le h = stays p s n k le h

settle_next_plain : (p : Layout) (s : Sync) (a : Answer) (y : Next CellJob CellEnd) (n k : ℕ) → n ≤ k → ThenDrawn cell_asks k y → IsDrawn p s n → Plain (sync_asks p) n (settle_next p s a y k)
unfolding sync_work_asks
settle_next_plain p s a (Goes j) n k le d h = goes_plain (sync_asks p) n k _ le d
settle_next_plain p s a (Learns j) n k le d h = waits p s n k le h
settle_next_plain p s a (Ends e) n k le d h = settle_end_plain p s a e n k le h

confirm_plain : (p : Layout) (s : Sync) (a : Answer) (n : ℕ) (b : Bool) → Plain (sync_asks p) n (confirm_by p s a n b)
unfolding sync_work_asks fill_cell
confirm_plain p s a n true = goes_plain (sync_asks p) n (n + 1) _ (omega arith) (fill_below (place_in p (a.tail - 1)) n)
confirm_plain p s a n false = probes_plain p s a n

tail_plain : (p : Layout) (s : Sync) (a : Answer) (n : ℕ) (b : Bool) → IsDrawn p s n → Plain (sync_asks p) n (on_tail p s a n b)
tail_plain p s a n true h = confirm_plain p s a n (nat_lt p.start a.tail)
tail_plain p s a n false h = stays p s n n (omega arith) h

newer_fits : (p : Layout) (s : Sync) (e n : ℕ) (b : Bool) → IsDrawn p s n → FitsNumbers {E = Confirmed} (sync_asks p) n (on_newer p e n s b)
newer_fits p s e n true h = plain_fits (sync_asks p) n _ (waits p s n n (omega arith) h)
newer_fits p s e n false h = older_fits (sync_asks p) p n s (nat_lt e p.epoch) h

checking_fits : (p : Layout) (s : Sync) (x : Reply) (n : ℕ) → IsDrawn p s n → FitsNumbers (sync_asks p) n (checking_feed p s x n)
checking_fits p s (IsTail t ls) n h = plain_fits (sync_asks p) n _ (tail_plain p s (record { tail = t; lasts = ls }) n (names_all s.oids ls) h)
checking_fits p s (IsOldEpoch e) n h = newer_fits p s e n (nat_lt p.epoch e) h
checking_fits p s _ n h = plain_fits (sync_asks p) n _ (stays p s n n (omega arith) h)

settle_plain : (p : Layout) (os : List Oid) (a : Answer) (j : CellJob) (u : ℕ) (x : Reply) (n : ℕ) → IsDrawn p (sync_at os (Settling a j)) n →
    Plain (sync_asks p) n (settle_next p (sync_at os (Settling a j)) a (cell_feed j u x n).to (cell_feed j u x n).next)
unfolding sync_work_asks
settle_plain p os a j u x n h =
    let c = cell_plain j u x n h in
    settle_next_plain p (sync_at os (Settling a j)) a (cell_feed j u x n).to n (cell_feed j u x n).next c.grows c.drawn h

probe_plain : (p : Layout) (os : List Oid) (a : Answer) (j : CellJob) (u : ℕ) (x : Reply) (n : ℕ) → IsDrawn p (sync_at os (Probing a j)) n →
    Plain (sync_asks p) n (probe_next (sync_at os (Probing a j)) a (cell_feed j u x n).to (cell_feed j u x n).next)
unfolding sync_work_asks
probe_plain p os a j u x n h =
    let c = cell_plain j u x n h in
    probe_next_plain p (sync_at os (Probing a j)) a (cell_feed j u x n).to n (cell_feed j u x n).next c.grows c.drawn h

feed_fits : (p : Layout) (os : List Oid) (w : SyncWork) (u : ℕ) (x : Reply) (n : ℕ) → IsDrawn p (sync_at os w) n → FitsNumbers (sync_asks p) n (sync_feed p (sync_at os w) w u x n)
unfolding sync_feed
feed_fits p os (Checking r) u x n h = checking_fits p (sync_at os (Checking r)) x n h
feed_fits p os (Settling a j) u x n h = plain_fits (sync_asks p) n _ (settle_plain p os a j u x n h)
feed_fits p os (Probing a j) u x n h = plain_fits (sync_asks p) n _ (probe_plain p os a j u x n h)

if_fits : (b : Bool) (p : Layout) (s : Sync) (u : ℕ) (m : Msg) (n : ℕ) → IsDrawn p s n → FitsNumbers (sync_asks p) n (sync_fed_if b p s u m n)
if_fits true p s u m n h = feed_fits p s.oids s.work u (reply m) n h
if_fits false p s u m n h = plain_fits (sync_asks p) n _ (stays p s n n (omega arith) h)

pub sync_numbers : SyncNumbers
sync_numbers = record {
  start = begins;
  fed = λ p s from rid m n h. if_fits (awaits (sync_asks p s) from rid) p s from.num m n h;
  again = λ p s n. begins p s.oids n;
}
