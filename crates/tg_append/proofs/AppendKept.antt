-- An append keeps its entry, and its token's page is the entry's own.
use Rattle.std.proofs.Common.{◌≡◌, ℕ, Bool, true, false, nat_lt, nat_le, List, Option, Some, None, refl, sym, subst}
use Rattle.tg_base.specs.Layouts.{Layout}
use Rattle.tg_base.specs.declared.cell.Cell.{Cell}
use Rattle.tg_base.specs.declared.cell.Cell.TheVariants.{Data}
use Rattle.tg_base.specs.declared.ids.NodeId.{NodeId}
use Rattle.tg_base.specs.declared.marks.StreamLink.{StreamLink}
use Rattle.tg_base.specs.declared.msg.Msg.{Msg}
use Rattle.tg_entry.specs.declared.entry.Entry.{Entry}
use Rattle.tg_protocol.specs.Words.{cell_eq}
use Rattle.tg_protocol.specs.Entries.{streams_of}
use Rattle.tg_protocol.specs.Requests.{Next, Goes, Learns, Ends, awaits}
use Rattle.tg_protocol.specs.Replies.{Reply, IsIssued, IsFull, IsOldEpoch, reply}
use Rattle.tg_protocol.specs.Cells.{Place, CellJob, CellEnd, Done, Seen, Lost, Fenced, Gone, place_in, put_cell, fill_cell}
use Rattle.tg_protocol.specs.Appending.{Append, AppendWork, Asking, Putting, Judging, Token, AppendEnd, AppendTurn, names_all, put_next, put_turn, judge_next, judge_turn, own_or_not, on_issued, on_older, on_newer, asking_feed, dead_or_judged, again_with, append_asks, append_feed, append_start, append_again}
use Rattle.tg_chain.specs.Turns.{fed}
use Rattle.tg_append.specs.Appends.{append_at, asking, putting, judging, append_fed, append_fed_if}
use Rattle.tg_append.specs.AppendLaws.{IsOwn, WorkKept, TokenKept, NextKept, AppendsKeep}
use Rattle.tg_append.proofs.Jobs.{PutNext, FillNext, put_fed_kept, fill_fed_kept}
use Rattle.tg_append.proofs.Subs.{put_fed, judge_fed}

put_next_kept : (p : Layout) (d : Entry) (t : Token) (j : CellJob) (y : Next CellJob CellEnd) (n : ℕ) → IsOwn d t.page →
    PutNext (place_in p t.pos) t.page y → NextKept p d (put_next (putting d t j) t y n).to
put_next_kept p d t j (Goes k) n own h = (refl, (own, h.0, h.1))
put_next_kept p d t j (Learns k) n own h = absurd h
put_next_kept p d t j (Ends (Done c)) n own h = own
put_next_kept p d t j (Ends Seen) n own h = absurd h
put_next_kept p d t j (Ends (Lost c)) n own h = (refl, refl)
put_next_kept p d t j (Ends (Fenced u e)) n own h = (refl, own)
put_next_kept p d t j (Ends (Gone b)) n own h = tt

own_kept : (b : Bool) (p : Layout) (d : Entry) (t : Token) (j : CellJob) (n : ℕ) → IsOwn d t.page → NextKept p d (own_or_not (judging d t j) t n b).to
own_kept true p d t j n own = own
own_kept false p d t j n own = (refl, refl)

judge_next_kept : (p : Layout) (d : Entry) (t : Token) (j : CellJob) (y : Next CellJob CellEnd) (n : ℕ) → IsOwn d t.page →
    FillNext (place_in p t.pos) y → NextKept p d (judge_next (judging d t j) t y n).to
judge_next_kept p d t j (Goes k) n own h = (refl, (own, h.0, h.1))
judge_next_kept p d t j (Learns k) n own h = absurd h
judge_next_kept p d t j (Ends (Done c)) n own h = own_kept (cell_eq c (Data t.page)) p d t j n own
judge_next_kept p d t j (Ends Seen) n own h = absurd h
judge_next_kept p d t j (Ends (Lost c)) n own h = absurd h
judge_next_kept p d t j (Ends (Fenced u e)) n own h = (refl, own)
judge_next_kept p d t j (Ends (Gone b)) n own h = tt

issued_kept : (b : Bool) (p : Layout) (d : Entry) (r pos : ℕ) (ls : List StreamLink) (n : ℕ) → names_all (streams_of d) ls ≡ b →
    NextKept p d (on_issued p (asking d r) pos ls n b).to
unfolding put_cell
issued_kept true p d r pos ls n e = (refl, (record { links = ls; named = e; spelled = refl }, refl, refl))
issued_kept false p d r pos ls n e = (refl, refl)

older_kept : (b : Bool) (p : Layout) (d : Entry) (r n : ℕ) → NextKept p d (on_older {E = AppendEnd} p n (asking d r) b).to
older_kept true p d r n = (refl, refl)
older_kept false p d r n = (refl, refl)

newer_kept : (b : Bool) (p : Layout) (d : Entry) (r e n : ℕ) → NextKept p d (on_newer {E = AppendEnd} p e n (asking d r) b).to
newer_kept true p d r e n = (refl, tt)
newer_kept false p d r e n = older_kept (nat_lt e p.epoch) p d r n

asking_kept : (p : Layout) (d : Entry) (r : ℕ) (x : Reply) (n : ℕ) → NextKept p d (asking_feed p (asking d r) x n).to
asking_kept p d r (IsIssued pos ls) n = issued_kept (names_all (streams_of d) ls) p d r pos ls n refl
asking_kept p d r (IsFull l) n = tt
asking_kept p d r (IsOldEpoch e) n = newer_kept (nat_lt p.epoch e) p d r e n
asking_kept p d r _ n = (refl, refl)

asking_kept_if : (b : Bool) (p : Layout) (d : Entry) (r u : ℕ) (m : Msg) (n : ℕ) → NextKept p d (append_fed_if b p (asking d r) u m n).to
unfolding append_feed
asking_kept_if true p d r u m n = asking_kept p d r (reply m) n
asking_kept_if false p d r u m n = (refl, refl)

fed_kept : (p : Layout) (d : Entry) (t : Option Token) (w : AppendWork) (from : NodeId) (rid : ℕ) (m : Msg) (n : ℕ) → WorkKept p d t w →
    NextKept p d (append_fed p (append_at d t w) from rid m n).to
fed_kept p d None (Asking r) from rid m n h = asking_kept_if (awaits (append_asks p (asking d r)) from rid) p d r from.num m n
fed_kept p d (Some t) (Asking r) from rid m n h = absurd cc
fed_kept p d None (Putting j) from rid m n h = absurd h
fed_kept p d None (Judging j) from rid m n h = absurd h
fed_kept p d (Some t) (Putting j) from rid m n h =
    let c = fed j from rid m n in
    let kept = subst (λ (a : Place). PutNext a t.page c.to) h.1 (put_fed_kept j t.page from rid m n h.2) in
    subst (λ (z : AppendTurn). NextKept p d z.to) (sym (put_fed p d t j from rid m n)) (put_next_kept p d t j c.to c.next h.0 kept)
fed_kept p d (Some t) (Judging j) from rid m n h =
    let c = fed j from rid m n in
    let kept = subst (λ (a : Place). FillNext a c.to) h.1 (fill_fed_kept j from rid m n h.2) in
    subst (λ (z : AppendTurn). NextKept p d z.to) (sym (judge_fed p d t j from rid m n)) (judge_next_kept p d t j c.to c.next h.0 kept)

judged_kept : (b : Bool) (p : Layout) (d : Entry) (t : Token) (w : AppendWork) (n : ℕ) → IsOwn d t.page → NextKept p d (dead_or_judged p (append_at d (Some t) w) t n b).to
unfolding fill_cell
judged_kept true p d t w n own = (refl, refl)
judged_kept false p d t w n own = (refl, (own, refl, refl))

again_kept : (p : Layout) (d : Entry) (t : Option Token) (w : AppendWork) (n : ℕ) → TokenKept d t → NextKept p d (append_again p (append_at d t w) n).to
unfolding append_again
again_kept p d None w n own = (refl, refl)
again_kept p d (Some t) w n own = judged_kept (nat_le p.start t.pos) p d t w n own

start_kept : (p : Layout) (d : Entry) (n : ℕ) → NextKept p d (append_start p d n).to
unfolding append_start
start_kept p d n = (refl, refl)

pub appends_keep : AppendsKeep
appends_keep = record {
  starts = start_kept;
  steps = λ p a from rid m next h. fed_kept p a.draft a.token a.work from rid m next h;
  resumes = λ p a next h. again_kept p a.draft a.token a.work next h;
}
