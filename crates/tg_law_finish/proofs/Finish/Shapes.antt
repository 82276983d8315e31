-- The shape of an append's machine: what it asks of a unit of the chain, and where its position lies.
use Rattle.std.proofs.Common.{◌≡◌, ℕ, zero, suc, ◌+◌, ◌<◌, List, length, Bool, true, false, refl, arith, Some, None, Option}
use Rattle.std.specs.Prelude.{nat_lt, nat_le}
use Rattle.tg_base.specs.Layouts.{Layout}
use Rattle.tg_base.specs.declared.cell.Cell.{Cell}
use Rattle.tg_base.specs.declared.cell.Cell.TheVariants.{Junk}
use Rattle.tg_base.specs.declared.marks.StreamLink.{StreamLink}
use Rattle.tg_protocol.specs.Requests.{Next, Goes, Learns, Ends}
use Rattle.tg_protocol.specs.Replies.{Reply}
use Rattle.tg_protocol.specs.Replies as replied
use Rattle.tg_protocol.specs.Cells.{Place, CellWork, Puts, Gets, Fills, Copies, Probes, CellJob, CellEnd, Done, Seen, Lost, Fenced, Gone, works, put_on, copy_on, end_if, copy_if_same, put_cell, fill_cell, work_feed, cell_feed}
use Rattle.tg_protocol.specs.Appending.{Append, AppendWork, Asking, Putting, Judging, AppendEnd, Token, on_older, on_newer, put_next, own_or_not, judge_next, on_issued, asking_feed, by_token, append_feed, dead_or_judged, again_with, append_again}

less_of : (a b : ℕ) → nat_lt a b ≡ true → a < b
less_of a b e = grind arith

below_of : (a b : ℕ) → nat_le a b ≡ false → b < a
below_of a b e = grind arith

-- A page goes to the head, or to a unit further down.
abbrev pub PutShape : Place → CellWork → Type 0
PutShape a (Puts r d zero) = Unit {0}
PutShape a (Puts r d (suc i)) = suc i < length a.chain
PutShape a w = ⊥

abbrev PutGoes : Next CellJob CellEnd → Type 0
PutGoes (Goes j) = PutShape j.place j.work
PutGoes to = Unit {0}

put_down : (a : Place) (d : List ℕ) (i r : ℕ) → i < length a.chain → PutShape a (Puts r d i)
put_down a d zero r less = tt
put_down a d (suc i) r less = less

put_goes : (a : Place) (d : List ℕ) (i next : ℕ) (b : Bool) → nat_lt i (length a.chain) ≡ b → PutGoes (put_on a d i next b).to
put_goes a d i next true e = put_down a d i next (less_of i (length a.chain) e)
put_goes a d i next false e = tt

put_ends : (b : Bool) (j : CellJob) (next : ℕ) (e : CellEnd) → PutShape j.place j.work → PutGoes (end_if b j next e).to
put_ends true j next e k = tt
put_ends false j next e k = k

put_fed : (a : Place) (d : List ℕ) (r i u : ℕ) (x : Reply) (next : ℕ) → PutShape a (Puts r d i) → PutGoes (work_feed (works a (Puts r d i)) (Puts r d i) u x next).to
unfolding work_feed
put_fed a d r i u (replied.IsFenced e) next k = put_ends _ (works a (Puts r d i)) next (Fenced u e) k
put_fed a d r i u replied.IsHeld next k = put_goes a d (i + 1) next _ refl
put_fed a d r i u (replied.IsTaken c) next k = put_ends _ (works a (Puts r d i)) next (Lost c) k
put_fed a d r i u (replied.IsGone b) next k = put_ends _ (works a (Puts r d i)) next (Gone b) k
put_fed a d r i u x next k = k

put_work : (a : Place) (w : CellWork) (u : ℕ) (x : Reply) (next : ℕ) → PutShape a w → PutGoes (work_feed (works a w) w u x next).to
put_work a (Puts r d i) u x next k = put_fed a d r i u x next k
put_work a (Gets r) u x next k = absurd k
put_work a (Fills r) u x next k = absurd k
put_work a (Copies r c i) u x next k = absurd k
put_work a (Probes ws) u x next k = absurd k

put_job : (j : CellJob) (u : ℕ) (x : Reply) (next : ℕ) → PutShape j.place j.work → PutGoes (cell_feed j u x next).to
unfolding cell_feed
put_job j u x next k = put_work j.place j.work u x next k

-- A position below a bound is filled, or its cell goes down the chain.
abbrev pub JudgeShape : Place → CellWork → Type 0
JudgeShape a (Fills r) = Unit {0}
JudgeShape a (Copies r c i) = i < length a.chain
JudgeShape a w = ⊥

abbrev JudgeGoes : ℕ → Next CellJob CellEnd → Type 0
JudgeGoes start (Goes j) = (j.place.pos < start) × JudgeShape j.place j.work
JudgeGoes start to = Unit {0}

module _ (start : ℕ) where
  copy_goes : (a : Place) (c : Cell) (i next : ℕ) (b : Bool) → a.pos < start → nat_lt i (length a.chain) ≡ b → JudgeGoes start (copy_on a c i next b).to
  copy_goes a c i next true low e = (low, less_of i (length a.chain) e)
  copy_goes a c i next false low e = tt

  judge_ends : (b : Bool) (j : CellJob) (next : ℕ) (e : CellEnd) → j.place.pos < start → JudgeShape j.place j.work → JudgeGoes start (end_if b j next e).to
  judge_ends true j next e low k = tt
  judge_ends false j next e low k = (low, k)

  same_goes : (a : Place) (c : Cell) (r i next : ℕ) (b : Bool) → a.pos < start → i < length a.chain → JudgeGoes start (copy_if_same (works a (Copies r c i)) c i next b).to
  same_goes a c r i next true low k = copy_goes a c (i + 1) next _ low refl
  same_goes a c r i next false low k = (low, k)

  fill_fed : (a : Place) (r u : ℕ) (x : Reply) (next : ℕ) → a.pos < start → JudgeGoes start (work_feed (works a (Fills r)) (Fills r) u x next).to
  unfolding work_feed
  fill_fed a r u (replied.IsFenced e) next low = judge_ends _ (works a (Fills r)) next (Fenced u e) low tt
  fill_fed a r u replied.IsHeld next low = copy_goes a Junk 1 next _ low refl
  fill_fed a r u (replied.IsTaken c) next low = copy_goes a c 1 next _ low refl
  fill_fed a r u (replied.IsGone b) next low = judge_ends _ (works a (Fills r)) next (Gone b) low tt
  fill_fed a r u x next low = (low, tt)

  copy_fed : (a : Place) (c : Cell) (r i u : ℕ) (x : Reply) (next : ℕ) → a.pos < start → i < length a.chain → JudgeGoes start (work_feed (works a (Copies r c i)) (Copies r c i) u x next).to
  unfolding work_feed
  copy_fed a c r i u (replied.IsFenced e) next low k = judge_ends _ (works a (Copies r c i)) next (Fenced u e) low k
  copy_fed a c r i u replied.IsHeld next low k = copy_goes a c (i + 1) next _ low refl
  copy_fed a c r i u (replied.IsTaken y) next low k = same_goes a c r i next _ low k
  copy_fed a c r i u (replied.IsGone b) next low k = judge_ends _ (works a (Copies r c i)) next (Gone b) low k
  copy_fed a c r i u x next low k = (low, k)

  judge_work : (a : Place) (w : CellWork) (u : ℕ) (x : Reply) (next : ℕ) → a.pos < start → JudgeShape a w → JudgeGoes start (work_feed (works a w) w u x next).to
  judge_work a (Puts r d i) u x next low k = absurd k
  judge_work a (Gets r) u x next low k = absurd k
  judge_work a (Fills r) u x next low k = fill_fed a r u x next low
  judge_work a (Copies r c i) u x next low k = copy_fed a c r i u x next low k
  judge_work a (Probes ws) u x next low k = absurd k

  judge_job : (j : CellJob) (u : ℕ) (x : Reply) (next : ℕ) → j.place.pos < start → JudgeShape j.place j.work → JudgeGoes start (cell_feed j u x next).to
  unfolding cell_feed
  judge_job j u x next low k = judge_work j.place j.work u x next low k

-- Appends, in a layout.
module _ (p : Layout) where
  abbrev pub Shape : AppendWork → Type 0
  Shape (Asking r) = Unit {0}
  Shape (Putting j) = PutShape j.place j.work
  Shape (Judging j) = (j.place.pos < p.start) × JudgeShape j.place j.work

  abbrev pub Next' : Next Append AppendEnd → Type 0
  Next' (Goes a) = Shape a.work
  Next' (Learns a) = Shape a.work
  Next' (Ends e) = Unit {0}

  module _ (a : Append) (ok : Shape a.work) where
    put_next_ok : (t : Token) (to : Next CellJob CellEnd) (next : ℕ) → PutGoes to → Next' (put_next a t to next).to
    put_next_ok t (Goes j) next k = k
    put_next_ok t (Learns j) next k = ok
    put_next_ok t (Ends Seen) next k = ok
    put_next_ok t (Ends (Fenced u e)) next k = ok
    put_next_ok t (Ends (Done c)) next k = tt
    put_next_ok t (Ends (Lost c)) next k = tt
    put_next_ok t (Ends (Gone b)) next k = tt

    own_ok : (t : Token) (next : ℕ) (b : Bool) → Next' (own_or_not a t next b).to
    own_ok t next true = tt
    own_ok t next false = tt

    judge_next_ok : (t : Token) (to : Next CellJob CellEnd) (next : ℕ) → JudgeGoes p.start to → Next' (judge_next a t to next).to
    judge_next_ok t (Goes j) next k = k
    judge_next_ok t (Learns j) next k = ok
    judge_next_ok t (Ends Seen) next k = ok
    judge_next_ok t (Ends (Fenced u e)) next k = ok
    judge_next_ok t (Ends (Done c)) next k = own_ok t next _
    judge_next_ok t (Ends (Lost c)) next k = ok
    judge_next_ok t (Ends (Gone b)) next k = tt

    issued_ok : (pos : ℕ) (ls : List StreamLink) (next : ℕ) (b : Bool) → Next' (on_issued p a pos ls next b).to
    unfolding put_cell
    issued_ok pos ls next true = tt
    issued_ok pos ls next false = ok

    old_ok : (e next : ℕ) (b : Bool) → Next' (on_newer p e next a b).to
    old_ok e next true = ok
    old_ok e next false = by (nat_lt e p.epoch)
      where
        by : (b : Bool) → Next' (on_older p next a b).to
        by true = ok
        by false = ok

    asking_ok : (x : Reply) (next : ℕ) → Next' (asking_feed p a x next).to
    asking_ok (replied.IsIssued pos ls) next = issued_ok pos ls next _
    asking_ok (replied.IsFull l) next = tt
    asking_ok (replied.IsOldEpoch e) next = old_ok e next _
    asking_ok x next = ok

    append_at : (w : AppendWork) (n : ℕ) (x : Reply) (next : ℕ) → Shape w → Next' (append_feed p a w n x next).to
    unfolding append_feed
    append_at (Asking r) n x next k = asking_ok x next
    append_at (Putting j) n x next k = by a.token
      where
        by : (t : Option Token) → Next' (by_token a next t (λ u. put_next a u (cell_feed j n x next).to (cell_feed j n x next).next)).to
        by None = ok
        by (Some u) = put_next_ok u (cell_feed j n x next).to _ (put_job j n x next k)
    append_at (Judging j) n x next k = by a.token
      where
        by : (t : Option Token) → Next' (by_token a next t (λ u. judge_next a u (cell_feed j n x next).to (cell_feed j n x next).next)).to
        by None = ok
        by (Some u) = judge_next_ok u (cell_feed j n x next).to _ (judge_job p.start j n x next k.0 k.1)

  pub append_keeps : (a : Append) (n : ℕ) (x : Reply) (next : ℕ) → Shape a.work → Next' (append_feed p a a.work n x next).to
  append_keeps a n x next k = append_at a k a.work n x next k

  judged : (a : Append) (next : ℕ) (t : Token) (b : Bool) → nat_le p.start t.pos ≡ b → Next' (dead_or_judged p a t next b).to
  unfolding fill_cell
  judged a next t true e = tt
  judged a next t false e = (below_of p.start t.pos e, tt)

  pub append_again_keeps : (a : Append) (next : ℕ) → Next' (append_again p a next).to
  unfolding append_again
  append_again_keeps a next = by a.token
    where
      by : (t : Option Token) → Next' (again_with p a next t).to
      by None = tt
      by (Some t) = judged a next t _ refl
