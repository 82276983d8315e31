-- How many requests an append still sends.
use Rattle.std.proofs.Common.{◌≡◌, ℕ, ◌+◌, ◌-◌, ◌≤◌, Bool, true, false, not, ◌&&◌, ◌==◌, nat_lt, nat_le, List, [], ◌∷◌, length, Option, Some, None, refl, sym, ap, subst, ◌∙◌, arith}
use Rattle.tg_base.specs.Layouts.{Layout}
use Rattle.tg_base.specs.declared.cell.Cell.{Cell}
use Rattle.tg_base.specs.declared.cell.Cell.TheVariants.{Data}
use Rattle.tg_base.specs.declared.ids.NodeId.{NodeId}
use Rattle.tg_base.specs.declared.marks.StreamLink.{StreamLink}
use Rattle.tg_base.specs.declared.msg.Msg.{Msg}
use Rattle.tg_base.specs.declared.packet.Packet.{Packet}
use Rattle.tg_entry.specs.declared.entry.Entry.{Entry}
use Rattle.tg_protocol.specs.Words.{cell_eq}
use Rattle.tg_protocol.specs.Layouts.{chain_of}
use Rattle.tg_protocol.specs.Entries.{streams_of}
use Rattle.tg_protocol.specs.Requests.{Next, Goes, Learns, Ends, awaits}
use Rattle.tg_protocol.specs.Replies.{Reply, IsTaken, IsIssued, IsFull, IsOldEpoch, reply}
use Rattle.tg_protocol.specs.Cells.{Place, CellJob, CellWork, Puts, Gets, Fills, Copies, Probes, CellEnd, Done, Seen, Lost, Fenced, Gone, works, place_in, put_cell, fill_cell, cell_asks}
use Rattle.tg_protocol.specs.Appending.{Append, AppendWork, Asking, Putting, Judging, Token, AppendEnd, AppendTurn, names_all, put_next, judge_next, own_or_not, on_issued, on_older, on_newer, asking_feed, dead_or_judged, append_asks, append_feed, append_work_asks, append_again}
use Rattle.tg_chain.specs.Turns.{fed}
use Rattle.tg_chain.specs.Laws.{Loses, left, left_then}
use Rattle.tg_chain.proofs.Steps.{steps_are_few, ends_by_answers}
use Rattle.tg_append.specs.Appends.{append_at, asking, putting, judging, append_fed, append_fed_if}
use Rattle.tg_append.specs.AppendLaws.{WorkKept, IsKept, NextKept, HasChainsUpTo, append_left_in, append_left, count_if, extra_in, append_extra, append_fed_next, append_fed_all, append_extra_all, AppendRequestsAreFew, AppendResumesWithFew}
use Rattle.tg_append.proofs.AppendEnds.{Ended}
use Rattle.tg_append.proofs.AppendKept.{appends_keep}
use Rattle.tg_append.proofs.Jobs.{PutNext, FillNext, put_fed_kept, fill_fed_kept}
use Rattle.tg_append.proofs.Subs.{put_fed, judge_fed}

-- a put that is lost costs a further token and its put
lost_costs : (most : ℕ) (p : Layout) (a : Place) (w : CellWork) (x : Reply) (c : Cell) → Loses w x c → extra_in most p (Putting (works a w)) x ≡ 1 + most
lost_costs most p a (Puts r d i) x c by =
    ap (extra_in most p (Putting (works a (Puts r d i)))) by.1
    ∙ ap (λ (k : ℕ). count_if ((k == 0) && not (cell_eq c (Data d))) (1 + most)) by.0
    ∙ ap (λ (b : Bool). count_if (not b) (1 + most)) by.2
lost_costs most p a (Gets r) x c by = absurd cc
lost_costs most p a (Fills r) x c by = absurd cc
lost_costs most p a (Copies r c' i) x c by = absurd cc
lost_costs most p a (Probes ws) x c by = absurd cc

put_next_few : (b : Bool) (p : Layout) (most : ℕ) (d : Entry) (t : Token) (j : CellJob) (y : Next CellJob CellEnd) (n u : ℕ) (x : Reply) (old : ℕ) →
    PutNext (place_in p t.pos) t.page y → Ended b j u x y → n + left_then y ≤ old + left j →
    (put_next (putting d t j) t y n).next + append_left most (put_next (putting d t j) t y n).to ≤ old + left j + count_if b (extra_in most p (Putting j) x)
put_next_few b p most d t j (Goes k) n u x old kept ended few = omega arith
put_next_few b p most d t j (Learns k) n u x old kept ended few = absurd kept
put_next_few b p most d t j (Ends (Done c)) n u x old kept ended few = omega arith
put_next_few b p most d t j (Ends Seen) n u x old kept ended few = absurd kept
put_next_few b p most d t j (Ends (Lost c)) n u x old kept ended few =
    let by = ended (Lost c) refl in
    let costs : count_if b (extra_in most p (Putting j) x) ≡ 1 + most =
    ap (λ (o : Bool). count_if o (extra_in most p (Putting j) x)) by.0 ∙ lost_costs most p j.place j.work x c by.1 in
    omega (arith, few, costs)
put_next_few b p most d t j (Ends (Fenced v e)) n u x old kept ended few = omega arith
put_next_few b p most d t j (Ends (Gone g)) n u x old kept ended few = omega arith

own_few : (o : Bool) (most : ℕ) (d : Entry) (t : Token) (j : CellJob) (n limit : ℕ) → n ≤ limit →
    (own_or_not (judging d t j) t n o).next + append_left most (own_or_not (judging d t j) t n o).to ≤ limit + 1 + most
own_few true most d t j n limit few = omega arith
own_few false most d t j n limit few = omega arith

judge_next_few : (p : Layout) (most : ℕ) (d : Entry) (t : Token) (j : CellJob) (y : Next CellJob CellEnd) (n old : ℕ) →
    FillNext (place_in p t.pos) y → n + left_then y ≤ old + left j →
    (judge_next (judging d t j) t y n).next + append_left most (judge_next (judging d t j) t y n).to ≤ old + left j + 1 + most
judge_next_few p most d t j (Goes k) n old kept few = omega arith
judge_next_few p most d t j (Learns k) n old kept few = absurd kept
judge_next_few p most d t j (Ends (Done c)) n old kept few = own_few (cell_eq c (Data t.page)) most d t j n (old + left j) (omega arith)
judge_next_few p most d t j (Ends Seen) n old kept few = absurd kept
judge_next_few p most d t j (Ends (Lost c)) n old kept few = absurd kept
judge_next_few p most d t j (Ends (Fenced v e)) n old kept few = omega arith
judge_next_few p most d t j (Ends (Gone g)) n old kept few = omega arith

issued_few : (o : Bool) (p : Layout) (most : ℕ) (d : Entry) (r pos : ℕ) (ls : List StreamLink) (old : ℕ) → HasChainsUpTo p most →
    (on_issued p (asking d r) pos ls old o).next + append_left most (on_issued p (asking d r) pos ls old o).to ≤ old + most
unfolding put_cell
issued_few true p most d r pos ls old chains =
    let some : 1 ≤ most = chains.some in
    let few : length (chain_of p pos) ≤ most = chains.chains pos in
    omega (arith, some, few)
issued_few false p most d r pos ls old chains = omega arith

older_few : (o : Bool) (p : Layout) (most : ℕ) (d : Entry) (r old : ℕ) →
    (on_older {E = AppendEnd} p old (asking d r) o).next + append_left most (on_older {E = AppendEnd} p old (asking d r) o).to ≤ old + most + count_if o 1
older_few true p most d r old = omega arith
older_few false p most d r old = omega arith

newer_few : (o : Bool) (p : Layout) (most : ℕ) (d : Entry) (r e old : ℕ) →
    (on_newer {E = AppendEnd} p e old (asking d r) o).next + append_left most (on_newer {E = AppendEnd} p e old (asking d r) o).to ≤ old + most + count_if (nat_lt e p.epoch) 1
newer_few true p most d r e old = omega arith
newer_few false p most d r e old = older_few (nat_lt e p.epoch) p most d r old

asking_few : (p : Layout) (most : ℕ) (d : Entry) (r : ℕ) (x : Reply) (old : ℕ) → HasChainsUpTo p most →
    (asking_feed p (asking d r) x old).next + append_left most (asking_feed p (asking d r) x old).to ≤ old + most + extra_in most p (Asking r) x
asking_few p most d r (IsIssued pos ls) old chains = let few = issued_few (names_all (streams_of d) ls) p most d r pos ls old chains in omega (arith, few)
asking_few p most d r (IsFull l) old chains = omega arith
asking_few p most d r (IsOldEpoch e) old chains = newer_few (nat_lt p.epoch e) p most d r e old
asking_few p most d r _ old chains = omega arith

asking_few_if : (b : Bool) (p : Layout) (most : ℕ) (d : Entry) (r u : ℕ) (m : Msg) (old : ℕ) → HasChainsUpTo p most →
    (append_fed_if b p (asking d r) u m old).next + append_left most (append_fed_if b p (asking d r) u m old).to ≤ old + most + count_if b (extra_in most p (Asking r) (reply m))
unfolding append_feed
asking_few_if true p most d r u m old chains = asking_few p most d r (reply m) old chains
asking_few_if false p most d r u m old chains = omega arith

no_extra : (b : Bool) → count_if b 0 ≡ 0
no_extra true = refl
no_extra false = refl

fed_few : (p : Layout) (most : ℕ) (d : Entry) (t : Option Token) (w : AppendWork) (q : Packet) (old : ℕ) → HasChainsUpTo p most → WorkKept p d t w →
    (append_fed p (append_at d t w) q.from q.rid q.msg old).next + append_left most (append_fed p (append_at d t w) q.from q.rid q.msg old).to
    ≤ old + append_left_in most w + append_extra most p (Goes (append_at d t w)) q
unfolding append_work_asks
fed_few p most d None (Asking r) q old chains kept = asking_few_if (awaits (append_asks p (asking d r)) q.from q.rid) p most d r q.from.num q.msg old chains
fed_few p most d (Some t) (Asking r) q old chains kept = absurd cc
fed_few p most d None (Putting j) q old chains kept = absurd kept
fed_few p most d None (Judging j) q old chains kept = absurd kept
fed_few p most d (Some t) (Putting j) q old chains kept =
    let c = fed j q.from q.rid q.msg old in
    let goes = subst (λ (z : Place). PutNext z t.page c.to) kept.1 (put_fed_kept j t.page q.from q.rid q.msg old kept.2) in
    subst (λ (z : AppendTurn). z.next + append_left most z.to ≤ old + left j + count_if (awaits (cell_asks j) q.from q.rid) (extra_in most p (Putting j) (reply q.msg)))
    (sym (put_fed p d t j q.from q.rid q.msg old))
    (put_next_few (awaits (cell_asks j) q.from q.rid) p most d t j c.to c.next q.from.num (reply q.msg) old goes (λ f g. ends_by_answers j q.from q.rid q.msg old f g) (steps_are_few j q.from q.rid q.msg old))
fed_few p most d (Some t) (Judging j) q old chains kept =
    let c = fed j q.from q.rid q.msg old in
    let goes = subst (λ (z : Place). FillNext z c.to) kept.1 (fill_fed_kept j q.from q.rid q.msg old kept.2) in
    let few = judge_next_few p most d t j c.to c.next old goes (steps_are_few j q.from q.rid q.msg old) in
    let turned : (append_fed p (judging d t j) q.from q.rid q.msg old).next + append_left most (append_fed p (judging d t j) q.from q.rid q.msg old).to ≤ old + left j + 1 + most =
    subst (λ (z : AppendTurn). z.next + append_left most z.to ≤ old + left j + 1 + most) (sym (judge_fed p d t j q.from q.rid q.msg old)) few in
    omega (arith, turned)

-- ---- runs

abbrev RunKept : Layout → Next Append AppendEnd → Type 0
RunKept p (Goes a) = IsKept p a
RunKept p (Learns a) = Unit {0}
RunKept p (Ends e) = Unit {0}

run_kept : (p : Layout) (d : Entry) (x : Next Append AppendEnd) → NextKept p d x → RunKept p x
run_kept p d (Goes a) kept = kept.1
run_kept p d (Learns a) kept = tt
run_kept p d (Ends e) kept = tt

next_kept : (p : Layout) (x : Next Append AppendEnd) (q : Packet) (old : ℕ) → RunKept p x → RunKept p (append_fed_next p x q old).to
next_kept p (Goes a) q old kept = run_kept p a.draft (append_fed p a q.from q.rid q.msg old).to (appends_keep.steps p a q.from q.rid q.msg old kept)
next_kept p (Learns a) q old kept = tt
next_kept p (Ends e) q old kept = tt

next_few : (p : Layout) (most : ℕ) (x : Next Append AppendEnd) (q : Packet) (old : ℕ) → HasChainsUpTo p most → RunKept p x →
    (append_fed_next p x q old).next + append_left most (append_fed_next p x q old).to ≤ old + append_left most x + append_extra most p x q
next_few p most (Goes a) q old chains kept = fed_few p most a.draft a.token a.work q old chains kept
next_few p most (Learns a) q old chains kept = omega arith
next_few p most (Ends e) q old chains kept = omega arith

all_few : (p : Layout) (most : ℕ) (x : Next Append AppendEnd) (qs : List Packet) (old : ℕ) → HasChainsUpTo p most → RunKept p x →
    (append_fed_all p x qs old).next ≤ old + append_left most x + append_extra_all most p x qs old
unfolding append_fed_all append_extra_all
all_few p most x [] old chains kept = omega arith
all_few p most x (q ∷ qs) old chains kept =
    let one : (append_fed_next p x q old).next + append_left most (append_fed_next p x q old).to ≤ old + append_left most x + append_extra most p x q = next_few p most x q old chains kept in
    let rest : (append_fed_all p (append_fed_next p x q old).to qs (append_fed_next p x q old).next).next
    ≤ (append_fed_next p x q old).next + append_left most (append_fed_next p x q old).to + append_extra_all most p (append_fed_next p x q old).to qs (append_fed_next p x q old).next =
    all_few p most (append_fed_next p x q old).to qs (append_fed_next p x q old).next chains (next_kept p x q old kept) in
    omega (arith, one, rest)

pub append_requests_are_few : AppendRequestsAreFew
append_requests_are_few p most a qs next chains kept = all_few p most (Goes a) qs next chains kept

-- ---- in a newer layout

judged_few : (o : Bool) (p : Layout) (most : ℕ) (d : Entry) (t : Token) (w : AppendWork) (n : ℕ) → HasChainsUpTo p most →
    (dead_or_judged p (append_at d (Some t) w) t n o).next + append_left most (dead_or_judged p (append_at d (Some t) w) t n o).to ≤ n + 1 + most + most
unfolding fill_cell
judged_few true p most d t w n chains = omega arith
judged_few false p most d t w n chains =
    let some : 1 ≤ most = chains.some in
    let few : length (chain_of p t.pos) ≤ most = chains.chains t.pos in
    omega (arith, some, few)

again_few : (p : Layout) (most : ℕ) (d : Entry) (t : Option Token) (w : AppendWork) (n : ℕ) → HasChainsUpTo p most →
    (append_again p (append_at d t w) n).next + append_left most (append_again p (append_at d t w) n).to ≤ n + 1 + most + most
unfolding append_again
again_few p most d None w n chains = omega arith
again_few p most d (Some t) w n chains = judged_few (nat_le p.start t.pos) p most d t w n chains

pub append_resumes_with_few : AppendResumesWithFew
append_resumes_with_few p most a next chains = again_few p most a.draft a.token a.work next chains
