-- How many requests a copy still sends.
use Rattle.std.proofs.Common.{◌≡◌, ℕ, ◌+◌, ◌-◌, ◌*◌, ◌<◌, ◌≤◌, Bool, true, false, ◌==◌, nat_lt, List, [], ◌∷◌, length, refl, sym, ap, subst, ◌∙◌, arith}
use Rattle.std.proofs.lemmas.Bool.{ltb-true}
use Rattle.tg_base.specs.Layouts.{Layout}
use Rattle.tg_base.specs.declared.change.Join.{Join}
use Rattle.tg_base.specs.declared.cell.Cell.{Cell}
use Rattle.tg_base.specs.declared.ids.NodeId.{NodeId}
use Rattle.tg_base.specs.declared.msg.Msg.{Msg}
use Rattle.tg_base.specs.declared.packet.Packet.{Packet}
use Rattle.tg_proj.specs.Places.{range_at}
use Rattle.tg_protocol.specs.Words.{cell_eq}
use Rattle.tg_protocol.specs.Layouts.{chain_of, range_end, next_in_stripe}
use Rattle.tg_protocol.specs.Requests.{Next, Goes, Learns, Ends, awaits}
use Rattle.tg_protocol.specs.Replies.{Reply, IsHeld, IsTaken, IsGone, IsFenced, IsSealed, IsMissing, IsWhole, reply}
use Rattle.tg_protocol.specs.Cells.{Place, CellJob, CellEnd, Done, Seen, Lost, Fenced, Gone, get_cell, cell_asks}
use Rattle.tg_protocol.specs.Trimming.{Copying, CopyWork, Sealing, Reading, Storing, Trimming, Looking, CopyEnd, CopyTurn, learns_if, copy_from, read_next, stored_if, skipped_if, sealed_if, copy_asks, copy_work_asks, copy_start, copy_feed}
use Rattle.tg_chain.specs.Turns.{fed}
use Rattle.tg_chain.specs.Laws.{left, left_then}
use Rattle.tg_chain.proofs.Steps.{steps_are_few, ends_by_answers}
use Rattle.tg_copy.specs.Stripes.{HasStripe}
use Rattle.tg_copy.specs.Turns.{spare_of}
use Rattle.tg_copy.specs.Copies.{copying, getting, copy_fed, copy_fed_if}
use Rattle.tg_copy.specs.Laws.{WorkKept, IsKept, NextKept, HasChainsUpTo, count_from, cost_from, left_in, copy_left, extra_in, count_if, copy_extra, fed_next, fed_all, extra_all, CopiesAreFew}
use Rattle.tg_copy.proofs.Counts.{one_fewer, one_more, below_rises, product_rises}
use Rattle.tg_copy.proofs.CopyEnds.{Ended}
use Rattle.tg_copy.proofs.Jobs.{GetNext, get_fed_kept}
use Rattle.tg_copy.proofs.Kept.{copies_keep}
use Rattle.tg_copy.proofs.Subs.{read_fed}

some_step : (p : Layout) (s : Join) → HasStripe p s → 0 < length (range_at p.ranges s.range).stripes
some_step p s has = let there = has.there in omega (arith, there)

-- further on there is no more to do
pub cost_falls : (p : Layout) (most : ℕ) (s : Join) (a b : ℕ) → HasStripe p s → a ≤ b → cost_from p most s b ≤ cost_from p most s a
cost_falls p most s a b has low =
    let rises = below_rises ((range_at p.ranges s.range).lo + s.stripe) (length (range_at p.ranges s.range).stripes) a b (some_step p s has) low in
    let fewer : count_from p s b ≤ count_from p s a = omega (arith, rises) in
    let cheaper : count_from p s b * (2 + most) ≤ count_from p s a * (2 + most) = product_rises (count_from p s b) (count_from p s a) (2 + most) fewer in
    omega (arith, cheaper)

-- one position
next_costs : (p : Layout) (most : ℕ) (s : Join) (pos : ℕ) → HasStripe p s → next_in_stripe (range_at p.ranges s.range) s.stripe pos < range_end p s.range →
    cost_from p most s pos ≡ cost_from p most s (next_in_stripe (range_at p.ranges s.range) s.stripe pos + 1) + (2 + most)
next_costs p most s pos has short =
    let q = next_in_stripe (range_at p.ranges s.range) s.stripe pos in
    let fewer : count_from p s pos ≡ count_from p s (q + 1) + 1 =
    one_fewer ((range_at p.ranges s.range).lo + s.stripe) (length (range_at p.ranges s.range).stripes) pos (range_end p s.range) (some_step p s has) short in
    let dearer : count_from p s pos * (2 + most) ≡ count_from p s (q + 1) * (2 + most) + (2 + most) = one_more (count_from p s pos) (count_from p s (q + 1)) (2 + most) fewer in
    omega (arith, dearer)

-- a position costs its read and what that may take
from_few : (b : Bool) (p : Layout) (most : ℕ) (s : Join) (w : CopyWork) (q n bound : ℕ) → HasChainsUpTo p most → nat_lt q (range_end p s.range) ≡ b → 1 ≤ bound →
    (q < range_end p s.range → cost_from p most s (q + 1) + (2 + most) ≤ bound) →
    (copy_from p (copying s w) q n b).next + copy_left p most (copy_from p (copying s w) q n b).to ≤ n + bound
unfolding get_cell
from_few true p most s w q n bound chains e one costs =
    let some : 1 ≤ most = chains.some in
    let few : length (chain_of p q) ≤ most = chains.chains q in
    let cost : cost_from p most s (q + 1) + (2 + most) ≤ bound = costs (ltb-true q (range_end p s.range) e) in
    omega (arith, some, few, cost)
from_few false p most s w q n bound chains e one costs = omega (arith, one)

past_few : (p : Layout) (most : ℕ) (s : Join) (w : CopyWork) (pos n : ℕ) → HasChainsUpTo p most → HasStripe p s →
    (copy_from p (copying s w) (next_in_stripe (range_at p.ranges s.range) s.stripe pos) n (nat_lt (next_in_stripe (range_at p.ranges s.range) s.stripe pos) (range_end p s.range))).next
    + copy_left p most (copy_from p (copying s w) (next_in_stripe (range_at p.ranges s.range) s.stripe pos) n (nat_lt (next_in_stripe (range_at p.ranges s.range) s.stripe pos) (range_end p s.range))).to
    ≤ n + cost_from p most s pos
past_few p most s w pos n chains has =
    let q = next_in_stripe (range_at p.ranges s.range) s.stripe pos in
    let one : 1 ≤ cost_from p most s pos = omega arith in
    from_few (nat_lt q (range_end p s.range)) p most s w q n (cost_from p most s pos) chains refl one (λ short. let same = next_costs p most s pos has short in omega (arith, same))

learns_few : (b : Bool) (p : Layout) (most : ℕ) (s : Join) (w : CopyWork) (n : ℕ) →
    (learns_if {E = CopyEnd} b (copying s w) n).next + copy_left p most (learns_if {E = CopyEnd} b (copying s w) n).to ≤ n + left_in p most s w
learns_few true p most s w n = omega arith
learns_few false p most s w n = omega arith

sealed_few : (b : Bool) (p : Layout) (most : ℕ) (s : Join) (r n : ℕ) → HasChainsUpTo p most → HasStripe p s →
    (sealed_if p (copying s (Sealing r)) n b).next + copy_left p most (sealed_if p (copying s (Sealing r)) n b).to ≤ n + cost_from p most s 0
sealed_few true p most s r n chains has = past_few p most s (Sealing r) 0 n chains has
sealed_few false p most s r n chains has = omega arith

stored_few : (b : Bool) (p : Layout) (most : ℕ) (s : Join) (r pos : ℕ) (c : Cell) (n : ℕ) → HasChainsUpTo p most → HasStripe p s →
    (stored_if p (copying s (Storing r pos c)) pos n b).next + copy_left p most (stored_if p (copying s (Storing r pos c)) pos n b).to ≤ n + cost_from p most s (pos + 1)
stored_few true p most s r pos c n chains has = past_few p most s (Storing r pos c) (pos + 1) n chains has
stored_few false p most s r pos c n chains has = omega arith

skipped_few : (b : Bool) (p : Layout) (most : ℕ) (s : Join) (r pos : ℕ) (c : Cell) (below n : ℕ) → HasChainsUpTo p most → HasStripe p s → nat_lt pos below ≡ b →
    (skipped_if p (copying s (Storing r pos c)) below n b).next + copy_left p most (skipped_if p (copying s (Storing r pos c)) below n b).to ≤ n + cost_from p most s (pos + 1)
skipped_few true p most s r pos c below n chains has e =
    let past : pos < below = ltb-true pos below e in
    let few = past_few p most s (Storing r pos c) below n chains has in
    let falls = cost_falls p most s (pos + 1) below has (omega (arith, past)) in
    omega (arith, few, falls)
skipped_few false p most s r pos c below n chains has e = omega arith

-- what the spare is asked
abbrev IsAsked : CopyWork → Type 0
IsAsked (Reading j) = ⊥
IsAsked w = Unit {0}

work_few : (p : Layout) (most : ℕ) (s : Join) (w : CopyWork) (u : ℕ) (x : Reply) (n : ℕ) → HasChainsUpTo p most → HasStripe p s → IsAsked w →
    (copy_feed p (copying s w) w u x n).next + copy_left p most (copy_feed p (copying s w) w u x n).to ≤ n + left_in p most s w + extra_in p most s w x
unfolding copy_feed
work_few p most s (Reading j) u x n chains has spare = absurd spare
work_few p most s (Sealing r) u (IsFenced e) n chains has spare = let few = learns_few (nat_lt p.epoch e) p most s (Sealing r) n in omega (arith, few)
work_few p most s (Sealing r) u (IsSealed e h) n chains has spare = let few = sealed_few (e == p.epoch) p most s r n chains has in omega (arith, few)
work_few p most s (Sealing r) u _ n chains has spare = omega arith
work_few p most s (Storing r pos c) u (IsFenced e) n chains has spare = let few = learns_few (nat_lt p.epoch e) p most s (Storing r pos c) n in omega (arith, few)
work_few p most s (Storing r pos c) u IsHeld n chains has spare = let few = past_few p most s (Storing r pos c) (pos + 1) n chains has in omega (arith, few)
work_few p most s (Storing r pos c) u (IsTaken y) n chains has spare = let few = stored_few (cell_eq c y) p most s r pos c n chains has in omega (arith, few)
work_few p most s (Storing r pos c) u (IsGone b) n chains has spare = let few = skipped_few (nat_lt pos b) p most s r pos c b n chains has refl in omega (arith, few)
work_few p most s (Storing r pos c) u _ n chains has spare = omega arith
work_few p most s (Trimming r b) u (IsFenced e) n chains has spare = let few = learns_few (nat_lt p.epoch e) p most s (Trimming r b) n in omega (arith, few)
work_few p most s (Trimming r b) u (IsGone d) n chains has spare = let few = past_few p most s (Trimming r b) b n chains has in omega (arith, few)
work_few p most s (Trimming r b) u _ n chains has spare = omega arith
work_few p most s (Looking r) u (IsFenced e) n chains has spare = let few = learns_few (nat_lt p.epoch e) p most s (Looking r) n in omega (arith, few)
work_few p most s (Looking r) u IsWhole n chains has spare = omega arith
work_few p most s (Looking r) u (IsMissing pos) n chains has spare =
    let few = from_few (nat_lt pos (range_end p s.range)) p most s (Looking r) pos n (2 + most + cost_from p most s (pos + 1)) chains refl (omega arith) (λ short. omega arith) in
    omega (arith, few)
work_few p most s (Looking r) u _ n chains has spare = omega arith

few_if : (b : Bool) (p : Layout) (most : ℕ) (s : Join) (w : CopyWork) (u : ℕ) (m : Msg) (n : ℕ) → HasChainsUpTo p most → HasStripe p s → IsAsked w →
    (copy_fed_if b p (copying s w) u m n).next + copy_left p most (copy_fed_if b p (copying s w) u m n).to ≤ n + left_in p most s w + count_if b (extra_in p most s w (reply m))
few_if true p most s w u m n chains has spare = work_few p most s w u (reply m) n chains has spare
few_if false p most s w u m n chains has spare = omega arith

-- ---- reads

read_next_few : (b : Bool) (p : Layout) (most : ℕ) (s : Join) (j : CellJob) (y : Next CellJob CellEnd) (n u : ℕ) (x : Reply) (old : ℕ) → HasStripe p s →
    GetNext j.place y → Ended b j u x y → n + left_then y ≤ old + left j →
    (read_next p (getting s j) j.place.pos y n).next + copy_left p most (read_next p (getting s j) j.place.pos y n).to ≤ old + left_in p most s (Reading j)
read_next_few b p most s j (Goes k) n u x old has kept ended few =
    let same : cost_from p most s (k.place.pos + 1) ≡ cost_from p most s (j.place.pos + 1) = ap (λ (a : Place). cost_from p most s (a.pos + 1)) kept.0 in
    omega (arith, same, few)
read_next_few b p most s j (Learns k) n u x old has kept ended few = absurd kept
read_next_few b p most s j (Ends (Done c)) n u x old has kept ended few = omega (arith, few)
read_next_few b p most s j (Ends Seen) n u x old has kept ended few = absurd kept
read_next_few b p most s j (Ends (Lost c)) n u x old has kept ended few = absurd kept
read_next_few b p most s j (Ends (Fenced v e)) n u x old has kept ended few = omega (arith, few)
read_next_few b p most s j (Ends (Gone g)) n u x old has kept ended few =
    let by = ended (Gone g) refl in
    let past : j.place.pos < g = by.1.1 in
    let falls = cost_falls p most s (j.place.pos + 1) g has (omega (arith, past)) in
    omega (arith, few, falls)

fed_few : (p : Layout) (most : ℕ) (s : Join) (w : CopyWork) (q : Packet) (n : ℕ) → HasChainsUpTo p most → HasStripe p s → WorkKept p s w →
    (copy_fed p (copying s w) q.from q.rid q.msg n).next + copy_left p most (copy_fed p (copying s w) q.from q.rid q.msg n).to
    ≤ n + left_in p most s w + copy_extra p most (Goes (copying s w)) q
fed_few p most s (Sealing r) q n chains has kept = few_if (awaits (copy_asks p (copying s (Sealing r))) q.from q.rid) p most s (Sealing r) q.from.num q.msg n chains has tt
fed_few p most s (Storing r pos c) q n chains has kept = few_if (awaits (copy_asks p (copying s (Storing r pos c))) q.from q.rid) p most s (Storing r pos c) q.from.num q.msg n chains has tt
fed_few p most s (Trimming r b) q n chains has kept = few_if (awaits (copy_asks p (copying s (Trimming r b))) q.from q.rid) p most s (Trimming r b) q.from.num q.msg n chains has tt
fed_few p most s (Looking r) q n chains has kept = few_if (awaits (copy_asks p (copying s (Looking r))) q.from q.rid) p most s (Looking r) q.from.num q.msg n chains has tt
fed_few p most s (Reading j) q n chains has kept =
    let c = fed j q.from q.rid q.msg n in
    let few = read_next_few (awaits (cell_asks j) q.from q.rid) p most s j c.to c.next q.from.num (reply q.msg) n has (get_fed_kept j q.from q.rid q.msg n kept.2) (λ f g. ends_by_answers j q.from q.rid q.msg n f g) (steps_are_few j q.from q.rid q.msg n) in
    let turned : (copy_fed p (getting s j) q.from q.rid q.msg n).next + copy_left p most (copy_fed p (getting s j) q.from q.rid q.msg n).to ≤ n + left_in p most s (Reading j) =
    subst (λ (z : CopyTurn). z.next + copy_left p most z.to ≤ n + left_in p most s (Reading j)) (sym (read_fed p s j q.from q.rid q.msg n)) few in
    omega (arith, turned)

-- ---- runs

next_kept : (p : Layout) (s : Join) (x : Next Copying CopyEnd) (q : Packet) (n : ℕ) → NextKept p s x → NextKept p s (fed_next p x q n).to
next_kept p s (Goes c) q n kept = subst (λ (z : Join). NextKept p z (copy_fed p c q.from q.rid q.msg n).to) kept.0 (copies_keep.steps p c q.from q.rid q.msg n kept.1)
next_kept p s (Learns c) q n kept = kept
next_kept p s (Ends e) q n kept = kept

next_few : (p : Layout) (most : ℕ) (s : Join) (x : Next Copying CopyEnd) (q : Packet) (n : ℕ) → HasChainsUpTo p most → HasStripe p s → NextKept p s x →
    (fed_next p x q n).next + copy_left p most (fed_next p x q n).to ≤ n + copy_left p most x + copy_extra p most x q
next_few p most s (Goes c) q n chains has kept = fed_few p most (spare_of c) c.work q n chains (subst (λ (z : Join). HasStripe p z) (sym kept.0) has) kept.1
next_few p most s (Learns c) q n chains has kept = omega arith
next_few p most s (Ends e) q n chains has kept = omega arith

all_few : (p : Layout) (most : ℕ) (s : Join) (x : Next Copying CopyEnd) (qs : List Packet) (n : ℕ) → HasChainsUpTo p most → HasStripe p s → NextKept p s x →
    (fed_all p x qs n).next ≤ n + copy_left p most x + extra_all p most x qs n
unfolding fed_all extra_all
all_few p most s x [] n chains has kept = omega arith
all_few p most s x (q ∷ qs) n chains has kept =
    let one : (fed_next p x q n).next + copy_left p most (fed_next p x q n).to ≤ n + copy_left p most x + copy_extra p most x q = next_few p most s x q n chains has kept in
    let rest : (fed_all p (fed_next p x q n).to qs (fed_next p x q n).next).next
    ≤ (fed_next p x q n).next + copy_left p most (fed_next p x q n).to + extra_all p most (fed_next p x q n).to qs (fed_next p x q n).next =
    all_few p most s (fed_next p x q n).to qs (fed_next p x q n).next chains has (next_kept p s x q n kept) in
    omega (arith, one, rest)

start_few : (p : Layout) (most : ℕ) (s : Join) (n : ℕ) →
    (copy_start s.unit s.range s.stripe n).next + copy_left p most (copy_start s.unit s.range s.stripe n).to ≤ n + 1 + cost_from p most s 0
unfolding copy_start
start_few p most s n = omega arith

pub copies_are_few : CopiesAreFew
copies_are_few = record {
  starts = start_few;
  runs = λ p most c qs next chains has kept. all_few p most (spare_of c) (Goes c) qs next chains has (refl, kept);
}
