-- What a copy keeps.
use Rattle.std.proofs.Common.{◌≡◌, ℕ, ◌+◌, ◌<◌, Bool, true, false, ◌==◌, nat_lt, length, refl, sym, ap, subst, ◌∙◌, arith}
use Rattle.std.proofs.lemmas.Bool.{ltb-true}
use Rattle.tg_base.specs.Layouts.{Layout}
use Rattle.tg_base.specs.declared.change.Join.{Join}
use Rattle.tg_base.specs.declared.cell.Cell.{Cell}
use Rattle.tg_base.specs.declared.ids.NodeId.{NodeId}
use Rattle.tg_base.specs.declared.msg.Msg.{Msg}
use Rattle.tg_proj.specs.Places.{range_at}
use Rattle.tg_protocol.specs.Words.{cell_eq}
use Rattle.tg_protocol.specs.Layouts.{range_end, next_in_stripe}
use Rattle.tg_protocol.specs.Requests.{Next, Goes, Learns, Ends, Turn, awaits}
use Rattle.tg_protocol.specs.Replies.{Reply, IsHeld, IsTaken, IsGone, IsFenced, IsSealed, IsMissing, IsWhole, reply}
use Rattle.tg_protocol.specs.Cells.{Place, CellJob, CellEnd, Done, Seen, Lost, Fenced, Gone, place_in, get_cell, cell_asks}
use Rattle.tg_protocol.specs.Trimming.{Copying, CopyWork, Sealing, Reading, Storing, Trimming, Looking, CopyEnd, CopyTurn, learns_if, copy_from, read_next, stored_if, skipped_if, sealed_if, copy_asks, copy_work_asks, copy_start, copy_feed}
use Rattle.tg_chain.specs.Turns.{fed}
use Rattle.tg_copy.specs.Stripes.{HasStripe}
use Rattle.tg_copy.specs.Turns.{spare_of}
use Rattle.tg_copy.specs.Copies.{copying, getting, copy_fed, copy_fed_if}
use Rattle.tg_copy.specs.Laws.{WorkKept, NextKept, IsOfStripe, WorkWithin, NextWithin, NamesStripe, CopiesKeep}
use Rattle.tg_copy.proofs.Counts.{next_again}
use Rattle.tg_copy.proofs.Jobs.{GetNext, get_fed_kept, fed_stays}
use Rattle.tg_copy.proofs.Subs.{read_fed}

-- ---- the spare, the stripe and the units

from_kept : (b : Bool) (p : Layout) (s : Join) (w : CopyWork) (pos n : ℕ) → nat_lt pos (range_end p s.range) ≡ b → NextKept p s (copy_from p (copying s w) pos n b).to
unfolding get_cell
from_kept true p s w pos n e = (refl, (refl, ltb-true pos (range_end p s.range) e, refl))
from_kept false p s w pos n e = (refl, tt)

at_kept : (p : Layout) (s : Join) (w : CopyWork) (pos n : ℕ) → NextKept p s (copy_from p (copying s w) pos n (nat_lt pos (range_end p s.range))).to
at_kept p s w pos n = from_kept (nat_lt pos (range_end p s.range)) p s w pos n refl

past_kept : (p : Layout) (s : Join) (w : CopyWork) (pos n : ℕ) →
    NextKept p s (copy_from p (copying s w) (next_in_stripe (range_at p.ranges s.range) s.stripe pos) n (nat_lt (next_in_stripe (range_at p.ranges s.range) s.stripe pos) (range_end p s.range))).to
past_kept p s w pos n = at_kept p s w (next_in_stripe (range_at p.ranges s.range) s.stripe pos) n

learns_kept : (b : Bool) (p : Layout) (s : Join) (w : CopyWork) (n : ℕ) → WorkKept p s w → NextKept p s (learns_if {E = CopyEnd} b (copying s w) n).to
learns_kept true p s w n h = refl
learns_kept false p s w n h = (refl, h)

sealed_kept : (b : Bool) (p : Layout) (s : Join) (r n : ℕ) → NextKept p s (sealed_if p (copying s (Sealing r)) n b).to
sealed_kept true p s r n = past_kept p s (Sealing r) 0 n
sealed_kept false p s r n = (refl, tt)

stored_kept : (b : Bool) (p : Layout) (s : Join) (r pos : ℕ) (x : Cell) (n : ℕ) → pos < range_end p s.range → NextKept p s (stored_if p (copying s (Storing r pos x)) pos n b).to
stored_kept true p s r pos x n h = past_kept p s (Storing r pos x) (pos + 1) n
stored_kept false p s r pos x n h = (refl, h)

skipped_kept : (b : Bool) (p : Layout) (s : Join) (r pos : ℕ) (x : Cell) (below n : ℕ) → pos < range_end p s.range → NextKept p s (skipped_if p (copying s (Storing r pos x)) below n b).to
skipped_kept true p s r pos x below n h = past_kept p s (Storing r pos x) below n
skipped_kept false p s r pos x below n h = (refl, h)

sealing_kept : (p : Layout) (s : Join) (r u : ℕ) (x : Reply) (n : ℕ) → NextKept p s (copy_feed p (copying s (Sealing r)) (Sealing r) u x n).to
unfolding copy_feed
sealing_kept p s r u (IsFenced e) n = learns_kept (nat_lt p.epoch e) p s (Sealing r) n tt
sealing_kept p s r u (IsSealed e h) n = sealed_kept (e == p.epoch) p s r n
sealing_kept p s r u _ n = (refl, tt)

storing_kept : (p : Layout) (s : Join) (r pos : ℕ) (c : Cell) (u : ℕ) (x : Reply) (n : ℕ) → pos < range_end p s.range →
    NextKept p s (copy_feed p (copying s (Storing r pos c)) (Storing r pos c) u x n).to
unfolding copy_feed
storing_kept p s r pos c u (IsFenced e) n h = learns_kept (nat_lt p.epoch e) p s (Storing r pos c) n h
storing_kept p s r pos c u IsHeld n h = past_kept p s (Storing r pos c) (pos + 1) n
storing_kept p s r pos c u (IsTaken y) n h = stored_kept (cell_eq c y) p s r pos c n h
storing_kept p s r pos c u (IsGone b) n h = skipped_kept (nat_lt pos b) p s r pos c b n h
storing_kept p s r pos c u _ n h = (refl, h)

trimming_kept : (p : Layout) (s : Join) (r b u : ℕ) (x : Reply) (n : ℕ) → NextKept p s (copy_feed p (copying s (Trimming r b)) (Trimming r b) u x n).to
unfolding copy_feed
trimming_kept p s r b u (IsFenced e) n = learns_kept (nat_lt p.epoch e) p s (Trimming r b) n tt
trimming_kept p s r b u (IsGone d) n = past_kept p s (Trimming r b) b n
trimming_kept p s r b u _ n = (refl, tt)

looking_kept : (p : Layout) (s : Join) (r u : ℕ) (x : Reply) (n : ℕ) → NextKept p s (copy_feed p (copying s (Looking r)) (Looking r) u x n).to
unfolding copy_feed
looking_kept p s r u (IsFenced e) n = learns_kept (nat_lt p.epoch e) p s (Looking r) n tt
looking_kept p s r u IsWhole n = tt
looking_kept p s r u (IsMissing pos) n = at_kept p s (Looking r) pos n
looking_kept p s r u _ n = (refl, tt)

read_next_kept : (p : Layout) (s : Join) (j : CellJob) (y : Next CellJob CellEnd) (n : ℕ) → WorkKept p s (Reading j) → GetNext j.place y →
    NextKept p s (read_next p (getting s j) j.place.pos y n).to
read_next_kept p s j (Goes k) n kept h =
    (refl, (subst (λ (a : Place). a ≡ place_in p a.pos) (sym h.0) kept.0, subst (λ (a : Place). a.pos < range_end p s.range) (sym h.0) kept.1, h.1))
read_next_kept p s j (Learns k) n kept h = absurd h
read_next_kept p s j (Ends (Done c)) n kept h = (refl, kept.1)
read_next_kept p s j (Ends Seen) n kept h = absurd h
read_next_kept p s j (Ends (Lost c)) n kept h = absurd h
read_next_kept p s j (Ends (Fenced u e)) n kept h = refl
read_next_kept p s j (Ends (Gone b)) n kept h = (refl, tt)

work_kept_if : (b : Bool) (p : Layout) (s : Join) (w : CopyWork) (u : ℕ) (m : Msg) (n : ℕ) → WorkKept p s w →
    NextKept p s (copy_feed p (copying s w) w u (reply m) n).to → NextKept p s (copy_fed_if b p (copying s w) u m n).to
work_kept_if true p s w u m n h k = k
work_kept_if false p s w u m n h k = (refl, h)

fed_kept : (p : Layout) (s : Join) (w : CopyWork) (from : NodeId) (rid : ℕ) (m : Msg) (n : ℕ) → WorkKept p s w →
    NextKept p s (copy_fed p (copying s w) from rid m n).to
fed_kept p s (Sealing r) from rid m n h = work_kept_if (awaits (copy_asks p (copying s (Sealing r))) from rid) p s (Sealing r) from.num m n h (sealing_kept p s r from.num (reply m) n)
fed_kept p s (Storing r pos c) from rid m n h = work_kept_if (awaits (copy_asks p (copying s (Storing r pos c))) from rid) p s (Storing r pos c) from.num m n h (storing_kept p s r pos c from.num (reply m) n h)
fed_kept p s (Trimming r b) from rid m n h = work_kept_if (awaits (copy_asks p (copying s (Trimming r b))) from rid) p s (Trimming r b) from.num m n h (trimming_kept p s r b from.num (reply m) n)
fed_kept p s (Looking r) from rid m n h = work_kept_if (awaits (copy_asks p (copying s (Looking r))) from rid) p s (Looking r) from.num m n h (looking_kept p s r from.num (reply m) n)
fed_kept p s (Reading j) from rid m n h =
    let c = fed j from rid m n in
    subst (λ (z : CopyTurn). NextKept p s z.to) (sym (read_fed p s j from rid m n)) (read_next_kept p s j c.to c.next h (get_fed_kept j from rid m n h.2))

-- ---- the positions

from_within : (b : Bool) (p : Layout) (s : Join) (w : CopyWork) (pos n : ℕ) → IsOfStripe p s pos → NextWithin p s (copy_from p (copying s w) pos n b).to
unfolding get_cell
from_within true p s w pos n h = h
from_within false p s w pos n h = tt

past_within : (p : Layout) (s : Join) (w : CopyWork) (pos n : ℕ) → HasStripe p s →
    NextWithin p s (copy_from p (copying s w) (next_in_stripe (range_at p.ranges s.range) s.stripe pos) n (nat_lt (next_in_stripe (range_at p.ranges s.range) s.stripe pos) (range_end p s.range))).to
past_within p s w pos n has =
    let there = has.there in
    let some : 0 < length (range_at p.ranges s.range).stripes = omega (arith, there) in
    from_within (nat_lt (next_in_stripe (range_at p.ranges s.range) s.stripe pos) (range_end p s.range)) p s w (next_in_stripe (range_at p.ranges s.range) s.stripe pos) n
    (next_again ((range_at p.ranges s.range).lo + s.stripe) (length (range_at p.ranges s.range).stripes) pos some)

learns_within : (b : Bool) (p : Layout) (s : Join) (w : CopyWork) (n : ℕ) → WorkWithin p s w → NextWithin p s (learns_if {E = CopyEnd} b (copying s w) n).to
learns_within true p s w n h = tt
learns_within false p s w n h = h

sealed_within : (b : Bool) (p : Layout) (s : Join) (r n : ℕ) → HasStripe p s → NextWithin p s (sealed_if p (copying s (Sealing r)) n b).to
sealed_within true p s r n has = past_within p s (Sealing r) 0 n has
sealed_within false p s r n has = tt

stored_within : (b : Bool) (p : Layout) (s : Join) (r pos : ℕ) (x : Cell) (n : ℕ) → HasStripe p s → IsOfStripe p s pos → NextWithin p s (stored_if p (copying s (Storing r pos x)) pos n b).to
stored_within true p s r pos x n has h = past_within p s (Storing r pos x) (pos + 1) n has
stored_within false p s r pos x n has h = h

skipped_within : (b : Bool) (p : Layout) (s : Join) (r pos : ℕ) (x : Cell) (below n : ℕ) → HasStripe p s → IsOfStripe p s pos →
    NextWithin p s (skipped_if p (copying s (Storing r pos x)) below n b).to
skipped_within true p s r pos x below n has h = past_within p s (Storing r pos x) below n has
skipped_within false p s r pos x below n has h = h

sealing_within : (p : Layout) (s : Join) (r u : ℕ) (x : Reply) (n : ℕ) → HasStripe p s → NextWithin p s (copy_feed p (copying s (Sealing r)) (Sealing r) u x n).to
unfolding copy_feed
sealing_within p s r u (IsFenced e) n has = learns_within (nat_lt p.epoch e) p s (Sealing r) n tt
sealing_within p s r u (IsSealed e h) n has = sealed_within (e == p.epoch) p s r n has
sealing_within p s r u _ n has = tt

storing_within : (p : Layout) (s : Join) (r pos : ℕ) (c : Cell) (u : ℕ) (x : Reply) (n : ℕ) → HasStripe p s → IsOfStripe p s pos →
    NextWithin p s (copy_feed p (copying s (Storing r pos c)) (Storing r pos c) u x n).to
unfolding copy_feed
storing_within p s r pos c u (IsFenced e) n has h = learns_within (nat_lt p.epoch e) p s (Storing r pos c) n h
storing_within p s r pos c u IsHeld n has h = past_within p s (Storing r pos c) (pos + 1) n has
storing_within p s r pos c u (IsTaken y) n has h = stored_within (cell_eq c y) p s r pos c n has h
storing_within p s r pos c u (IsGone b) n has h = skipped_within (nat_lt pos b) p s r pos c b n has h
storing_within p s r pos c u _ n has h = h

trimming_within : (p : Layout) (s : Join) (r b u : ℕ) (x : Reply) (n : ℕ) → HasStripe p s → NextWithin p s (copy_feed p (copying s (Trimming r b)) (Trimming r b) u x n).to
unfolding copy_feed
trimming_within p s r b u (IsFenced e) n has = learns_within (nat_lt p.epoch e) p s (Trimming r b) n tt
trimming_within p s r b u (IsGone d) n has = past_within p s (Trimming r b) b n has
trimming_within p s r b u _ n has = tt

looking_within : (p : Layout) (s : Join) (r u : ℕ) (x : Reply) (n : ℕ) → NamesStripe p s x → NextWithin p s (copy_feed p (copying s (Looking r)) (Looking r) u x n).to
unfolding copy_feed
looking_within p s r u (IsFenced e) n names = learns_within (nat_lt p.epoch e) p s (Looking r) n tt
looking_within p s r u IsWhole n names = tt
looking_within p s r u (IsMissing pos) n names = from_within (nat_lt pos (range_end p s.range)) p s (Looking r) pos n names
looking_within p s r u _ n names = tt

read_next_within : (p : Layout) (s : Join) (j : CellJob) (y : Next CellJob CellEnd) (n : ℕ) → IsOfStripe p s j.place.pos → ((k : CellJob) → y ≡ Goes k → k.place ≡ j.place) →
    NextWithin p s (read_next p (getting s j) j.place.pos y n).to
read_next_within p s j (Goes k) n h stays = subst (λ (a : Place). IsOfStripe p s a.pos) (sym (stays k refl)) h
read_next_within p s j (Learns k) n h stays = tt
read_next_within p s j (Ends (Done c)) n h stays = h
read_next_within p s j (Ends Seen) n h stays = h
read_next_within p s j (Ends (Lost c)) n h stays = h
read_next_within p s j (Ends (Fenced u e)) n h stays = tt
read_next_within p s j (Ends (Gone b)) n h stays = tt

work_within_if : (b : Bool) (p : Layout) (s : Join) (w : CopyWork) (u : ℕ) (m : Msg) (n : ℕ) → WorkWithin p s w →
    NextWithin p s (copy_feed p (copying s w) w u (reply m) n).to → NextWithin p s (copy_fed_if b p (copying s w) u m n).to
work_within_if true p s w u m n h k = k
work_within_if false p s w u m n h k = h

fed_within : (p : Layout) (s : Join) (w : CopyWork) (from : NodeId) (rid : ℕ) (m : Msg) (n : ℕ) → HasStripe p s → NamesStripe p s (reply m) → WorkWithin p s w →
    NextWithin p s (copy_fed p (copying s w) from rid m n).to
fed_within p s (Sealing r) from rid m n has names h = work_within_if (awaits (copy_asks p (copying s (Sealing r))) from rid) p s (Sealing r) from.num m n h (sealing_within p s r from.num (reply m) n has)
fed_within p s (Storing r pos c) from rid m n has names h = work_within_if (awaits (copy_asks p (copying s (Storing r pos c))) from rid) p s (Storing r pos c) from.num m n h (storing_within p s r pos c from.num (reply m) n has h)
fed_within p s (Trimming r b) from rid m n has names h = work_within_if (awaits (copy_asks p (copying s (Trimming r b))) from rid) p s (Trimming r b) from.num m n h (trimming_within p s r b from.num (reply m) n has)
fed_within p s (Looking r) from rid m n has names h = work_within_if (awaits (copy_asks p (copying s (Looking r))) from rid) p s (Looking r) from.num m n h (looking_within p s r from.num (reply m) n names)
fed_within p s (Reading j) from rid m n has names h =
    let c = fed j from rid m n in
    subst (λ (z : CopyTurn). NextWithin p s z.to) (sym (read_fed p s j from rid m n)) (read_next_within p s j c.to c.next h (λ k g. fed_stays j from rid m n k g))

start_kept : (p : Layout) (s : Join) (n : ℕ) → NextKept p s (copy_start s.unit s.range s.stripe n).to
unfolding copy_start
start_kept p s n = (refl, tt)

pub copies_keep : CopiesKeep
copies_keep = record {
  starts = start_kept;
  steps = λ p c from rid m next h. fed_kept p (spare_of c) c.work from rid m next h;
  within = λ p c from rid m next has names h. fed_within p (spare_of c) c.work from rid m next has names h;
}
