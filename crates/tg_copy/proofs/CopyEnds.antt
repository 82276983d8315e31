-- On which answers a copy ends and pauses.
use Rattle.std.proofs.Common.{◌≡◌, ℕ, ◌+◌, ◌<◌, Bool, true, false, ◌==◌, nat_lt, refl, sym, ap, subst, ◌∙◌}
use Rattle.std.proofs.lemmas.Bool.{ltb-true}
use Rattle.tg_base.specs.Layouts.{Layout}
use Rattle.tg_base.specs.declared.change.Join.{Join}
use Rattle.tg_base.specs.declared.cell.Cell.{Cell}
use Rattle.tg_base.specs.declared.ids.NodeId.{NodeId}
use Rattle.tg_base.specs.declared.msg.Msg.{Msg}
use Rattle.tg_proj.specs.Places.{range_at}
use Rattle.tg_protocol.specs.Words.{cell_eq}
use Rattle.tg_protocol.specs.Layouts.{range_end, next_in_stripe}
use Rattle.tg_protocol.specs.Requests.{Next, Goes, Learns, Ends, awaits}
use Rattle.tg_protocol.specs.Replies.{Reply, IsHeld, IsTaken, IsGone, IsFenced, IsSealed, IsMissing, IsWhole, reply}
use Rattle.tg_protocol.specs.Cells.{Place, CellJob, CellEnd, Done, Seen, Lost, Fenced, Gone, get_cell, cell_asks}
use Rattle.tg_protocol.specs.Trimming.{Copying, CopyWork, Sealing, Reading, Storing, Trimming, Looking, CopyEnd, Whole, CopyTurn, learns_if, copy_from, read_next, stored_if, skipped_if, sealed_if, copy_asks, copy_work_asks, copy_feed}
use Rattle.tg_chain.specs.Turns.{fed}
use Rattle.tg_chain.specs.Laws.{EndsBy}
use Rattle.tg_chain.proofs.Steps.{ends_by_answers}
use Rattle.tg_copy.specs.Turns.{spare_of}
use Rattle.tg_copy.specs.Copies.{copying, getting, copy_fed, copy_fed_if}
use Rattle.tg_copy.specs.Laws.{WorkKept, IsLooking, CopyEndsByAnswers, FencedAbove, CopyPausesByAnswers}
use Rattle.tg_copy.proofs.Jobs.{GetNext, get_fed_kept}
use Rattle.tg_copy.proofs.Subs.{read_fed}

-- by which answers the read in hand has ended, if it has
abbrev pub Ended : Bool → CellJob → ℕ → Reply → Next CellJob CellEnd → Type 0
Ended b j u x y = (e : CellEnd) → y ≡ Ends e → (b ≡ true) × EndsBy j u x e

goes_ends : (c : Copying) (e : CopyEnd) → ◌≡◌ {A = Next Copying CopyEnd} (Goes c) (Ends e) → ⊥
goes_ends c e h = cc

learns_ends : (c : Copying) (e : CopyEnd) → ◌≡◌ {A = Next Copying CopyEnd} (Learns c) (Ends e) → ⊥
learns_ends c e h = cc

goes_learns : (c d : Copying) → ◌≡◌ {A = Next Copying CopyEnd} (Goes c) (Learns d) → ⊥
goes_learns c d h = cc

ends_learns : (e : CopyEnd) (d : Copying) → ◌≡◌ {A = Next Copying CopyEnd} (Ends e) (Learns d) → ⊥
ends_learns e d h = cc

same_paused : (c d : Copying) → ◌≡◌ {A = Next Copying CopyEnd} (Learns c) (Learns d) → d ≡ c
same_paused c d h = cc

-- what goes on to a position, or to the look at the end

-- it goes on
abbrev GoesOn : Next Copying CopyEnd → Type 0
GoesOn (Goes c) = Unit {0}
GoesOn (Learns c) = ⊥
GoesOn (Ends e) = ⊥

on_ends : (x : Next Copying CopyEnd) (e : CopyEnd) → GoesOn x → x ≡ Ends e → ⊥
on_ends (Goes c) e on h = goes_ends c e h
on_ends (Learns c) e on h = on
on_ends (Ends f) e on h = on

on_learns : (x : Next Copying CopyEnd) (d : Copying) → GoesOn x → x ≡ Learns d → ⊥
on_learns (Goes c) d on h = goes_learns c d h
on_learns (Learns c) d on h = on
on_learns (Ends f) d on h = on

from_on : (b : Bool) (p : Layout) (c : Copying) (pos n : ℕ) → GoesOn (copy_from p c pos n b).to
unfolding get_cell
from_on true p c pos n = tt
from_on false p c pos n = tt

at_on : (p : Layout) (c : Copying) (pos n : ℕ) → GoesOn (copy_from p c pos n (nat_lt pos (range_end p c.range))).to
at_on p c pos n = from_on (nat_lt pos (range_end p c.range)) p c pos n

sealed_on : (b : Bool) (p : Layout) (c : Copying) (n : ℕ) → GoesOn (sealed_if p c n b).to
sealed_on true p c n = at_on p c (next_in_stripe (range_at p.ranges c.range) c.stripe 0) n
sealed_on false p c n = tt

stored_on : (b : Bool) (p : Layout) (c : Copying) (pos n : ℕ) → GoesOn (stored_if p c pos n b).to
stored_on true p c pos n = at_on p c (next_in_stripe (range_at p.ranges c.range) c.stripe (pos + 1)) n
stored_on false p c pos n = tt

skipped_on : (b : Bool) (p : Layout) (c : Copying) (below n : ℕ) → GoesOn (skipped_if p c below n b).to
skipped_on true p c below n = at_on p c (next_in_stripe (range_at p.ranges c.range) c.stripe below) n
skipped_on false p c below n = tt

-- ---- ends

learns_if_ends : (b : Bool) (c : Copying) (n : ℕ) (e : CopyEnd) → (learns_if {E = CopyEnd} b c n).to ≡ Ends e → ⊥
learns_if_ends true c n e h = learns_ends _ _ h
learns_if_ends false c n e h = goes_ends _ _ h

read_next_ends : (p : Layout) (c : Copying) (pos : ℕ) (y : Next CellJob CellEnd) (n : ℕ) (e : CopyEnd) → (read_next p c pos y n).to ≡ Ends e → ⊥
read_next_ends p c pos (Goes k) n e h = goes_ends _ _ h
read_next_ends p c pos (Learns k) n e h = learns_ends _ _ h
read_next_ends p c pos (Ends (Done x)) n e h = goes_ends _ _ h
read_next_ends p c pos (Ends Seen) n e h = goes_ends _ _ h
read_next_ends p c pos (Ends (Lost x)) n e h = goes_ends _ _ h
read_next_ends p c pos (Ends (Fenced u f)) n e h = learns_ends _ _ h
read_next_ends p c pos (Ends (Gone b)) n e h = goes_ends _ _ h

work_ends : (p : Layout) (s : Join) (w : CopyWork) (u : ℕ) (x : Reply) (n : ℕ) (e : CopyEnd) → (copy_feed p (copying s w) w u x n).to ≡ Ends e → IsLooking w × (x ≡ IsWhole)
unfolding copy_feed
work_ends p s (Reading j) u x n e h = absurd (read_next_ends p (getting s j) j.place.pos _ _ e h)
work_ends p s (Sealing r) u (IsFenced f) n e h = absurd (learns_if_ends (nat_lt p.epoch f) _ n e h)
work_ends p s (Sealing r) u (IsSealed f g) n e h = absurd (on_ends _ e (sealed_on (f == p.epoch) p (copying s (Sealing r)) n) h)
work_ends p s (Sealing r) u _ n e h = absurd (goes_ends _ _ h)
work_ends p s (Storing r pos c) u (IsFenced f) n e h = absurd (learns_if_ends (nat_lt p.epoch f) _ n e h)
work_ends p s (Storing r pos c) u IsHeld n e h = absurd (on_ends _ e (stored_on true p (copying s (Storing r pos c)) pos n) h)
work_ends p s (Storing r pos c) u (IsTaken y) n e h = absurd (on_ends _ e (stored_on (cell_eq c y) p (copying s (Storing r pos c)) pos n) h)
work_ends p s (Storing r pos c) u (IsGone b) n e h = absurd (on_ends _ e (skipped_on (nat_lt pos b) p (copying s (Storing r pos c)) b n) h)
work_ends p s (Storing r pos c) u _ n e h = absurd (goes_ends _ _ h)
work_ends p s (Trimming r b) u (IsFenced f) n e h = absurd (learns_if_ends (nat_lt p.epoch f) _ n e h)
work_ends p s (Trimming r b) u (IsGone d) n e h = absurd (on_ends _ e (skipped_on true p (copying s (Trimming r b)) b n) h)
work_ends p s (Trimming r b) u _ n e h = absurd (goes_ends _ _ h)
work_ends p s (Looking r) u (IsFenced f) n e h = absurd (learns_if_ends (nat_lt p.epoch f) _ n e h)
work_ends p s (Looking r) u IsWhole n e h = (tt, refl)
work_ends p s (Looking r) u (IsMissing pos) n e h = absurd (on_ends _ e (at_on p (copying s (Looking r)) pos n) h)
work_ends p s (Looking r) u _ n e h = absurd (goes_ends _ _ h)

if_ends : (b : Bool) (p : Layout) (s : Join) (w : CopyWork) (u : ℕ) (m : Msg) (n : ℕ) (e : CopyEnd) → (copy_fed_if b p (copying s w) u m n).to ≡ Ends e →
    (b ≡ true) × IsLooking w × (reply m ≡ IsWhole)
if_ends true p s w u m n e h = let by = work_ends p s w u (reply m) n e h in (refl, by.0, by.1)
if_ends false p s w u m n e h = absurd (goes_ends _ _ h)

pub copy_ends_by_answers : CopyEndsByAnswers
copy_ends_by_answers p c from rid m next e h = if_ends (awaits (copy_asks p c) from rid) p (spare_of c) c.work from.num m next e h

-- ---- pauses

learns_if_pauses : (b : Bool) (epoch f : ℕ) (c : Copying) (n : ℕ) (d : Copying) → nat_lt epoch f ≡ b → (learns_if {E = CopyEnd} b c n).to ≡ Learns d → (epoch < f) × (d ≡ c)
learns_if_pauses true epoch f c n d later h = (ltb-true epoch f later, same_paused c d h)
learns_if_pauses false epoch f c n d later h = absurd (goes_learns _ _ h)

work_pauses : (p : Layout) (s : Join) (w : CopyWork) (u : ℕ) (x : Reply) (n : ℕ) (d : Copying) → (copy_feed p (copying s w) w u x n).to ≡ Learns d →
    ((j : CellJob) → w ≡ Reading j → ⊥) → FencedAbove p.epoch x × (d ≡ copying s w)
unfolding copy_feed
work_pauses p s (Reading j) u x n d h other = absurd (other j refl)
work_pauses p s (Sealing r) u (IsFenced f) n d h other = learns_if_pauses (nat_lt p.epoch f) p.epoch f (copying s (Sealing r)) n d refl h
work_pauses p s (Sealing r) u (IsSealed f g) n d h other = absurd (on_learns _ d (sealed_on (f == p.epoch) p (copying s (Sealing r)) n) h)
work_pauses p s (Sealing r) u _ n d h other = absurd (goes_learns _ _ h)
work_pauses p s (Storing r pos c) u (IsFenced f) n d h other = learns_if_pauses (nat_lt p.epoch f) p.epoch f (copying s (Storing r pos c)) n d refl h
work_pauses p s (Storing r pos c) u IsHeld n d h other = absurd (on_learns _ d (stored_on true p (copying s (Storing r pos c)) pos n) h)
work_pauses p s (Storing r pos c) u (IsTaken y) n d h other = absurd (on_learns _ d (stored_on (cell_eq c y) p (copying s (Storing r pos c)) pos n) h)
work_pauses p s (Storing r pos c) u (IsGone b) n d h other = absurd (on_learns _ d (skipped_on (nat_lt pos b) p (copying s (Storing r pos c)) b n) h)
work_pauses p s (Storing r pos c) u _ n d h other = absurd (goes_learns _ _ h)
work_pauses p s (Trimming r b) u (IsFenced f) n d h other = learns_if_pauses (nat_lt p.epoch f) p.epoch f (copying s (Trimming r b)) n d refl h
work_pauses p s (Trimming r b) u (IsGone g) n d h other = absurd (on_learns _ d (skipped_on true p (copying s (Trimming r b)) b n) h)
work_pauses p s (Trimming r b) u _ n d h other = absurd (goes_learns _ _ h)
work_pauses p s (Looking r) u (IsFenced f) n d h other = learns_if_pauses (nat_lt p.epoch f) p.epoch f (copying s (Looking r)) n d refl h
work_pauses p s (Looking r) u IsWhole n d h other = absurd (ends_learns _ _ h)
work_pauses p s (Looking r) u (IsMissing pos) n d h other = absurd (on_learns _ d (at_on p (copying s (Looking r)) pos n) h)
work_pauses p s (Looking r) u _ n d h other = absurd (goes_learns _ _ h)

if_pauses : (b : Bool) (p : Layout) (s : Join) (w : CopyWork) (u : ℕ) (m : Msg) (n : ℕ) (d : Copying) → ((j : CellJob) → w ≡ Reading j → ⊥) →
    (copy_fed_if b p (copying s w) u m n).to ≡ Learns d → (b ≡ true) × FencedAbove p.epoch (reply m) × (d ≡ copying s w)
if_pauses true p s w u m n d other h = let by = work_pauses p s w u (reply m) n d h other in (refl, by.0, by.1)
if_pauses false p s w u m n d other h = absurd (goes_learns _ _ h)

-- a fence tells the later epoch
fence_told : (j : CellJob) (u v e epoch : ℕ) (x : Reply) → j.place.epoch ≡ epoch → EndsBy j u x (Fenced v e) → FencedAbove epoch x
fence_told j u v e epoch x same by =
    subst (λ (z : Reply). FencedAbove epoch z) (sym by.1) (subst (λ (k : ℕ). k < e) same by.2)

read_next_pauses : (b : Bool) (p : Layout) (s : Join) (j : CellJob) (y : Next CellJob CellEnd) (n u : ℕ) (x : Reply) (d : Copying) →
    j.place.epoch ≡ p.epoch → GetNext j.place y → Ended b j u x y → (read_next p (getting s j) j.place.pos y n).to ≡ Learns d →
    (b ≡ true) × FencedAbove p.epoch x × (d ≡ getting s j)
read_next_pauses b p s j (Goes k) n u x d same kept ended h = absurd (goes_learns _ _ h)
read_next_pauses b p s j (Learns k) n u x d same kept ended h = absurd kept
read_next_pauses b p s j (Ends (Done c)) n u x d same kept ended h = absurd (goes_learns _ _ h)
read_next_pauses b p s j (Ends Seen) n u x d same kept ended h = absurd kept
read_next_pauses b p s j (Ends (Lost c)) n u x d same kept ended h = absurd kept
read_next_pauses b p s j (Ends (Fenced v f)) n u x d same kept ended h =
    let by = ended (Fenced v f) refl in
    (by.0, fence_told j u v f p.epoch x same by.1, same_paused (getting s j) d h)
read_next_pauses b p s j (Ends (Gone g)) n u x d same kept ended h = absurd (goes_learns _ _ h)

fed_pauses : (p : Layout) (s : Join) (w : CopyWork) (from : NodeId) (rid : ℕ) (m : Msg) (n : ℕ) (d : Copying) → WorkKept p s w →
    (copy_fed p (copying s w) from rid m n).to ≡ Learns d →
    (awaits (copy_asks p (copying s w)) from rid ≡ true) × FencedAbove p.epoch (reply m) × (d ≡ copying s w)
unfolding copy_work_asks
fed_pauses p s (Sealing r) from rid m n d kept h = if_pauses (awaits (copy_asks p (copying s (Sealing r))) from rid) p s (Sealing r) from.num m n d (λ j e. cc) h
fed_pauses p s (Storing r pos c) from rid m n d kept h = if_pauses (awaits (copy_asks p (copying s (Storing r pos c))) from rid) p s (Storing r pos c) from.num m n d (λ j e. cc) h
fed_pauses p s (Trimming r b) from rid m n d kept h = if_pauses (awaits (copy_asks p (copying s (Trimming r b))) from rid) p s (Trimming r b) from.num m n d (λ j e. cc) h
fed_pauses p s (Looking r) from rid m n d kept h = if_pauses (awaits (copy_asks p (copying s (Looking r))) from rid) p s (Looking r) from.num m n d (λ j e. cc) h
fed_pauses p s (Reading j) from rid m n d kept h =
    let c = fed j from rid m n in
    read_next_pauses (awaits (cell_asks j) from rid) p s j c.to c.next from.num (reply m) d (ap (λ (z : Place). z.epoch) kept.0) (get_fed_kept j from rid m n kept.2) (λ f g. ends_by_answers j from rid m n f g)
    (sym (ap (λ (z : CopyTurn). z.to) (read_fed p s j from rid m n)) ∙ h)

pub copy_pauses_by_answers : CopyPausesByAnswers
copy_pauses_by_answers p c from rid m next d kept h = fed_pauses p (spare_of c) c.work from rid m next d kept h
