-- What a copy passes by.
use Rattle.std.proofs.Common.{◌≡◌, ℕ, ◌+◌, Bool, true, false, not, ◌||◌, ◌==◌, nat_lt, nat_le, List, [], ◌∷◌, ◌++◌, refl, sym, ap, subst, ◌∙◌, arith}
use Rattle.std.proofs.lemmas.Bool.Decides.{nat_tests}
use Rattle.tg_base.specs.Layouts.{Layout}
use Rattle.tg_base.specs.declared.change.Join.{Join}
use Rattle.tg_base.specs.declared.cell.Cell.{Cell}
use Rattle.tg_base.specs.declared.ids.NodeId.{NodeId}
use Rattle.tg_base.specs.declared.msg.Msg.{Msg}
use Rattle.tg_base.specs.declared.packet.Out.{Out}
use Rattle.tg_proj.specs.Places.{range_at}
use Rattle.tg_protocol.specs.Words.{cell_eq}
use Rattle.tg_protocol.specs.Layouts.{range_end, next_in_stripe}
use Rattle.tg_protocol.specs.Requests.{Next, Goes, Learns, Ends, awaits}
use Rattle.tg_protocol.specs.Replies.{Reply, IsHeld, IsTaken, IsGone, IsFenced, IsSealed, IsMissing, IsWhole, reply}
use Rattle.tg_protocol.specs.Cells.{Place, CellJob, CellWork, Puts, Gets, Fills, Copies, Probes, CellEnd, Done, Seen, Lost, Fenced, Gone, works, place_in, get_cell, cell_asks, work_asks}
use Rattle.tg_protocol.specs.Trimming.{Copying, CopyWork, Sealing, Reading, Storing, Trimming, Looking, CopyEnd, CopyTurn, learns_if, copy_from, read_next, stored_if, skipped_if, sealed_if, copy_asks, copy_work_asks, copy_feed}
use Rattle.tg_chain.specs.Turns.{fed, drawn_between, new_asks as cell_news}
use Rattle.tg_chain.specs.Laws.{passed_by, awaits_more}
use Rattle.tg_chain.proofs.Outs.{get_drawn, one_drawn}
use Rattle.tg_chain.proofs.Passing.{waits_for_answers}
use Rattle.tg_copy.specs.declared.copy_state.Ask.{Ask}
use Rattle.tg_copy.specs.declared.copy_state.Ask.TheVariants as ask
use Rattle.tg_copy.specs.Turns.{spare_of, by_copy}
use Rattle.tg_copy.specs.Copies.{copying, asking, getting, copy_fed, copy_fed_if}
use Rattle.tg_copy.specs.Laws.{is_get, WorkKept, copy_passes, CopyWaitsForAnswers}
use Rattle.tg_copy.proofs.Cells.{fed_besides, fed_over}
use Rattle.tg_copy.proofs.Jobs.{GetNext, get_fed_kept}
use Rattle.tg_copy.proofs.Outs.{ask_drawn}
use Rattle.tg_copy.proofs.Subs.{read_fed}

no_cons : (o : Out) (os : List Out) → o ∷ os ≡ [] → ⊥
no_cons o os e = cc

ends_go : (e : CopyEnd) (d : Copying) → ◌≡◌ {A = Next Copying CopyEnd} (Ends e) (Goes d) → ⊥
ends_go e d h = cc

learns_go : (c d : Copying) → ◌≡◌ {A = Next Copying CopyEnd} (Learns c) (Goes d) → ⊥
learns_go c d h = cc

-- a request that is drawn in the step is sent
asks_send : (p : Layout) (s : Join) (a : Ask) (n : ℕ) → drawn_between n (n + 1) (copy_asks p (asking s n a)) ≡ [] → ⊥
unfolding copy_work_asks
asks_send p s ask.Seal n h = no_cons _ _ (sym (ask_drawn p s ask.Seal n) ∙ h)
asks_send p s (ask.Store pos x) n h = no_cons _ _ (sym (ask_drawn p s (ask.Store pos x) n) ∙ h)
asks_send p s (ask.Trim b) n h = no_cons _ _ (sym (ask_drawn p s (ask.Trim b) n) ∙ h)
asks_send p s ask.Look n h = no_cons _ _ (sym (ask_drawn p s ask.Look n) ∙ h)

asks_send_at : (p : Layout) (s : Join) (a : Ask) (old n : ℕ) → n ≡ old → drawn_between old (n + 1) (copy_asks p (asking s n a)) ≡ [] → ⊥
asks_send_at p s a old n same h = asks_send p s a old (subst (λ (k : ℕ). drawn_between old (k + 1) (copy_asks p (asking s k a)) ≡ []) same h)

gets_send : (a : Place) (n : ℕ) → drawn_between n (n + 1) (cell_asks (works a (Gets n))) ≡ [] → ⊥
unfolding work_asks
gets_send a n h = no_cons _ _ (sym (get_drawn a n) ∙ h)

from_sends : (b : Bool) (p : Layout) (s : Join) (w : CopyWork) (pos n : ℕ) → (by_copy p n (copy_from p (copying s w) pos n b)).outs ≡ [] → ⊥
unfolding get_cell copy_work_asks
from_sends true p s w pos n h = gets_send (place_in p pos) n h
from_sends false p s w pos n h = asks_send p s ask.Look n h

at_sends : (p : Layout) (s : Join) (w : CopyWork) (pos n : ℕ) → (by_copy p n (copy_from p (copying s w) pos n (nat_lt pos (range_end p s.range)))).outs ≡ [] → ⊥
at_sends p s w pos n h = from_sends (nat_lt pos (range_end p s.range)) p s w pos n h

past_sends : (p : Layout) (s : Join) (w : CopyWork) (pos n : ℕ) →
    (by_copy p n (copy_from p (copying s w) (next_in_stripe (range_at p.ranges s.range) s.stripe pos) n (nat_lt (next_in_stripe (range_at p.ranges s.range) s.stripe pos) (range_end p s.range)))).outs ≡ [] → ⊥
past_sends p s w pos n h = at_sends p s w (next_in_stripe (range_at p.ranges s.range) s.stripe pos) n h

not_later : (epoch e : ℕ) → nat_lt epoch e ≡ false → nat_le e epoch ≡ true
not_later epoch e h = grind (arith, nat_tests)

learns_if_waits : (b : Bool) (epoch e : ℕ) (c : Copying) (n : ℕ) (d : Copying) → nat_lt epoch e ≡ b → (learns_if {E = CopyEnd} b c n).to ≡ Goes d → nat_le e epoch ≡ true
learns_if_waits true epoch e c n d f h = absurd (learns_go _ _ h)
learns_if_waits false epoch e c n d f h = not_later epoch e f

sealed_waits : (b : Bool) (p : Layout) (s : Join) (r n : ℕ) → (by_copy p n (sealed_if p (copying s (Sealing r)) n b)).outs ≡ [] → not b ≡ true
sealed_waits true p s r n h = absurd (past_sends p s (Sealing r) 0 n h)
sealed_waits false p s r n h = refl

stored_waits : (b : Bool) (p : Layout) (s : Join) (r pos : ℕ) (c : Cell) (n : ℕ) → (by_copy p n (stored_if p (copying s (Storing r pos c)) pos n b)).outs ≡ [] → not b ≡ true
stored_waits true p s r pos c n h = absurd (past_sends p s (Storing r pos c) (pos + 1) n h)
stored_waits false p s r pos c n h = refl

skipped_waits : (b : Bool) (p : Layout) (s : Join) (r pos : ℕ) (c : Cell) (below n : ℕ) → nat_lt pos below ≡ b →
    (by_copy p n (skipped_if p (copying s (Storing r pos c)) below n b)).outs ≡ [] → nat_le below pos ≡ true
skipped_waits true p s r pos c below n e h = absurd (past_sends p s (Storing r pos c) below n h)
skipped_waits false p s r pos c below n e h = not_later pos below e

-- what the spare answers
abbrev IsAsked : CopyWork → Type 0
IsAsked (Reading j) = ⊥
IsAsked w = Unit {0}

work_waits : (p : Layout) (s : Join) (w : CopyWork) (u : ℕ) (x : Reply) (n : ℕ) (d : Copying) → IsAsked w → (copy_feed p (copying s w) w u x n).to ≡ Goes d →
    (by_copy p n (copy_feed p (copying s w) w u x n)).outs ≡ [] → copy_passes p w x ≡ true
unfolding copy_feed
work_waits p s (Reading j) u x n d spare h none = absurd spare
work_waits p s (Sealing r) u (IsFenced e) n d spare h none = learns_if_waits (nat_lt p.epoch e) p.epoch e (copying s (Sealing r)) n d refl h
work_waits p s (Sealing r) u (IsSealed e g) n d spare h none = sealed_waits (e == p.epoch) p s r n none
work_waits p s (Sealing r) u _ n d spare h none = refl
work_waits p s (Storing r pos c) u (IsFenced e) n d spare h none = learns_if_waits (nat_lt p.epoch e) p.epoch e (copying s (Storing r pos c)) n d refl h
work_waits p s (Storing r pos c) u IsHeld n d spare h none = absurd (past_sends p s (Storing r pos c) (pos + 1) n none)
work_waits p s (Storing r pos c) u (IsTaken y) n d spare h none = stored_waits (cell_eq c y) p s r pos c n none
work_waits p s (Storing r pos c) u (IsGone b) n d spare h none = skipped_waits (nat_lt pos b) p s r pos c b n refl none
work_waits p s (Storing r pos c) u _ n d spare h none = refl
work_waits p s (Trimming r b) u (IsFenced e) n d spare h none = learns_if_waits (nat_lt p.epoch e) p.epoch e (copying s (Trimming r b)) n d refl h
work_waits p s (Trimming r b) u (IsGone g) n d spare h none = absurd (past_sends p s (Trimming r b) b n none)
work_waits p s (Trimming r b) u _ n d spare h none = refl
work_waits p s (Looking r) u (IsFenced e) n d spare h none = learns_if_waits (nat_lt p.epoch e) p.epoch e (copying s (Looking r)) n d refl h
work_waits p s (Looking r) u IsWhole n d spare h none = absurd (ends_go _ _ h)
work_waits p s (Looking r) u (IsMissing pos) n d spare h none = absurd (at_sends p s (Looking r) pos n none)
work_waits p s (Looking r) u _ n d spare h none = refl

if_waits : (b : Bool) (p : Layout) (s : Join) (w : CopyWork) (u : ℕ) (m : Msg) (n : ℕ) (d : Copying) → IsAsked w → (copy_fed_if b p (copying s w) u m n).to ≡ Goes d →
    (by_copy p n (copy_fed_if b p (copying s w) u m n)).outs ≡ [] → (not b || copy_passes p w (reply m)) ≡ true
if_waits true p s w u m n d spare h none = work_waits p s w u (reply m) n d spare h none
if_waits false p s w u m n d spare h none = refl

-- ---- reads

-- a get awaits one answer
get_more : (j : CellWork) (u : ℕ) (x : Reply) → is_get j ≡ true → awaits_more j u x ≡ false
get_more (Puts r d i) u x h = absurd cc
get_more (Gets r) u x h = refl
get_more (Fills r) u x h = refl
get_more (Copies r c i) u x h = refl
get_more (Probes ws) u x h = absurd cc

or_false : (a b c : Bool) → c ≡ false → (a || (b || c)) ≡ true → (a || b) ≡ true
or_false true b c f h = refl
or_false false true c f h = refl
or_false false false true f h = absurd cc
or_false false false false f h = absurd cc

job_waits : (j k : CellJob) (from : NodeId) (rid : ℕ) (m : Msg) (old : ℕ) → is_get j.work ≡ true → (fed j from rid m old).to ≡ Goes k →
    drawn_between old (fed j from rid m old).next (cell_asks k) ≡ [] → (not (awaits (cell_asks j) from rid) || passed_by j.place j.work (reply m)) ≡ true
job_waits j k from rid m old get goes none =
    let c = fed j from rid m old in
    or_false (not (awaits (cell_asks j) from rid)) (passed_by j.place j.work (reply m)) (awaits_more j.work from.num (reply m)) (get_more j.work from.num (reply m) get)
    (waits_for_answers j from rid m old k goes
    (ap (λ (b : List Out). b ++ cell_news cell_asks old c.next c.to) (fed_besides j from rid m old) ∙ ap (λ z. cell_news cell_asks old c.next z) goes ∙ none))

read_next_waits : (p : Layout) (s : Join) (j : CellJob) (from : NodeId) (rid : ℕ) (m : Msg) (old : ℕ) (y : Next CellJob CellEnd) (d : Copying) →
    is_get j.work ≡ true → (fed j from rid m old).to ≡ y → GetNext j.place y → (read_next p (getting s j) j.place.pos y (fed j from rid m old).next).to ≡ Goes d →
    (by_copy p old (read_next p (getting s j) j.place.pos y (fed j from rid m old).next)).outs ≡ [] →
    (not (awaits (cell_asks j) from rid) || passed_by j.place j.work (reply m)) ≡ true
unfolding copy_work_asks
read_next_waits p s j from rid m old (Goes k) d get is kept h none = job_waits j k from rid m old get is none
read_next_waits p s j from rid m old (Learns k) d get is kept h none = absurd kept
read_next_waits p s j from rid m old (Ends (Done c)) d get is kept h none = absurd (asks_send_at p s (ask.Store j.place.pos c) old _ (fed_over j from rid m old (Done c) is) none)
read_next_waits p s j from rid m old (Ends Seen) d get is kept h none = absurd kept
read_next_waits p s j from rid m old (Ends (Lost c)) d get is kept h none = absurd kept
read_next_waits p s j from rid m old (Ends (Fenced u e)) d get is kept h none = absurd (learns_go _ _ h)
read_next_waits p s j from rid m old (Ends (Gone g)) d get is kept h none = absurd (asks_send_at p s (ask.Trim g) old _ (fed_over j from rid m old (Gone g) is) none)

reads_wait : (p : Layout) (s : Join) (j : CellJob) (from : NodeId) (rid : ℕ) (m : Msg) (old : ℕ) (d : Copying) → WorkKept p s (Reading j) →
    (copy_fed p (getting s j) from rid m old).to ≡ Goes d → (by_copy p old (copy_fed p (getting s j) from rid m old)).outs ≡ [] →
    (not (awaits (copy_asks p (getting s j)) from rid) || passed_by j.place j.work (reply m)) ≡ true
unfolding copy_work_asks
reads_wait p s j from rid m old d kept h none =
    let c = fed j from rid m old in
    let turned = read_fed p s j from rid m old in
    read_next_waits p s j from rid m old c.to d kept.2 refl (get_fed_kept j from rid m old kept.2)
    (sym (ap (λ (z : CopyTurn). z.to) turned) ∙ h) (sym (ap (λ (z : CopyTurn). (by_copy p old z).outs) turned) ∙ none)

fed_waits : (p : Layout) (s : Join) (w : CopyWork) (from : NodeId) (rid : ℕ) (m : Msg) (old : ℕ) (d : Copying) → WorkKept p s w →
    (copy_fed p (copying s w) from rid m old).to ≡ Goes d → (by_copy p old (copy_fed p (copying s w) from rid m old)).outs ≡ [] →
    (not (awaits (copy_asks p (copying s w)) from rid) || copy_passes p w (reply m)) ≡ true
fed_waits p s (Sealing r) from rid m old d kept h none = if_waits (awaits (copy_asks p (copying s (Sealing r))) from rid) p s (Sealing r) from.num m old d tt h none
fed_waits p s (Storing r pos c) from rid m old d kept h none = if_waits (awaits (copy_asks p (copying s (Storing r pos c))) from rid) p s (Storing r pos c) from.num m old d tt h none
fed_waits p s (Trimming r b) from rid m old d kept h none = if_waits (awaits (copy_asks p (copying s (Trimming r b))) from rid) p s (Trimming r b) from.num m old d tt h none
fed_waits p s (Looking r) from rid m old d kept h none = if_waits (awaits (copy_asks p (copying s (Looking r))) from rid) p s (Looking r) from.num m old d tt h none
fed_waits p s (Reading j) from rid m old d kept h none = reads_wait p s j from rid m old d kept h none

pub copy_waits_for_answers : CopyWaitsForAnswers
copy_waits_for_answers p c from rid m next d kept h none = fed_waits p (spare_of c) c.work from rid m next d kept h none
