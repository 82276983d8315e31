-- On which answers a walk ends, learns and waits.
use Rattle.std.proofs.Common.{◌≡◌, ℕ, zero, suc, ◌+◌, Bool, true, false, not, ◌||◌, List, [], ◌∷◌, ◌++◌, Some, None, refl, sym, ap, subst, ◌∙◌}
use Rattle.std.specs.Prelude.{is_some}
use Rattle.tg_base.specs.Layouts.{Layout}
use Rattle.tg_base.specs.declared.cell.Cell.{Cell}
use Rattle.tg_base.specs.declared.ids.NodeId.{NodeId}
use Rattle.tg_base.specs.declared.msg.Msg.{Msg}
use Rattle.tg_base.specs.declared.packet.Out.{Out}
use Rattle.tg_protocol.specs.Words.{cell_at}
use Rattle.tg_protocol.specs.Requests.{Next, Goes, Learns, Ends, awaits}
use Rattle.tg_protocol.specs.Replies.{Reply, reply}
use Rattle.tg_protocol.specs.Cells.{Place, CellJob, CellWork, Puts, Gets, Fills, Copies, Probes, CellEnd, Done, Seen, Lost, Fenced, Gone, works, place_in, get_cell, cell_asks, work_asks}
use Rattle.tg_protocol.specs.Walking.{Walk, Members, WalkTurn, next_visit, walk_on, walk_from, steps_left, walk_members, visited, read_at, with_job, reads_turn, walk_end, walk_next}
use Rattle.tg_chain.specs.Turns.{fed, drawn_between, new_asks as cell_news}
use Rattle.tg_chain.specs.Laws.{Completes, Loses, passed_by, awaits_more, EndsBy as CellEndsBy}
use Rattle.tg_chain.proofs.Outs.{get_drawn}
use Rattle.tg_chain.proofs.Passing.{waits_for_answers as cell_waits_for_answers}
use Rattle.tg_chain.proofs.Steps.{ends_by_answers as cell_ends_by_answers}
use Rattle.tg_stream.specs.Turns.{by_walk}
use Rattle.tg_stream.specs.Walks.{course_of}
use Rattle.tg_stream.specs.Laws.{EndsBy, EndsByAnswers, Fences, LearnsByFences, WaitsForAnswers, reads_cell}
use Rattle.tg_stream.proofs.Visits.{on-zero, on-none, on-known, on-unknown}
use Rattle.tg_stream.proofs.CellSteps.{fed_besides, fed_over, fed_learns}
use Rattle.tg_stream.proofs.Subs.{job_fed}

-- ---- over known cells

-- a walk that goes on has sent something, it learns nothing, and meets no trim
abbrev WalkedTo : ℕ → WalkTurn → Next Walk Members → Type 0
WalkedTo next t (Goes v) = (by_walk next t).outs ≡ [] → ⊥
WalkedTo next t (Learns v) = ⊥
WalkedTo next t (Ends e) = e.gone ≡ None

abbrev Walked : ℕ → WalkTurn → Type 0
Walked next t = WalkedTo next t t.to

no_cons : (o : Out) (os : List Out) → o ∷ os ≡ [] → ⊥
no_cons o os e = cc

gets_send : (a : Place) (next : ℕ) → drawn_between next (next + 1) (cell_asks (works a (Gets next))) ≡ [] → ⊥
unfolding work_asks
gets_send a next e = no_cons _ _ (sym (get_drawn a next) ∙ e)

reads_walked : (p : Layout) (next : ℕ) (w : Walk) (q : ℕ) → Walked next (reads_turn w (get_cell (place_in p q) next))
unfolding get_cell
reads_walked p next w q = gets_send (place_in p q) next

on_walked : (p : Layout) (next n : ℕ) (w : Walk) → Walked next (walk_on p next n w)
on_walked p next zero w = subst (Walked next) (sym (on-zero p next w)) refl
on_walked p next (suc n) w =
    elim (next_visit w) as (λ o. next_visit w ≡ o → Walked next (walk_on p next (suc n) w)) [
      | None ↦ λ e. subst (Walked next) (sym (on-none p next n w e)) refl
      | Some q ↦ λ e.
          elim (cell_at w.cells q) as (λ o. cell_at w.cells q ≡ o → Walked next (walk_on p next (suc n) w)) [
            | None ↦ λ f. subst (Walked next) (sym (on-unknown p next n w q e f)) (reads_walked p next w q)
            | Some c ↦ λ f. subst (Walked next) (sym (on-known p next n w q c e f)) (on_walked p next n (visited w q c))
          ] refl
    ] refl

walks_walked : (p : Layout) (next : ℕ) (w : Walk) → Walked next (walk_from p next w)
walks_walked p next w = on_walked p next (steps_left (next_visit w)) w

walks_end : (p : Layout) (next : ℕ) (w : Walk) (e : Members) → (walk_from p next w).to ≡ Ends e → e.gone ≡ None
walks_end p next w e h = subst (WalkedTo next (walk_from p next w)) h (walks_walked p next w)

walks_learn : (p : Layout) (next : ℕ) (w v : Walk) → (walk_from p next w).to ≡ Learns v → ⊥
walks_learn p next w v h = subst (WalkedTo next (walk_from p next w)) h (walks_walked p next w)

walks_send : (p : Layout) (next : ℕ) (w v : Walk) → (walk_from p next w).to ≡ Goes v → (by_walk next (walk_from p next w)).outs ≡ [] → ⊥
walks_send p next w v h = subst (WalkedTo next (walk_from p next w)) h (walks_walked p next w)

-- ---- ends

goes_ends : (w : Walk) (e : Members) → ◌≡◌ {A = Next Walk Members} (Goes w) (Ends e) → ⊥
goes_ends w e h = cc

learns_ends : (w : Walk) (e : Members) → ◌≡◌ {A = Next Walk Members} (Learns w) (Ends e) → ⊥
learns_ends w e h = cc

goes_learns : (w v : Walk) → ◌≡◌ {A = Next Walk Members} (Goes w) (Learns v) → ⊥
goes_learns w v h = cc

ends_learns : (e : Members) (v : Walk) → ◌≡◌ {A = Next Walk Members} (Ends e) (Learns v) → ⊥
ends_learns e v h = cc

ends_goes : (e : Members) (v : Walk) → ◌≡◌ {A = Next Walk Members} (Ends e) (Goes v) → ⊥
ends_goes e v h = cc

learns_goes : (w v : Walk) → ◌≡◌ {A = Next Walk Members} (Learns w) (Goes v) → ⊥
learns_goes w v h = cc

same_end : (d e : Members) → ◌≡◌ {A = Next Walk Members} (Ends d) (Ends e) → d ≡ e
same_end d e h = cc

same_learner : (w v : Walk) → ◌≡◌ {A = Next Walk Members} (Learns w) (Learns v) → v ≡ w
same_learner w v h = cc

end_by : (p : Layout) (w : Walk) (j : CellJob) (u : ℕ) (x : Reply) (next : ℕ) (y : CellEnd) (e : Members) → CellEndsBy j u x y →
    (walk_end p (with_job w j) j.place.pos y next).to ≡ Ends e → EndsBy j x e.gone
end_by p w j u x next (Done c) e by h =
    subst (EndsBy j x) (sym (walks_end p next (read_at (with_job w j) j.place.pos c) e h)) (ap is_some by.0, by.1)
end_by p w j u x next Seen e by h = absurd (goes_ends _ _ h)
end_by p w j u x next (Lost c) e by h = absurd (goes_ends _ _ h)
end_by p w j u x next (Fenced v f) e by h = absurd (learns_ends _ _ h)
end_by p w j u x next (Gone b) e by h =
    let gone : Some b ≡ e.gone = ap (λ (z : Members). z.gone) (same_end (walk_members (with_job w j) (Some b)) e h) in
    subst (EndsBy j x) gone (by.0, by.1)

turn_ends : (p : Layout) (w : Walk) (j : CellJob) (from : NodeId) (rid : ℕ) (m : Msg) (next : ℕ) (e : Members) (x : Next CellJob CellEnd) → (fed j from rid m next).to ≡ x →
    (walk_next p (with_job w j) j.place.pos x (fed j from rid m next).next).to ≡ Ends e → (awaits (cell_asks j) from rid ≡ true) × EndsBy j (reply m) e.gone
turn_ends p w j from rid m next e (Goes k) to h = absurd (goes_ends _ _ h)
turn_ends p w j from rid m next e (Learns k) to h = absurd (learns_ends _ _ h)
turn_ends p w j from rid m next e (Ends y) to h =
    let by = cell_ends_by_answers j from rid m next y to in
    (by.0, end_by p w j from.num (reply m) (fed j from rid m next).next y e by.1 h)

pub ends_by_answers : EndsByAnswers
ends_by_answers p w j from rid m next e h =
    turn_ends p w j from rid m next e (fed j from rid m next).to refl (ap (λ (t : WalkTurn). t.to) (sym (job_fed p (course_of w) j from rid m next)) ∙ h)

-- ---- fences

learn_by : (p : Layout) (w : Walk) (j : CellJob) (u : ℕ) (x : Reply) (next : ℕ) (y : CellEnd) (v : Walk) → CellEndsBy j u x y →
    (walk_end p (with_job w j) j.place.pos y next).to ≡ Learns v → Fences j x × (v ≡ with_job w j)
learn_by p w j u x next (Done c) v by h = absurd (walks_learn p next (read_at (with_job w j) j.place.pos c) v h)
learn_by p w j u x next Seen v by h = absurd (goes_learns _ _ h)
learn_by p w j u x next (Lost c) v by h = absurd (goes_learns _ _ h)
learn_by p w j u x next (Fenced a f) v by h = (subst (Fences j) (sym by.1) by.2, same_learner (with_job w j) v h)
learn_by p w j u x next (Gone b) v by h = absurd (ends_learns _ _ h)

turn_learns : (p : Layout) (w : Walk) (j : CellJob) (from : NodeId) (rid : ℕ) (m : Msg) (next : ℕ) (v : Walk) (x : Next CellJob CellEnd) → (fed j from rid m next).to ≡ x →
    (walk_next p (with_job w j) j.place.pos x (fed j from rid m next).next).to ≡ Learns v → (awaits (cell_asks j) from rid ≡ true) × Fences j (reply m) × (v ≡ with_job w j)
turn_learns p w j from rid m next v (Goes k) to h = absurd (goes_learns _ _ h)
turn_learns p w j from rid m next v (Learns k) to h = absurd (fed_learns j from rid m next k to)
turn_learns p w j from rid m next v (Ends y) to h =
    let by = cell_ends_by_answers j from rid m next y to in
    let learnt = learn_by p w j from.num (reply m) (fed j from rid m next).next y v by.1 h in
    (by.0, learnt.0, learnt.1)

pub learns_by_fences : LearnsByFences
learns_by_fences p w j from rid m next v h =
    turn_learns p w j from rid m next v (fed j from rid m next).to refl (ap (λ (t : WalkTurn). t.to) (sym (job_fed p (course_of w) j from rid m next)) ∙ h)

-- ---- what is passed by

not_complete : (w : CellWork) (u : ℕ) → reads_cell w ≡ true → Completes w u → ⊥
not_complete (Puts r d i) u e h = cc
not_complete (Gets r) u e h = cc
not_complete (Fills r) u e h = cc
not_complete (Copies r c i) u e h = cc
not_complete (Probes ws) u e h = absurd (cc)

not_lost : (w : CellWork) (x : Reply) (c : Cell) → reads_cell w ≡ true → Loses w x c → ⊥
not_lost (Puts r d i) x c e h = absurd (cc)
not_lost (Gets r) x c e h = cc
not_lost (Fills r) x c e h = cc
not_lost (Copies r y i) x c e h = cc
not_lost (Probes ws) x c e h = cc

no_more : (w : CellWork) (u : ℕ) (x : Reply) → reads_cell w ≡ true → awaits_more w u x ≡ false
no_more (Puts r d i) u x e = refl
no_more (Gets r) u x e = refl
no_more (Fills r) u x e = refl
no_more (Copies r c i) u x e = refl
no_more (Probes ws) u x e = absurd (cc)

or_false : (b : Bool) → (b || false) ≡ b
or_false true = refl
or_false false = refl

abbrev IsPassed : CellJob → NodeId → ℕ → Msg → Type 0
IsPassed j from rid m = (not (awaits (cell_asks j) from rid) || passed_by j.place j.work (reply m)) ≡ true

end_waits : (p : Layout) (w : Walk) (j : CellJob) (from : NodeId) (rid : ℕ) (m : Msg) (next : ℕ) (y : CellEnd) (v : Walk) → reads_cell j.work ≡ true → CellEndsBy j from.num (reply m) y →
    (walk_end p (with_job w j) j.place.pos y next).to ≡ Goes v → (by_walk next (walk_end p (with_job w j) j.place.pos y next)).outs ≡ [] → IsPassed j from rid m
end_waits p w j from rid m next (Done c) v work by g n = absurd (walks_send p next (read_at (with_job w j) j.place.pos c) v g n)
end_waits p w j from rid m next Seen v work by g n = absurd (not_complete j.work from.num work by.1)
end_waits p w j from rid m next (Lost c) v work by g n = absurd (not_lost j.work (reply m) c work by)
end_waits p w j from rid m next (Fenced a f) v work by g n = absurd (learns_goes _ _ g)
end_waits p w j from rid m next (Gone b) v work by g n = absurd (ends_goes _ _ g)

abbrev Waits : CellJob → NodeId → ℕ → Msg → ℕ → Walk → WalkTurn → Type 0
Waits j from rid m next v t = t.to ≡ Goes v → (by_walk next t).outs ≡ [] → IsPassed j from rid m

turn_waits : (p : Layout) (w : Walk) (j : CellJob) (from : NodeId) (rid : ℕ) (m : Msg) (next : ℕ) (v : Walk) (x : Next CellJob CellEnd) → reads_cell j.work ≡ true →
    (fed j from rid m next).to ≡ x → Waits j from rid m next v (walk_next p (with_job w j) j.place.pos x (fed j from rid m next).next)
turn_waits p w j from rid m next v (Goes k) work to g n =
    let c = fed j from rid m next in
    let sent : c.besides ++ cell_news cell_asks next c.next c.to ≡ [] =
    ap (λ b. b ++ cell_news cell_asks next c.next c.to) (fed_besides j from rid m next) ∙ ap (λ y. cell_news cell_asks next c.next y) to ∙ n in
    let passed = cell_waits_for_answers j from rid m next k to sent in
    sym (ap (λ b. not (awaits (cell_asks j) from rid) || b) (ap (λ b. passed_by j.place j.work (reply m) || b) (no_more j.work from.num (reply m) work) ∙ or_false (passed_by j.place j.work (reply m))))
    ∙ passed
turn_waits p w j from rid m next v (Learns k) work to g n = absurd (learns_goes _ _ g)
turn_waits p w j from rid m next v (Ends y) work to g n =
    let by = cell_ends_by_answers j from rid m next y to in
    subst (λ i. Waits j from rid m next v (walk_end p (with_job w j) j.place.pos y i)) (sym (fed_over j from rid m next y to))
    (λ a b. end_waits p w j from rid m next y v work by.1 a b) g n

pub waits_for_answers : WaitsForAnswers
waits_for_answers p w j from rid m next v work =
    subst (Waits j from rid m next v) (sym (job_fed p (course_of w) j from rid m next)) (turn_waits p w j from rid m next v (fed j from rid m next).to work refl)
