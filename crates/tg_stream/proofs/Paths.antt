-- The path of a stream, visit by visit.
use Rattle.std.proofs.Common.{◌≡◌, ◌≢◌, ℕ, zero, suc, ◌+◌, ◌-◌, ◌≤◌, ◌<◌, Bool, true, false, nat_le, nat_lt, List, [], ◌∷◌, ◌++◌, Option, Some, None, refl, sym, ap, subst, ◌∙◌, append_assoc, arith}
use Rattle.std.specs.List.{list_all}
use Rattle.std.specs.Prelude.{Contains}
use Rattle.std.proofs.lemmas.List.Elements.{Contains-append_right}
use Rattle.std.proofs.lemmas.Bool.Decides.{nat_tests}
use Rattle.tg_base.proofs.Exact.{and-left, and-right}
use Rattle.tg_base.specs.Layouts.{Layout}
use Rattle.tg_base.specs.declared.cell.Cell.{Cell}
use Rattle.tg_base.specs.declared.ids.NodeId.{NodeId}
use Rattle.tg_base.specs.declared.ids.Oid.{Oid}
use Rattle.tg_base.specs.declared.msg.Msg.{Msg}
use Rattle.tg_protocol.specs.Words.{cell_at, with_cell, where_true}
use Rattle.tg_entry.specs.Records.{is_falling}
use Rattle.tg_protocol.specs.Logs.{Log, path, path_on, first_on}
use Rattle.tg_protocol.specs.Requests.{Next, Goes, Learns, Ends}
use Rattle.tg_protocol.specs.Replies.{Reply, reply}
use Rattle.tg_protocol.specs.Cells.{CellJob, CellEnd, Done, Seen, Lost, Fenced, Gone, place_in, get_cell}
use Rattle.tg_protocol.specs.Walking.{Trail, trail, go_down, next_on, next_of_trail, rest_of, trail_after, pointers_at, member_after, Walk, WalkTurn, at_least, next_visit, steps_left, visited, read_at, with_job, reads_turn, walk_on, walk_from, walk_start, walk_end, walk_next}
use Rattle.tg_chain.specs.Turns.{fed}
use Rattle.tg_chain.specs.Laws.{EndsBy as CellEndsBy}
use Rattle.tg_chain.proofs.Steps.{ends_by_answers as cell_ends_by_answers}
use Rattle.tg_stream.specs.Walks.{begun, course_of, walk_of, walk_fed}
use Rattle.tg_stream.specs.Laws.{Reads, ReadsBy}
use Rattle.tg_stream.specs.Paths.{Holds, FallsIn, pointers_by, members_met, Along, IsAlong, IsOver, GoesAlong, ThenAlong, FollowsPath}
use Rattle.tg_stream.proofs.Visits.{on-zero, on-none, on-known, on-unknown}
use Rattle.tg_stream.proofs.Lookups.{found, others}
use Rattle.tg_stream.proofs.Trails.{visit-from, below-own, next-below}
use Rattle.tg_stream.proofs.Subs.{job_fed}
use Rattle.tg_stream.proofs.Reading.{same_walk}

-- ---- each visit goes further down

same-some : (a b : ℕ) → Some a ≡ Some b → a ≡ b
same-some a b e = cc

down-under : (four : Bool) (q r : ℕ) → go_down four q ≡ Some r → r < q
down-under true q r e = grind (arith, nat_tests)
down-under false q r e = absurd (cc)

rest-under : (ps : List ℕ) (t : Trail) (q r : ℕ) → is_falling ps ≡ true → next_on t ps ≡ Some q → next_on (record { pointers = rest_of ps; were_four = t.were_four; last = q }) (rest_of ps) ≡ Some r → r < q
rest-under [] t q r h e g = down-under t.were_four q r g
rest-under (x ∷ []) t q r h e g = down-under t.were_four q r g
rest-under (x ∷ y ∷ ps) t q r h e g =
    let lt : nat_lt y x ≡ true = and-left _ _ h in
    let one : x ≡ q = same-some x q e in
    let two : y ≡ r = same-some y r g in
    grind (arith, nat_tests)

next-under : (t : Trail) (o : Oid) (q r : ℕ) (c : Cell) (x : Option (List ℕ)) → pointers_at o q c ≡ x → is_falling t.pointers ≡ true → next_of_trail t ≡ Some q →
    next_of_trail (trail_after t q x) ≡ Some r → r < q
next-under t o q r c None e h f g = rest-under t.pointers t q r h f g
next-under t o q r c (Some ps) e h f g = next-below q r (trail ps q) (below-own q ps o c e) g

-- ---- one visit

path_cell : Log → Oid → ℕ → Trail → ℕ → Option Cell → List ℕ
path_cell l o n t q x = elim x as (λ _. List ℕ) [
  | None ↦ q ∷ []
  | Some c ↦ q ∷ path_on l o n (trail_after t q (pointers_at o q c))
]

path_visit : Log → Oid → ℕ → Trail → Option ℕ → List ℕ
path_visit l o n t x = elim x as (λ _. List ℕ) [
  | None ↦ []
  | Some q ↦ path_cell l o n t q (cell_at l q)
]

path_step : (l : Log) (o : Oid) (n : ℕ) (t : Trail) (q : ℕ) (c : Cell) → next_of_trail t ≡ Some q → cell_at l q ≡ Some c →
    path_on l o (suc n) t ≡ q ∷ path_on l o n (trail_after t q (pointers_at o q c))
unfolding path_on path_visit path_cell
path_step l o n t q c e f = ap (path_visit l o n t) e ∙ ap (path_cell l o n t q) f

all-last : (lo q : ℕ) (qs : List ℕ) → list_all (λ r. nat_le lo r) qs ≡ true → lo ≤ q → list_all (λ r. nat_le lo r) (qs ++ q ∷ []) ≡ true
all-last lo q [] h le = grind (arith, nat_tests)
all-last lo q (r ∷ qs) h le = grind (arith, nat_tests, all-last lo q qs)

met-last : (l : Log) (o : Oid) (ms : List ℕ) (q : ℕ) (qs : List ℕ) →
    members_met l o ms (qs ++ q ∷ []) ≡ member_after (members_met l o ms qs) q (pointers_by o q (cell_at l q))
met-last l o ms q [] = refl
met-last l o ms q (r ∷ qs) = met-last l o (member_after ms r (pointers_by o r (cell_at l r))) q qs

falls-rest : (ps : List ℕ) → is_falling ps ≡ true → is_falling (rest_of ps) ≡ true
falls-rest [] h = refl
falls-rest (x ∷ []) h = refl
falls-rest (x ∷ y ∷ ps) h = and-right _ _ h

falls-by : (t : Trail) (q : ℕ) (x : Option (List ℕ)) → is_falling t.pointers ≡ true → ((ps : List ℕ) → x ≡ Some ps → is_falling ps ≡ true) → is_falling (trail_after t q x).pointers ≡ true
falls-by t q None h k = falls-rest t.pointers h
falls-by t q (Some ps) h k = k ps refl

visit_along : (l : Log) (o : Oid) (lasts : List ℕ) (lo : ℕ) (t : Trail) (ms : List ℕ) (q : ℕ) (c : Cell) → FallsIn l o → cell_at l q ≡ Some c → next_of_trail t ≡ Some q → lo ≤ q →
    Along l o lasts lo t ms → Along l o lasts lo (trail_after t q (pointers_at o q c)) (member_after ms q (pointers_at o q c))
visit_along l o lasts lo t ms q c falling f e le a =
    let more : q + 2 ≤ a.steps = a.enough q e in
    let one : a.steps ≡ suc (a.steps - 1) = omega (arith, more) in
    record {
      visits = a.visits ++ q ∷ [];
      steps = a.steps - 1;
      front =
          a.front
          ∙ ap (λ k. a.visits ++ path_on l o k t) one
          ∙ ap (λ ps. a.visits ++ ps) (path_step l o (a.steps - 1) t q c e f)
          ∙ sym (append_assoc a.visits (q ∷ []) (path_on l o (a.steps - 1) (trail_after t q (pointers_at o q c))));
      enough = λ r g. let lt : r < q = next-under t o q r c (pointers_at o q c) refl a.falls e g in omega (arith, more, lt);
      from = all-last lo q a.visits a.from le;
      members =
          ap (λ xs. member_after xs q (pointers_at o q c)) a.members
          ∙ ap (λ x. member_after (members_met l o [] a.visits) q (pointers_by o q x)) (sym f)
          ∙ sym (met-last l o [] q a.visits);
      falls = falls-by t q (pointers_at o q c) a.falls (λ ps g. falling q c ps f g);
    }

-- ---- over known cells

fuel-if : (b : Bool) (lo q r n : ℕ) → nat_le lo r ≡ b → q + 2 ≤ suc n → r < q → steps_left (where_true b r) ≤ n
fuel-if true lo q r n e le lt = omega (arith, le, lt)
fuel-if false lo q r n e le lt = omega (arith, le)

fuel-by : (lo q n : ℕ) (x : Option ℕ) → q + 2 ≤ suc n → ((r : ℕ) → x ≡ Some r → r < q) → steps_left (at_least lo x) ≤ n
fuel-by lo q n None le k = omega (arith, le)
fuel-by lo q n (Some r) le k = let lt : r < q = k r refl in fuel-if (nat_le lo r) lo q r n refl le lt

fuel_on : (w : Walk) (q n : ℕ) (c : Cell) → is_falling w.trail.pointers ≡ true → next_visit w ≡ Some q → steps_left (next_visit w) ≤ suc n → steps_left (next_visit (visited w q c)) ≤ n
fuel_on w q n c h e le =
    let enough : q + 2 ≤ suc n = subst (λ x. steps_left x ≤ suc n) e le in
    fuel-by w.lo q n (next_of_trail (visited w q c).trail) enough
    (λ r g. next-under w.trail w.oid q r c (pointers_at w.oid q c) refl h (visit-from w q e).1 g)

no-step : (x : Option ℕ) → steps_left x ≤ 0 → ⊥
no-step None le = omega (arith, le)
no-step (Some q) le = omega (arith, le)

some-none : (c : Cell) → Some c ≡ None → ⊥
some-none c e = cc

abbrev Alongs : Log → List ℕ → Walk → Type 0
Alongs l lasts w = Holds l w.cells → IsAlong l lasts w

reads_along : (p : Layout) (next : ℕ) (w : Walk) (q : ℕ) (lasts : List ℕ) (l : Log) → Alongs l lasts w → ThenAlong l w.oid lasts w.lo (reads_turn w (get_cell (place_in p q) next)).to
unfolding get_cell
reads_along p next w q lasts l a = λ h. record { same_oid = refl; same_lo = refl; along = a h }

on_along : (p : Layout) (next n : ℕ) (w : Walk) (lasts : List ℕ) (l : Log) → FallsIn l w.oid → Alongs l lasts w → (Holds l w.cells → steps_left (next_visit w) ≤ n) →
    ThenAlong l w.oid lasts w.lo (walk_on p next n w).to
on_along p next zero w lasts l falling a le =
    subst (λ (t : WalkTurn). ThenAlong l w.oid lasts w.lo t.to) (sym (on-zero p next w)) (λ h. absurd (no-step (next_visit w) (le h)))
on_along p next (suc n) w lasts l falling a le =
    elim (next_visit w) as (λ o. next_visit w ≡ o → ThenAlong l w.oid lasts w.lo (walk_on p next (suc n) w).to) [
      | None ↦ λ e. subst (λ (t : WalkTurn). ThenAlong l w.oid lasts w.lo t.to) (sym (on-none p next n w e)) (λ h. record { trail = w.trail; along = a h; over = e })
      | Some q ↦ λ e.
          elim (cell_at w.cells q) as (λ o. cell_at w.cells q ≡ o → ThenAlong l w.oid lasts w.lo (walk_on p next (suc n) w).to) [
            | None ↦ λ f. subst (λ (t : WalkTurn). ThenAlong l w.oid lasts w.lo t.to) (sym (on-unknown p next n w q e f)) (reads_along p next w q lasts l a)
            | Some c ↦ λ f.
                subst (λ (t : WalkTurn). ThenAlong l w.oid lasts w.lo t.to) (sym (on-known p next n w q c e f))
                (on_along p next n (visited w q c) lasts l falling
                (λ h. visit_along l w.oid lasts w.lo w.trail w.members q c falling (h q c f) (visit-from w q e).1 (visit-from w q e).0 (a h))
                (λ h. fuel_on w q n c (a h).falls e (le h)))
          ] refl
    ] refl

walks_along : (p : Layout) (next : ℕ) (w : Walk) (lasts : List ℕ) (l : Log) → FallsIn l w.oid → Alongs l lasts w → ThenAlong l w.oid lasts w.lo (walk_from p next w).to
walks_along p next w lasts l falling a = on_along p next (steps_left (next_visit w)) w lasts l falling a (λ h. omega arith)

-- ---- a message comes

-- the log has the cells that were known before another one came
held_before : (l : Log) (cells : List (ℕ × Cell)) (q : ℕ) (c : Cell) → cell_at cells q ≡ None → Holds l (with_cell cells q c) → Holds l cells
held_before l cells q c none h = λ r d f.
    let apart : r ≢ q = λ same. absurd (some-none d (sym f ∙ ap (cell_at cells) same ∙ none)) in
    h r d (others cells q r c apart ∙ f)

over_at : (q b : ℕ) (x : Option ℕ) → x ≡ Some q → q < b → IsOver (Some b) x
over_at q b x e lt = subst (IsOver (Some b)) (sym e) lt

stays : (w : Walk) (j : CellJob) (lasts : List ℕ) (l : Log) → Alongs l lasts w → Holds l w.cells → GoesAlong l w.oid lasts w.lo (with_job w j)
stays w j lasts l a h = record { same_oid = refl; same_lo = refl; along = a h }

end_along : (p : Layout) (w : Walk) (j : CellJob) (u : ℕ) (x : Reply) (e : CellEnd) (next bound : ℕ) (lasts : List ℕ) (l : Log) → Reads bound w j → FallsIn l w.oid → Alongs l lasts w → CellEndsBy j u x e →
    ThenAlong l w.oid lasts w.lo (walk_end p (with_job w j) j.place.pos e next).to
end_along p w j u x (Done c) next bound lasts l r falling a by =
    let q = j.place.pos in
    walks_along p next (read_at (with_job w j) q c) lasts l falling
    (λ h. visit_along l w.oid lasts w.lo w.trail w.members q c falling (h q c (found w.cells q c)) (visit-from w q r.next).1 r.from (a (held_before l w.cells q c r.unknown h)))
end_along p w j u x Seen next bound lasts l r falling a by = stays w j lasts l a
end_along p w j u x (Lost c) next bound lasts l r falling a by = stays w j lasts l a
end_along p w j u x (Fenced v f) next bound lasts l r falling a by = stays w j lasts l a
end_along p w j u x (Gone b) next bound lasts l r falling a by = λ h. record { trail = w.trail; along = a h; over = over_at j.place.pos b (next_visit w) r.next by.1 }

turn_along : (p : Layout) (w : Walk) (j : CellJob) (from : NodeId) (rid : ℕ) (m : Msg) (next bound : ℕ) (lasts : List ℕ) (l : Log) (x : Next CellJob CellEnd) →
    Reads bound w j → FallsIn l w.oid → Alongs l lasts w → (fed j from rid m next).to ≡ x →
    ThenAlong l w.oid lasts w.lo (walk_next p (with_job w j) j.place.pos x (fed j from rid m next).next).to
turn_along p w j from rid m next bound lasts l (Goes k) r falling a e = stays w k lasts l a
turn_along p w j from rid m next bound lasts l (Learns k) r falling a e = stays w j lasts l a
turn_along p w j from rid m next bound lasts l (Ends y) r falling a e =
    end_along p w j from.num (reply m) y (fed j from rid m next).next bound lasts l r falling a (cell_ends_by_answers j from rid m next y e).1

job_along : (p : Layout) (w : Walk) (j : CellJob) (from : NodeId) (rid : ℕ) (m : Msg) (next bound : ℕ) (lasts : List ℕ) (l : Log) → Reads bound w j → FallsIn l w.oid → Alongs l lasts w →
    ThenAlong l w.oid lasts w.lo (walk_fed p (with_job w j) from rid m next).to
job_along p w j from rid m next bound lasts l r falling a =
    subst (λ (t : WalkTurn). ThenAlong l w.oid lasts w.lo t.to) (sym (job_fed p (course_of w) j from rid m next))
    (turn_along p w j from rid m next bound lasts l (fed j from rid m next).to r falling a refl)

fed_along : (p : Layout) (w : Walk) (from : NodeId) (rid : ℕ) (m : Msg) (next bound : ℕ) (lasts : List ℕ) (l : Log) (o : Option CellJob) → w.job ≡ o → ReadsBy bound w o → FallsIn l w.oid → Alongs l lasts w →
    ThenAlong l w.oid lasts w.lo (walk_fed p w from rid m next).to
fed_along p w from rid m next bound lasts l None e r falling a = absurd (cc)
fed_along p w from rid m next bound lasts l (Some j) e r falling a =
    subst (λ (v : Walk). ThenAlong l w.oid lasts w.lo (walk_fed p v from rid m next).to) (same_walk w j e) (job_along p w j from rid m next bound lasts l r falling a)

path-is : (l : Log) (o : Oid) (lasts : List ℕ) → path l o lasts ≡ [] ++ path_on l o (first_on lasts + 2) (trail lasts 0)
unfolding path
path-is l o lasts = refl

first-enough : (lasts : List ℕ) (q : ℕ) → next_of_trail (trail lasts 0) ≡ Some q → q + 2 ≤ first_on lasts + 2
first-enough [] q e = absurd (cc)
first-enough (x ∷ xs) q e = let same : x ≡ q = same-some x q e in omega (arith, same)

started : (p : Layout) (o : Oid) (lasts : List ℕ) (lo : ℕ) (cells : List (ℕ × Cell)) (next : ℕ) (l : Log) → FallsIn l o → is_falling lasts ≡ true →
    ThenAlong l o lasts lo (walk_start p o lasts lo cells next).to
unfolding walk_start
started p o lasts lo cells next l falling falls =
    walks_along p next (walk_of (begun o lasts lo cells) None) lasts l falling (λ h. record { visits = []; steps = first_on lasts + 2; front = path-is l o lasts; enough = first-enough lasts; from = refl; members = refl; falls = falls })

cell-head : (l : Log) (o : Oid) (n : ℕ) (t : Trail) (q : ℕ) (x : Option Cell) → Contains (path_cell l o n t q x) q
unfolding path_cell
cell-head l o n t q None = (0, omega arith, refl)
cell-head l o n t q (Some c) = (0, omega arith, refl)

path-head : (l : Log) (o : Oid) (n : ℕ) (t : Trail) (q : ℕ) → next_of_trail t ≡ Some q → Contains (path_on l o (suc n) t) q
unfolding path_on path_visit path_cell
path-head l o n t q e = subst (λ (ps : List ℕ). Contains ps q) (sym (ap (path_visit l o n t) e)) (cell-head l o n t q (cell_at l q))

reads_path : (w : Walk) (j : CellJob) (bound : ℕ) (lasts : List ℕ) (l : Log) → Reads bound w j → IsAlong l lasts w → Contains (path l w.oid lasts) j.place.pos
reads_path w j bound lasts l r a =
    let q = j.place.pos in
    let next = (visit-from w q r.next).1 in
    let more : q + 2 ≤ a.steps = a.enough q next in
    let one : suc (a.steps - 1) ≡ a.steps = omega (arith, more) in
    let head : Contains (path_on l w.oid a.steps w.trail) q = subst (λ k. Contains (path_on l w.oid k w.trail) q) one (path-head l w.oid (a.steps - 1) w.trail q next) in
    subst (λ (ps : List ℕ). Contains ps q) (sym a.front) (Contains-append_right a.visits (path_on l w.oid a.steps w.trail) q head)

pub follows_path : FollowsPath
follows_path = record {
  starts = started;
  feeds = λ p w from rid m next bound lasts l r falling a. fed_along p w from rid m next bound lasts l w.job refl r falling a;
  resumes = λ p w next lasts l falling a. walks_along p next w lasts l falling a;
  reads = reads_path;
}
