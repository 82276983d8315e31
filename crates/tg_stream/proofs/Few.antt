-- How many requests a walk still sends.
use Rattle.std.proofs.Common.{◌≡◌, ℕ, zero, suc, ◌+◌, ◌-◌, ◌≤◌, ◌<◌, true, List, [], ◌∷◌, length, Option, Some, None, refl, sym, ap, subst, arith}
use Rattle.tg_base.specs.Layouts.{Layout}
use Rattle.tg_base.specs.declared.cell.Cell.{Cell}
use Rattle.tg_base.specs.declared.ids.NodeId.{NodeId}
use Rattle.tg_base.specs.declared.ids.Oid.{Oid}
use Rattle.tg_base.specs.declared.msg.Msg.{Msg}
use Rattle.tg_base.specs.declared.packet.Packet.{Packet}
use Rattle.tg_protocol.specs.Words.{cell_at, with_cell}
use Rattle.tg_protocol.specs.Layouts.{chain_of}
use Rattle.tg_protocol.specs.Requests.{Next, Goes, Learns, Ends}
use Rattle.tg_protocol.specs.Cells.{CellJob, CellEnd, Done, Seen, Lost, Fenced, Gone, place_in, get_cell}
use Rattle.tg_protocol.specs.Walking.{Walk, Members, WalkTurn, next_visit, walk_on, walk_from, steps_left, walk_start, visited, read_at, with_job, reads_turn, walk_end, walk_next}
use Rattle.tg_chain.specs.Laws.{left, left_then as cell_left}
use Rattle.tg_chain.specs.Turns.{fed}
use Rattle.tg_chain.proofs.Steps.{steps_are_few as cell_steps_are_few}
use Rattle.tg_stream.specs.Walks.{begun, course_of, walk_of, walk_fed}
use Rattle.tg_stream.specs.Laws.{IsBelow, Reads, ReadsBy, ThenReads, all_below, reads_cost, left_by, left_then, HasChains, StartsAreFew, StepsAreFew, RequestsAreFew, fed_next, fed_all}
use Rattle.tg_stream.proofs.Visits.{on-zero, on-none, on-known, on-unknown}
use Rattle.tg_stream.proofs.Trails.{after-below, visit-from, visit-below}
use Rattle.tg_stream.proofs.CellSteps.{fed_over}
use Rattle.tg_stream.proofs.Costs.{cost_one, cost_least}
use Rattle.tg_stream.proofs.Subs.{job_fed}
use Rattle.tg_stream.proofs.Reading.{same_walk, trail_by, from_start, asks_unknown}

-- a turn within so many requests
abbrev Within : ℕ → ℕ → ℕ → WalkTurn → Type 0
Within most bound n t = t.next + left_then most bound t.to ≤ n

read_within : (most bound next len cost : ℕ) → 1 ≤ most → len ≤ most → most + 1 ≤ cost → next + 1 + (1 + (len - 1) + (cost - (most + 1))) ≤ next + cost
read_within most bound next len cost some le least = omega (arith, some, le, least)

reads_few : (p : Layout) (next : ℕ) (w : Walk) (q bound most : ℕ) → HasChains p most → IsBelow bound w.trail → next_visit w ≡ Some q → cell_at w.cells q ≡ None →
    Within most bound (next + reads_cost most bound w.cells w.lo) (reads_turn w (get_cell (place_in p q) next))
unfolding get_cell
reads_few p next w q bound most hc h e f =
    let from : w.lo ≤ q = (visit-from w q e).0 in
    let below : q < bound = visit-below bound w q h e in
    let least : most + 1 ≤ reads_cost most bound w.cells w.lo = cost_least (most + 1) w.cells q w.lo (bound - w.lo) f from (omega (arith, from, below)) in
    read_within most bound next (length (chain_of p q)) (reads_cost most bound w.cells w.lo) hc.some (hc.most_units q) least

on_few : (p : Layout) (next n : ℕ) (w : Walk) (bound most : ℕ) → HasChains p most → IsBelow bound w.trail →
    Within most bound (next + reads_cost most bound w.cells w.lo) (walk_on p next n w)
on_few p next zero w bound most hc h = subst (Within most bound (next + reads_cost most bound w.cells w.lo)) (sym (on-zero p next w)) (omega arith)
on_few p next (suc n) w bound most hc h =
    elim (next_visit w) as (λ o. next_visit w ≡ o → Within most bound (next + reads_cost most bound w.cells w.lo) (walk_on p next (suc n) w)) [
      | None ↦ λ e. subst (Within most bound (next + reads_cost most bound w.cells w.lo)) (sym (on-none p next n w e)) (omega arith)
      | Some q ↦ λ e.
          elim (cell_at w.cells q) as (λ o. cell_at w.cells q ≡ o → Within most bound (next + reads_cost most bound w.cells w.lo) (walk_on p next (suc n) w)) [
            | None ↦ λ f. subst (Within most bound (next + reads_cost most bound w.cells w.lo)) (sym (on-unknown p next n w q e f)) (reads_few p next w q bound most hc h e f)
            | Some c ↦ λ f.
                subst (Within most bound (next + reads_cost most bound w.cells w.lo)) (sym (on-known p next n w q c e f))
                (on_few p next n (visited w q c) bound most hc (after-below bound q w.trail w.oid c h (visit-below bound w q h e)))
          ] refl
    ] refl

walks_few : (p : Layout) (next : ℕ) (w : Walk) (bound most : ℕ) → HasChains p most → IsBelow bound w.trail →
    Within most bound (next + reads_cost most bound w.cells w.lo) (walk_from p next w)
walks_few p next w bound most hc h = on_few p next (steps_left (next_visit w)) w bound most hc h

-- a read that has ended with its cell
done_few : (p : Layout) (w : Walk) (j : CellJob) (c : Cell) (next bound most : ℕ) → HasChains p most → Reads bound w j →
    Within most bound (next + left_by most bound w (Some j)) (walk_from p next (read_at (with_job w j) j.place.pos c))
done_few p w j c next bound most hc r =
    let q = j.place.pos in
    let v = read_at (with_job w j) q c in
    let one : reads_cost most bound w.cells w.lo ≡ reads_cost most bound (with_cell w.cells q c) w.lo + (most + 1) = cost_one (most + 1) w.cells q c w.lo (bound - w.lo) r.unknown r.from (omega (arith, r.from, r.below)) in
    let few : (walk_from p next v).next + left_then most bound (walk_from p next v).to ≤ next + reads_cost most bound (with_cell w.cells q c) w.lo = walks_few p next v bound most hc (after-below bound q w.trail w.oid c r.trail r.below) in
    omega (arith, one, few)

end_few : (p : Layout) (w : Walk) (j : CellJob) (e : CellEnd) (next bound most : ℕ) → HasChains p most → Reads bound w j →
    Within most bound (next + left_by most bound w (Some j)) (walk_end p (with_job w j) j.place.pos e next)
end_few p w j (Done c) next bound most hc r = done_few p w j c next bound most hc r
end_few p w j Seen next bound most hc r = omega arith
end_few p w j (Lost c) next bound most hc r = omega arith
end_few p w j (Fenced u e) next bound most hc r = omega arith
end_few p w j (Gone b) next bound most hc r = omega arith

turn_few : (p : Layout) (w : Walk) (j : CellJob) (from : NodeId) (rid : ℕ) (m : Msg) (next bound most : ℕ) (x : Next CellJob CellEnd) → HasChains p most → Reads bound w j →
    (fed j from rid m next).to ≡ x → Within most bound (next + left_by most bound w (Some j)) (walk_next p (with_job w j) j.place.pos x (fed j from rid m next).next)
turn_few p w j from rid m next bound most (Goes k) hc r e =
    let few : (fed j from rid m next).next + cell_left (fed j from rid m next).to ≤ next + left j = cell_steps_are_few j from rid m next in
    let same : cell_left (fed j from rid m next).to ≡ left k = ap cell_left e in
    omega (arith, few, same)
turn_few p w j from rid m next bound most (Learns k) hc r e =
    let few : (fed j from rid m next).next + cell_left (fed j from rid m next).to ≤ next + left j = cell_steps_are_few j from rid m next in
    omega (arith, few)
turn_few p w j from rid m next bound most (Ends x) hc r e =
    subst (λ n. Within most bound (next + left_by most bound w (Some j)) (walk_end p (with_job w j) j.place.pos x n)) (sym (fed_over j from rid m next x e))
    (end_few p w j x next bound most hc r)

job_few : (p : Layout) (w : Walk) (j : CellJob) (from : NodeId) (rid : ℕ) (m : Msg) (next bound most : ℕ) → HasChains p most → Reads bound w j →
    Within most bound (next + left_by most bound w (Some j)) (walk_fed p (with_job w j) from rid m next)
job_few p w j from rid m next bound most hc r =
    subst (Within most bound (next + left_by most bound w (Some j))) (sym (job_fed p (course_of w) j from rid m next)) (turn_few p w j from rid m next bound most (fed j from rid m next).to hc r refl)

by_few : (p : Layout) (w : Walk) (from : NodeId) (rid : ℕ) (m : Msg) (next bound most : ℕ) (o : Option CellJob) → w.job ≡ o → HasChains p most → ReadsBy bound w o →
    Within most bound (next + left_by most bound w o) (walk_fed p w from rid m next)
by_few p w from rid m next bound most None e hc r = absurd (cc)
by_few p w from rid m next bound most (Some j) e hc r =
    subst (λ (v : Walk). Within most bound (next + left_by most bound w (Some j)) (walk_fed p v from rid m next)) (same_walk w j e) (job_few p w j from rid m next bound most hc r)

pub steps_are_few : StepsAreFew
steps_are_few p w from rid m next bound most hc r = by_few p w from rid m next bound most w.job refl hc r

started : (p : Layout) (o : Oid) (lasts : List ℕ) (lo : ℕ) (cells : List (ℕ × Cell)) (next bound most : ℕ) → HasChains p most → all_below bound lasts ≡ true →
    Within most bound (next + reads_cost most bound cells lo) (walk_start p o lasts lo cells next)
unfolding walk_start
started p o lasts lo cells next bound most hc h = walks_few p next (walk_of (begun o lasts lo cells) None) bound most hc (from_start bound lasts h)

pub starts_are_few : StartsAreFew
starts_are_few = record {
  starts = started;
  resumes = λ p w next bound most hc r. walks_few p next w bound most hc (trail_by w bound w.job r);
}

next_few : (p : Layout) (y : Next Walk Members) (x : Packet) (next bound most : ℕ) → HasChains p most → ThenReads bound y →
    Within most bound (next + left_then most bound y) (fed_next p y x next)
next_few p (Goes w) x next bound most hc r = steps_are_few p w x.from x.rid x.msg next bound most hc r
next_few p (Learns w) x next bound most hc r = omega arith
next_few p (Ends e) x next bound most hc r = omega arith

next_reads : (p : Layout) (y : Next Walk Members) (x : Packet) (next bound : ℕ) → ThenReads bound y → ThenReads bound (fed_next p y x next).to
next_reads p (Goes w) x next bound r = asks_unknown.feeds p w x.from x.rid x.msg next bound r
next_reads p (Learns w) x next bound r = r
next_reads p (Ends e) x next bound r = tt

all_few : (p : Layout) (y : Next Walk Members) (xs : List Packet) (next bound most : ℕ) → HasChains p most → ThenReads bound y →
    (fed_all p y xs next).next ≤ next + left_then most bound y
unfolding fed_all
all_few p y [] next bound most hc r = omega arith
all_few p y (x ∷ xs) next bound most hc r =
    let t = fed_next p y x next in
    let one : t.next + left_then most bound t.to ≤ next + left_then most bound y = next_few p y x next bound most hc r in
    let rest : (fed_all p t.to xs t.next).next ≤ t.next + left_then most bound t.to = all_few p t.to xs t.next bound most hc (next_reads p y x next bound r) in
    omega (arith, one, rest)

pub requests_are_few : RequestsAreFew
requests_are_few p w xs next bound most hc r = all_few p (Goes w) xs next bound most hc r
