-- Which positions a walk reads.
use Rattle.std.proofs.Common.{◌≡◌, ℕ, zero, suc, ◌≤◌, ◌<◌, true, List, Option, Some, None, refl, sym, ap, subst, arith}
use Rattle.tg_base.specs.Layouts.{Layout}
use Rattle.tg_base.specs.declared.cell.Cell.{Cell}
use Rattle.tg_base.specs.declared.ids.NodeId.{NodeId}
use Rattle.tg_base.specs.declared.ids.Oid.{Oid}
use Rattle.tg_base.specs.declared.msg.Msg.{Msg}
use Rattle.tg_protocol.specs.Words.{cell_at}
use Rattle.tg_protocol.specs.Requests.{Next, Goes, Learns, Ends}
use Rattle.tg_protocol.specs.Cells.{CellJob, CellEnd, Done, Seen, Lost, Fenced, Gone, place_in, get_cell}
use Rattle.tg_protocol.specs.Walking.{trail, Walk, WalkTurn, next_visit, walk_on, walk_from, steps_left, walk_start, visited, read_at, with_job, reads_turn, walk_end, walk_next}
use Rattle.tg_chain.specs.Turns.{fed}
use Rattle.tg_stream.specs.Walks.{begun, course_of, walk_of, walk_fed}
use Rattle.tg_stream.specs.Laws.{IsBelow, Reads, ReadsBy, ThenReads, AsksUnknown, all_below, reads_cell}
use Rattle.tg_stream.proofs.Visits.{on-zero, on-none, on-known, on-unknown}
use Rattle.tg_stream.proofs.Trails.{after-below, visit-from, visit-below}
use Rattle.tg_stream.proofs.CellSteps.{fed_place, fed_reads}
use Rattle.tg_stream.proofs.Subs.{job_fed}

reads_first : (p : Layout) (next : ℕ) (w : Walk) (q bound : ℕ) → IsBelow bound w.trail → next_visit w ≡ Some q → cell_at w.cells q ≡ None →
    ThenReads bound (reads_turn w (get_cell (place_in p q) next)).to
unfolding get_cell
reads_first p next w q bound h e f = record {
  next = e;
  from = (visit-from w q e).0;
  below = visit-below bound w q h e;
  unknown = f;
  trail = h;
  work = refl;
}

pub on_reads : (p : Layout) (next n : ℕ) (w : Walk) (bound : ℕ) → IsBelow bound w.trail → ThenReads bound (walk_on p next n w).to
on_reads p next zero w bound h = subst (λ (t : WalkTurn). ThenReads bound t.to) (sym (on-zero p next w)) tt
on_reads p next (suc n) w bound h =
    elim (next_visit w) as (λ o. next_visit w ≡ o → ThenReads bound (walk_on p next (suc n) w).to) [
      | None ↦ λ e. subst (λ (t : WalkTurn). ThenReads bound t.to) (sym (on-none p next n w e)) tt
      | Some q ↦ λ e.
          elim (cell_at w.cells q) as (λ o. cell_at w.cells q ≡ o → ThenReads bound (walk_on p next (suc n) w).to) [
            | None ↦ λ f. subst (λ (t : WalkTurn). ThenReads bound t.to) (sym (on-unknown p next n w q e f)) (reads_first p next w q bound h e f)
            | Some c ↦ λ f.
                subst (λ (t : WalkTurn). ThenReads bound t.to) (sym (on-known p next n w q c e f))
                (on_reads p next n (visited w q c) bound (after-below bound q w.trail w.oid c h (visit-below bound w q h e)))
          ] refl
    ] refl

walks_read : (p : Layout) (next : ℕ) (w : Walk) (bound : ℕ) → IsBelow bound w.trail → ThenReads bound (walk_from p next w).to
walks_read p next w bound h = on_reads p next (steps_left (next_visit w)) w bound h

-- a read that goes on
read_on : (w : Walk) (j k : CellJob) (bound : ℕ) → Reads bound w j → k.place ≡ j.place → reads_cell k.work ≡ true → Reads bound (with_job w k) k
read_on w j k bound r same work =
    let pos : j.place.pos ≡ k.place.pos = ap (λ a. a.pos) (sym same) in
    record {
      next = subst (λ q. next_visit w ≡ Some q) pos r.next;
      from = subst (λ q. w.lo ≤ q) pos r.from;
      below = subst (λ q. q < bound) pos r.below;
      unknown = subst (λ q. cell_at w.cells q ≡ None) pos r.unknown;
      trail = r.trail;
      work = work;
    }

-- one that stays
stays : (w : Walk) (j : CellJob) (bound : ℕ) → Reads bound w j → Reads bound (with_job w j) j
stays w j bound r = read_on w j j bound r refl r.work

end_reads : (p : Layout) (w : Walk) (j : CellJob) (e : CellEnd) (next bound : ℕ) → Reads bound w j → ThenReads bound (walk_end p (with_job w j) j.place.pos e next).to
end_reads p w j (Done c) next bound r = walks_read p next (read_at (with_job w j) j.place.pos c) bound (after-below bound j.place.pos w.trail w.oid c r.trail r.below)
end_reads p w j Seen next bound r = stays w j bound r
end_reads p w j (Lost c) next bound r = stays w j bound r
end_reads p w j (Fenced u e) next bound r = stays w j bound r
end_reads p w j (Gone b) next bound r = tt

turn_reads : (p : Layout) (w : Walk) (j : CellJob) (from : NodeId) (rid : ℕ) (m : Msg) (next bound : ℕ) (x : Next CellJob CellEnd) → Reads bound w j →
    (fed j from rid m next).to ≡ x → ThenReads bound (walk_next p (with_job w j) j.place.pos x (fed j from rid m next).next).to
turn_reads p w j from rid m next bound (Goes k) r e = read_on w j k bound r (fed_place j from rid m next k e) (fed_reads j from rid m next k r.work e)
turn_reads p w j from rid m next bound (Learns k) r e = stays w j bound r
turn_reads p w j from rid m next bound (Ends x) r e = end_reads p w j x (fed j from rid m next).next bound r

job_reads : (p : Layout) (w : Walk) (j : CellJob) (from : NodeId) (rid : ℕ) (m : Msg) (next bound : ℕ) → Reads bound w j → ThenReads bound (walk_fed p (with_job w j) from rid m next).to
job_reads p w j from rid m next bound r =
    subst (λ (t : WalkTurn). ThenReads bound t.to) (sym (job_fed p (course_of w) j from rid m next)) (turn_reads p w j from rid m next bound (fed j from rid m next).to r refl)

-- a walk has the job that it has
pub same_walk : (w : Walk) (j : CellJob) → w.job ≡ Some j → with_job w j ≡ w
same_walk w j e = ap (λ o. record w { job = o }) (sym e)

fed_reads_all : (p : Layout) (w : Walk) (from : NodeId) (rid : ℕ) (m : Msg) (next bound : ℕ) (o : Option CellJob) → w.job ≡ o → ReadsBy bound w o → ThenReads bound (walk_fed p w from rid m next).to
fed_reads_all p w from rid m next bound None e r = absurd (cc)
fed_reads_all p w from rid m next bound (Some j) e r =
    subst (λ (v : Walk). ThenReads bound (walk_fed p v from rid m next).to) (same_walk w j e) (job_reads p w j from rid m next bound r)

pub trail_by : (w : Walk) (bound : ℕ) (o : Option CellJob) → ReadsBy bound w o → IsBelow bound w.trail
trail_by w bound None r = absurd (cc)
trail_by w bound (Some j) r = r.trail

pub from_start : (bound : ℕ) (lasts : List ℕ) → all_below bound lasts ≡ true → IsBelow bound (trail lasts 0)
from_start bound lasts h = record { pointers = h; last = omega arith }

started : (p : Layout) (o : Oid) (lasts : List ℕ) (lo : ℕ) (cells : List (ℕ × Cell)) (next bound : ℕ) → all_below bound lasts ≡ true → ThenReads bound (walk_start p o lasts lo cells next).to
unfolding walk_start
started p o lasts lo cells next bound h = walks_read p next (walk_of (begun o lasts lo cells) None) bound (from_start bound lasts h)

pub asks_unknown : AsksUnknown
asks_unknown = record {
  starts = started;
  feeds = λ p w from rid m next bound r. fed_reads_all p w from rid m next bound w.job refl r;
  resumes = λ p w next bound r. walks_read p next w bound (trail_by w bound w.job r);
}
