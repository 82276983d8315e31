-- Which cells a walk leaves as they were.
use Rattle.std.proofs.Common.{◌≡◌, ℕ, zero, suc, ◌≤◌, List, Option, Some, None, refl, sym, subst, ◌∙◌, arith}
use Rattle.tg_base.specs.Layouts.{Layout}
use Rattle.tg_base.specs.declared.cell.Cell.{Cell}
use Rattle.tg_base.specs.declared.ids.Oid.{Oid}
use Rattle.tg_protocol.specs.Words.{cell_at}
use Rattle.tg_protocol.specs.Requests.{Next, Goes, Learns, Ends}
use Rattle.tg_protocol.specs.Replies.{Reply}
use Rattle.tg_protocol.specs.Cells.{CellJob, CellEnd, Done, Seen, Lost, Fenced, Gone, Place, CellWork, works, place_in, get_cell, fill_cell, cell_feed, work_feed}
use Rattle.tg_protocol.specs.Walking.{Walk, WalkTurn, next_visit, walk_on, walk_from, steps_left, walk_start, walk_feed, visited, read_at, reads_turn, walk_end, walk_next}
use Rattle.tg_stream.specs.Walks.{begun, walk_of}
use Rattle.tg_stream.proofs.Visits.{on-zero, on-none, on-known, on-unknown, start-is}
use Rattle.tg_stream.proofs.Trails.{visit-from}
use Rattle.tg_client_cells.specs.Walks.{SameBelow, ReadsFrom, Leaves, ThenLeaves, LeavesBelow}
use Rattle.tg_client_cells.proofs.Cells.{below_put}

-- ---- over known cells

reads-from : (p : Layout) (next : ℕ) (w : Walk) (q lo : ℕ) (cells : List (ℕ × Cell)) → w.lo ≡ lo → SameBelow lo cells w.cells → next_visit w ≡ Some q →
    ThenLeaves lo cells (reads_turn w (get_cell (place_in p q) next)).to
unfolding get_cell
reads-from p next w q lo cells same h e = record {
  lo = same;
  job = subst (λ n. n ≤ q) same (visit-from w q e).0;
  cells = h;
}

on-leaves : (p : Layout) (next n : ℕ) (w : Walk) (lo : ℕ) (cells : List (ℕ × Cell)) → w.lo ≡ lo → SameBelow lo cells w.cells → ThenLeaves lo cells (walk_on p next n w).to
on-leaves p next zero w lo cells same h = subst (λ (t : WalkTurn). ThenLeaves lo cells t.to) (sym (on-zero p next w)) h
on-leaves p next (suc n) w lo cells same h =
    elim (next_visit w) as (λ o. next_visit w ≡ o → ThenLeaves lo cells (walk_on p next (suc n) w).to) [
      | None ↦ λ e. subst (λ (t : WalkTurn). ThenLeaves lo cells t.to) (sym (on-none p next n w e)) h
      | Some q ↦ λ e.
          elim (cell_at w.cells q) as (λ o. cell_at w.cells q ≡ o → ThenLeaves lo cells (walk_on p next (suc n) w).to) [
            | None ↦ λ f. subst (λ (t : WalkTurn). ThenLeaves lo cells t.to) (sym (on-unknown p next n w q e f)) (reads-from p next w q lo cells same h e)
            | Some c ↦ λ f. subst (λ (t : WalkTurn). ThenLeaves lo cells t.to) (sym (on-known p next n w q c e f)) (on-leaves p next n (visited w q c) lo cells same h)
          ] refl
    ] refl

walks-leave : (p : Layout) (next : ℕ) (w : Walk) (lo : ℕ) (cells : List (ℕ × Cell)) → w.lo ≡ lo → SameBelow lo cells w.cells → ThenLeaves lo cells (walk_from p next w).to
walks-leave p next w lo cells same h = on-leaves p next (steps_left (next_visit w)) w lo cells same h

-- ---- an answer

pub work_place : (a : Place) (w : CellWork) (u : ℕ) (x : Reply) (n : ℕ) (k : CellJob) → (cell_feed (works a w) u x n).to ≡ Goes k → k.place ≡ a
unfolding cell_feed work_feed fill_cell
work_place a w u x n k h = grind arith

same-job : (w : Walk) (lo : ℕ) (j k : CellJob) → ReadsFrom lo (Some j) → k.place ≡ j.place → ReadsFrom lo (Some k)
same-job w lo j k h same = subst (λ (a : Place). lo ≤ a.pos) (sym same) h

end-leaves : (p : Layout) (w : Walk) (q : ℕ) (e : CellEnd) (next lo : ℕ) (cells : List (ℕ × Cell)) → Leaves lo cells w → lo ≤ q → ThenLeaves lo cells (walk_end p w q e next).to
end-leaves p w q (Done c) next lo cells h le = walks-leave p next (read_at w q c) lo cells h.lo (below_put lo w.cells q c le ∙ h.cells)
end-leaves p w q Seen next lo cells h le = h
end-leaves p w q (Lost c) next lo cells h le = h
end-leaves p w q (Fenced u e) next lo cells h le = h
end-leaves p w q (Gone b) next lo cells h le = h.cells

next-leaves : (p : Layout) (w : Walk) (j : CellJob) (x : Next CellJob CellEnd) (next lo : ℕ) (cells : List (ℕ × Cell)) → Leaves lo cells w → lo ≤ j.place.pos → ((k : CellJob) → x ≡ Goes k → k.place ≡ j.place) →
    ThenLeaves lo cells (walk_next p w j.place.pos x next).to
next-leaves p w j (Goes k) next lo cells h le stays = record { lo = h.lo; job = same-job w lo j k le (stays k refl); cells = h.cells }
next-leaves p w j (Learns k) next lo cells h le stays = h
next-leaves p w j (Ends e) next lo cells h le stays = end-leaves p w j.place.pos e next lo cells h le

feed-leaves : (p : Layout) (w : Walk) (o : Option CellJob) (u : ℕ) (x : Reply) (next lo : ℕ) (cells : List (ℕ × Cell)) → Leaves lo cells w → ReadsFrom lo o → ThenLeaves lo cells (walk_feed p w o u x next).to
unfolding walk_feed
feed-leaves p w None u x next lo cells h r = h
feed-leaves p w (Some j) u x next lo cells h r = next-leaves p w j (cell_feed j u x next).to (cell_feed j u x next).next lo cells h r (λ k e. work_place j.place j.work u x next k e)

-- ---- all of it

pub starts-leave : (p : Layout) (o : Oid) (lasts : List ℕ) (lo : ℕ) (cells : List (ℕ × Cell)) (next : ℕ) → ThenLeaves lo cells (walk_start p o lasts lo cells next).to
starts-leave p o lasts lo cells next = subst (λ (t : WalkTurn). ThenLeaves lo cells t.to) (sym (start-is p o lasts lo cells next)) (walks-leave p next (walk_of (begun o lasts lo cells) None) lo cells refl refl)

pub leaves_below : LeavesBelow
leaves_below = record {
  starts = starts-leave;
  feeds = λ p w u x next lo cells h. feed-leaves p w w.job u x next lo cells h h.job;
  resumes = λ p w next lo cells h. walks-leave p next w lo cells h.lo h.cells;
}
