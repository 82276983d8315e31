-- The members that a walk finds rise.
use Rattle.std.proofs.Common.{◌≡◌, ℕ, zero, suc, List, [], ◌∷◌, Option, Some, None, refl, sym, ap, subst, ◌∙◌}
use Rattle.tg_base.specs.Layouts.{Layout}
use Rattle.tg_base.specs.declared.cell.Cell.{Cell}
use Rattle.tg_base.specs.declared.ids.Oid.{Oid}
use Rattle.tg_protocol.specs.Words.{cell_at, with_num}
use Rattle.tg_protocol.specs.Requests.{Next, Goes, Learns, Ends}
use Rattle.tg_protocol.specs.Replies.{Reply}
use Rattle.tg_protocol.specs.Cells.{CellJob, CellEnd, Done, Seen, Lost, Fenced, Gone, Place, place_in, get_cell, cell_feed}
use Rattle.tg_protocol.specs.Walking.{Trail, Walk, WalkTurn, pointers_at, trail_after, member_after, next_visit, walk_on, walk_from, steps_left, walk_start, walk_feed, visited, read_at, reads_turn, walk_end, walk_next}
use Rattle.tg_stream.specs.Walks.{begun, walk_of}
use Rattle.tg_stream.proofs.Visits.{on-zero, on-none, on-known, on-unknown, start-is}
use Rattle.tg_stream.proofs.Trails.{passed-below, below-own, visit-below}
use Rattle.tg_client_cells.specs.Walks.{InOrder, BelowFirst, LeadsBelow, ReadsBelow, FindsDown, ThenInOrder, FindsInOrder}
use Rattle.tg_client_cells.proofs.Unions.{put_before}
use Rattle.tg_client_cells.proofs.Leaving.{work_place}

-- ---- one visit

in-order : (q : ℕ) (ms : List ℕ) → InOrder ms → BelowFirst ms q → InOrder (q ∷ ms)
in-order q [] h b = refl
in-order q (m ∷ ms) h b = ap (with_num q) h ∙ put_before q m ms b

first-below : (ms : List ℕ) (w : Walk) (q : ℕ) → LeadsBelow ms w.trail → next_visit w ≡ Some q → BelowFirst ms q
first-below [] w q h e = tt
first-below (m ∷ ms) w q h e = visit-below m w q h e

passed : (ms : List ℕ) (t : Trail) (q : ℕ) → LeadsBelow ms t → BelowFirst ms q → LeadsBelow ms (trail_after t q None)
passed [] t q h b = tt
passed (m ∷ ms) t q h b = passed-below m q t h b

seen-order : (ms : List ℕ) (q : ℕ) (x : Option (List ℕ)) → InOrder ms → BelowFirst ms q → InOrder (member_after ms q x)
seen-order ms q None h b = h
seen-order ms q (Some ps) h b = in-order q ms h b

seen-leads : (ms : List ℕ) (t : Trail) (q : ℕ) (o : Oid) (c : Cell) (x : Option (List ℕ)) → pointers_at o q c ≡ x → LeadsBelow ms t → BelowFirst ms q → LeadsBelow (member_after ms q x) (trail_after t q x)
seen-leads ms t q o c None e h b = passed ms t q h b
seen-leads ms t q o c (Some ps) e h b = below-own q ps o c e

-- ---- over known cells

reads-down : (p : Layout) (next : ℕ) (w : Walk) (q : ℕ) → InOrder w.members → LeadsBelow w.members w.trail → BelowFirst w.members q → ThenInOrder (reads_turn w (get_cell (place_in p q) next)).to
unfolding get_cell
reads-down p next w q o h b = record { members = o; trail = h; job = b }

on-down : (p : Layout) (next n : ℕ) (w : Walk) → InOrder w.members → LeadsBelow w.members w.trail → ThenInOrder (walk_on p next n w).to
on-down p next zero w o h = subst (λ (t : WalkTurn). ThenInOrder t.to) (sym (on-zero p next w)) o
on-down p next (suc n) w o h =
    elim (next_visit w) as (λ x. next_visit w ≡ x → ThenInOrder (walk_on p next (suc n) w).to) [
      | None ↦ λ e. subst (λ (t : WalkTurn). ThenInOrder t.to) (sym (on-none p next n w e)) o
      | Some q ↦ λ e.
          elim (cell_at w.cells q) as (λ x. cell_at w.cells q ≡ x → ThenInOrder (walk_on p next (suc n) w).to) [
            | None ↦ λ f. subst (λ (t : WalkTurn). ThenInOrder t.to) (sym (on-unknown p next n w q e f)) (reads-down p next w q o h (first-below w.members w q h e))
            | Some c ↦ λ f.
                subst (λ (t : WalkTurn). ThenInOrder t.to) (sym (on-known p next n w q c e f))
                (on-down p next n (visited w q c) (seen-order w.members q (pointers_at w.oid q c) o (first-below w.members w q h e))
                (seen-leads w.members w.trail q w.oid c (pointers_at w.oid q c) refl h (first-below w.members w q h e)))
          ] refl
    ] refl

walks-down : (p : Layout) (next : ℕ) (w : Walk) → InOrder w.members → LeadsBelow w.members w.trail → ThenInOrder (walk_from p next w).to
walks-down p next w o h = on-down p next (steps_left (next_visit w)) w o h

-- ---- an answer

end-down : (p : Layout) (w : Walk) (q : ℕ) (e : CellEnd) (next : ℕ) → FindsDown w → BelowFirst w.members q → ThenInOrder (walk_end p w q e next).to
end-down p w q (Done c) next h b =
    walks-down p next (read_at w q c) (seen-order w.members q (pointers_at w.oid q c) h.members b) (seen-leads w.members w.trail q w.oid c (pointers_at w.oid q c) refl h.trail b)
end-down p w q Seen next h b = h
end-down p w q (Lost c) next h b = h
end-down p w q (Fenced u e) next h b = h
end-down p w q (Gone g) next h b = h.members

next-down : (p : Layout) (w : Walk) (j : CellJob) (x : Next CellJob CellEnd) (next : ℕ) → FindsDown w → BelowFirst w.members j.place.pos → ((k : CellJob) → x ≡ Goes k → k.place ≡ j.place) →
    ThenInOrder (walk_next p w j.place.pos x next).to
next-down p w j (Goes k) next h b stays = record {
  members = h.members;
  trail = h.trail;
  job = subst (λ (a : Place). BelowFirst w.members a.pos) (sym (stays k refl)) b;
}
next-down p w j (Learns k) next h b stays = h
next-down p w j (Ends e) next h b stays = end-down p w j.place.pos e next h b

feed-down : (p : Layout) (w : Walk) (x : Option CellJob) (u : ℕ) (r : Reply) (next : ℕ) → FindsDown w → ReadsBelow w.members x → ThenInOrder (walk_feed p w x u r next).to
unfolding walk_feed
feed-down p w None u r next h b = h
feed-down p w (Some j) u r next h b = next-down p w j (cell_feed j u r next).to (cell_feed j u r next).next h b (λ k e. work_place j.place j.work u r next k e)

starts-down : (p : Layout) (o : Oid) (lasts : List ℕ) (lo : ℕ) (cells : List (ℕ × Cell)) (next : ℕ) → ThenInOrder (walk_start p o lasts lo cells next).to
starts-down p o lasts lo cells next = subst (λ (t : WalkTurn). ThenInOrder t.to) (sym (start-is p o lasts lo cells next)) (walks-down p next (walk_of (begun o lasts lo cells) None) refl tt)

pub finds_in_order : FindsInOrder
finds_in_order = record {
  starts = starts-down;
  feeds = λ p w u x next h. feed-down p w w.job u x next h h.job;
  resumes = λ p w next h. walks-down p next w h.members h.trail;
}
