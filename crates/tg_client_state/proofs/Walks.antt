-- The numbers of a walk.
use Rattle.std.proofs.Common.{◌≡◌, ℕ, zero, suc, ◌+◌, ◌≤◌, Bool, true, false, List, [], Option, Some, None, refl, sym, subst, arith}
use Rattle.tg_base.specs.Layouts.{Layout}
use Rattle.tg_base.specs.declared.cell.Cell.{Cell}
use Rattle.tg_base.specs.declared.ids.Oid.{Oid}
use Rattle.tg_base.specs.declared.msg.Msg.{Msg}
use Rattle.tg_protocol.specs.Words.{cell_at}
use Rattle.tg_protocol.specs.Requests.{Next, Goes, Learns, Ends, awaits, passes, ends}
use Rattle.tg_protocol.specs.Replies.{Reply, reply}
use Rattle.tg_protocol.specs.Cells.{CellJob, CellEnd, Done, Fenced, Gone, place_in, get_cell, cell_asks, cell_feed}
use Rattle.tg_protocol.specs.Walking.{trail, Walk, Members, WalkTurn, walk_asks, walk_members, visited, read_at, reads_turn, next_visit, steps_left, walk_on, walk_from, walk_start, walk_end, walk_next, walk_feed}
use Rattle.tg_stream.specs.Walks.{course_of, walk_of, walk_fed_if}
use Rattle.tg_stream.proofs.Visits.{on-none, on-known, on-unknown, on-zero}
use Rattle.tg_reconf.specs.Turns.{all_drawn}
use Rattle.tg_client_state.specs.Numbers.{ThenDrawn, ThenFresh, BeginsNumbers}
use Rattle.tg_client_state.specs.Laws.{WalkNumbers}
use Rattle.tg_client_state.proofs.Steps.{more_drawn, Plain, plain_fits, plain_begins, goes_plain, learns_plain, ends_plain, gone_plain, later_plain}
use Rattle.tg_client_state.proofs.Cells.{get_below, get_from, cell_plain}

-- From here on over known cells: what is read then is new.

pub record Begins (n : ℕ) (t : WalkTurn) : Type 0 where
  pub plain : Plain walk_asks n t
  pub fresh : ThenFresh walk_asks n t.to

over : (n : ℕ) (e : Members) → Begins n (ends n e)
over n e = record { plain = ends_plain walk_asks n n e (omega arith); fresh = tt }

reads : (p : Layout) (n q : ℕ) (w : Walk) → Begins n (reads_turn w (get_cell (place_in p q) n))
unfolding get_cell
reads p n q w = record { plain = goes_plain walk_asks n (n + 1) _ (omega arith) (get_below (place_in p q) n); fresh = get_from (place_in p q) n }

on_cell : (p : Layout) (n k : ℕ) (w : Walk) (q : ℕ) (o : Option Cell) → ((v : Walk) → Begins n (walk_on p n k v)) → next_visit w ≡ Some q → cell_at w.cells q ≡ o →
    Begins n (walk_on p n (suc k) w)
on_cell p n k w q None rest e f = subst (λ (t : WalkTurn). Begins n t) (sym (on-unknown p n k w q e f)) (reads p n q w)
on_cell p n k w q (Some c) rest e f = subst (λ (t : WalkTurn). Begins n t) (sym (on-known p n k w q c e f)) (rest (visited w q c))

on_visit : (p : Layout) (n k : ℕ) (w : Walk) (o : Option ℕ) → ((v : Walk) → Begins n (walk_on p n k v)) → next_visit w ≡ o → Begins n (walk_on p n (suc k) w)
on_visit p n k w None rest e = subst (λ (t : WalkTurn). Begins n t) (sym (on-none p n k w e)) (over n (walk_members w None))
on_visit p n k w (Some q) rest e = on_cell p n k w q (cell_at w.cells q) rest e refl

pub on_begins : (p : Layout) (n k : ℕ) (w : Walk) → Begins n (walk_on p n k w)
on_begins p n zero w = subst (λ (t : WalkTurn). Begins n t) (sym (on-zero p n w)) (over n (walk_members w None))
on_begins p n (suc k) w = on_visit p n k w (next_visit w) (λ v. on_begins p n k v) refl

walks_begin : (p : Layout) (n : ℕ) (w : Walk) → BeginsNumbers walk_asks n (walk_from p n w)
walks_begin p n w =
    let b = on_begins p n (steps_left (next_visit w)) w in
    plain_begins walk_asks n _ b.plain b.fresh

starts : (p : Layout) (o : Oid) (lasts : List ℕ) (lo : ℕ) (cells : List (ℕ × Cell)) (n : ℕ) → BeginsNumbers walk_asks n (walk_start p o lasts lo cells n)
unfolding walk_start
starts p o lasts lo cells n = walks_begin p n (record { oid = o; lo = lo; cells = cells; trail = trail lasts 0; members = []; job = None })

-- Steps.

abbrev IsDrawn : Walk → ℕ → Type 0
IsDrawn w n = all_drawn n (walk_asks w) ≡ true

stays : (w : Walk) (n k : ℕ) → n ≤ k → IsDrawn w n → Plain walk_asks n (passes {E = Members} k w)
stays w n k le h = goes_plain walk_asks n k w le (more_drawn _ n k le h)

waits : (w : Walk) (n k : ℕ) → n ≤ k → IsDrawn w n → Plain {E = Members} walk_asks n (record { next = k; besides = []; gone = 0; to = Learns w })
waits w n k le h = learns_plain walk_asks n k w le (more_drawn _ n k le h)

end_plain : (p : Layout) (w : Walk) (q : ℕ) (e : CellEnd) (n k : ℕ) → n ≤ k → IsDrawn w n → Plain walk_asks n (walk_end p w q e k)
end_plain p w q (Done c) n k le h = later_plain walk_asks n k _ le (on_begins p k (steps_left (next_visit (read_at w q c))) (read_at w q c)).plain
end_plain p w q (Gone b) n k le h = gone_plain walk_asks n b _ (ends_plain walk_asks n k _ le)
end_plain p w q (Fenced u e) n k le h = waits w n k le h
end_plain p w q _ n k le h = stays w n k le h

next_plain : (p : Layout) (w : Walk) (q : ℕ) (y : Next CellJob CellEnd) (n k : ℕ) → n ≤ k → ThenDrawn cell_asks k y → IsDrawn w n → Plain walk_asks n (walk_next p w q y k)
next_plain p w q (Goes j) n k le d h = goes_plain walk_asks n k _ le d
next_plain p w q (Learns j) n k le d h = waits w n k le h
next_plain p w q (Ends e) n k le d h = end_plain p w q e n k le h

feed_plain : (p : Layout) (w : Walk) (o : Option CellJob) (u : ℕ) (x : Reply) (n : ℕ) → IsDrawn (walk_of (course_of w) o) n → Plain walk_asks n (walk_feed p (walk_of (course_of w) o) o u x n)
unfolding walk_feed
feed_plain p w None u x n h = stays _ n n (omega arith) h
feed_plain p w (Some j) u x n h =
    let c = cell_plain j u x n h in
    next_plain p (walk_of (course_of w) (Some j)) j.place.pos (cell_feed j u x n).to n (cell_feed j u x n).next c.grows c.drawn h

pub if_plain : (b : Bool) (p : Layout) (w : Walk) (u : ℕ) (m : Msg) (n : ℕ) → IsDrawn w n → Plain walk_asks n (walk_fed_if b p w u m n)
if_plain true p w u m n h = feed_plain p w w.job u (reply m) n h
if_plain false p w u m n h = stays w n n (omega arith) h

pub walk_numbers : WalkNumbers
walk_numbers = record {
  start = starts;
  fed = λ p w from rid m n h. plain_fits walk_asks n _ (if_plain (awaits (walk_asks w) from rid) p w from.num m n h);
  again = λ p w n. walks_begin p n w;
}
