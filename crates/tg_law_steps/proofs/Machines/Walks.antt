-- What a turn of a walk comes to, and by which tests; and how a walk goes on over known cells.
use Rattle.std.proofs.Common.{◌≡◌, ℕ, zero, suc, refl, Option, Some, None}
use Rattle.tg_base.specs.Layouts.{Layout}
use Rattle.tg_base.specs.declared.cell.Cell.{Cell}
use Rattle.tg_protocol.specs.Words.{cell_at}
use Rattle.tg_protocol.specs.Requests.{Next, Goes, Learns, Ends, turn, passes, draws, ends, learns, met_gone}
use Rattle.tg_protocol.specs.Replies.{Reply}
use Rattle.tg_protocol.specs.Cells.{Gets, CellJob, CellEnd, Done, Seen, Lost, Fenced, Gone, place_in, works, get_cell, cell_feed}
use Rattle.tg_protocol.specs.Walking.{Walk, WalkTurn, visited, walk_members, with_job, reads_turn, next_visit, walk_on, walk_from, read_at, walk_next, walk_feed}

-- On over known cells, to the first that must be read, or to the end: what holds of the walk is kept by each visit.
module _ (p : Layout) (next : ℕ) (P : Walk → Type 0) (Good : WalkTurn → Type 0)
    (visits : (w : Walk) (q : ℕ) (c : Cell) → next_visit w ≡ Some q → cell_at w.cells q ≡ Some c → P w → P (visited w q c))
    (over : (w : Walk) → P w → Good (ends next (walk_members w None)))
    (reads : (w : Walk) (q : ℕ) → next_visit w ≡ Some q → cell_at w.cells q ≡ None → P w → Good (draws next (with_job w (works (place_in p q) (Gets next))))) where
  module _ (n : ℕ) (w : Walk) (h : P w) (on : (v : Walk) → P v → Good (walk_on p next n v)) where
    at_cell : (q : ℕ) (o : Option Cell) → next_visit w ≡ Some q → cell_at w.cells q ≡ o
        → Good (elim o as (λ _. WalkTurn) [ Some c ↦ walk_on p next n (visited w q c) | None ↦ reads_turn w (get_cell (place_in p q) next) ])
    unfolding get_cell
    at_cell q None is e = reads w q is e h
    at_cell q (Some c) is e = on (visited w q c) (visits w q c is e h)

    at_visit : (o : Option ℕ) → next_visit w ≡ o → Good (elim o as (λ _. WalkTurn) [
      | None ↦ ends next (walk_members w None)
      | Some q ↦ elim (cell_at w.cells q) as (λ _. WalkTurn) [ Some c ↦ walk_on p next n (visited w q c) | None ↦ reads_turn w (get_cell (place_in p q) next) ]
    ])
    at_visit None is = over w h
    at_visit (Some q) is = at_cell q (cell_at w.cells q) is refl

  pub goes_on : (n : ℕ) (w : Walk) → P w → Good (walk_on p next n w)
  unfolding walk_on
  goes_on zero w h = over w h
  goes_on (suc n) w h = at_visit n w h (λ v k. goes_on n v k) (next_visit w) refl

-- an awaited answer of this unit
module _ (p : Layout) (u : ℕ) (x : Reply) (next : ℕ) where
  pub data Fed : Walk → WalkTurn → Type 0 where
    -- nothing comes of it
    Nothing : (w : Walk) → Fed w (passes next w)
    -- the read goes on, or ends with the cell, or at a trim
    ReadGoes : (w : Walk) (j k : CellJob) → (cell_feed j u x next).to ≡ Goes k → Fed (with_job w j) (turn (cell_feed j u x next).next (Goes (with_job w k)))
    ReadDone : (w : Walk) (j : CellJob) (c : Cell) → (cell_feed j u x next).to ≡ Ends (Done c) → Fed (with_job w j) (walk_from p (cell_feed j u x next).next (read_at (with_job w j) j.place.pos c))
    ReadGone : (w : Walk) (j : CellJob) (b : ℕ) → (cell_feed j u x next).to ≡ Ends (Gone b) → Fed (with_job w j) (met_gone b (ends (cell_feed j u x next).next (walk_members w (Some b))))
    -- the work stays: a unit has left the epoch, or the answer is passed by
    JobLearns : (w : Walk) (j k : CellJob) → (cell_feed j u x next).to ≡ Learns k → Fed (with_job w j) (learns (cell_feed j u x next).next (with_job w j))
    JobFenced : (w : Walk) (j : CellJob) (v e : ℕ) → (cell_feed j u x next).to ≡ Ends (Fenced v e) → Fed (with_job w j) (learns (cell_feed j u x next).next (with_job w j))
    JobPasses : (w : Walk) (j : CellJob) (e : CellEnd) → (cell_feed j u x next).to ≡ Ends e → Fed (with_job w j) (passes (cell_feed j u x next).next (with_job w j))

  job_fed : (w : Walk) (j : CellJob) (to : Next CellJob CellEnd) → (cell_feed j u x next).to ≡ to → Fed (with_job w j) (walk_next p (with_job w j) j.place.pos to (cell_feed j u x next).next)
  job_fed w j (Goes k) e = ReadGoes w j k e
  job_fed w j (Learns k) e = JobLearns w j k e
  job_fed w j (Ends (Done c)) e = ReadDone w j c e
  job_fed w j (Ends (Gone b)) e = ReadGone w j b e
  job_fed w j (Ends (Fenced v f)) e = JobFenced w j v f e
  job_fed w j (Ends Seen) e = JobPasses w j Seen e
  job_fed w j (Ends (Lost c)) e = JobPasses w j (Lost c) e

  at_job : (w : Walk) (o : Option CellJob) → Fed (record w { job = o }) (walk_feed p (record w { job = o }) o u x next)
  unfolding walk_feed
  at_job w None = Nothing (record w { job = None })
  at_job w (Some j) = job_fed w j (cell_feed j u x next).to refl

  pub walk_fed : (w : Walk) → Fed w (walk_feed p w w.job u x next)
  walk_fed w = at_job w w.job

-- What a walk's turn comes to, with the walk as it was.
module _ (p : Layout) (w : Walk) (n : ℕ) (x : Reply) (next : ℕ) where
  pub data WalkCame : Option CellJob → WalkTurn → Type 0 where
    Waits : (o : Option CellJob) (next' : ℕ) → WalkCame o (passes next' w)
    NewerCame : (o : Option CellJob) (next' : ℕ) → WalkCame o (learns next' w)
    ReadsOn : (j i : CellJob) → (cell_feed j n x next).to ≡ Goes i → WalkCame (Some j) (turn (cell_feed j n x next).next (Goes (with_job w i)))
    HasRead : (j : CellJob) (c : Cell) → (cell_feed j n x next).to ≡ Ends (Done c) → WalkCame (Some j) (walk_from p (cell_feed j n x next).next (read_at w j.place.pos c))
    MetTrim : (j : CellJob) (b : ℕ) → (cell_feed j n x next).to ≡ Ends (Gone b) → WalkCame (Some j) (met_gone b (ends (cell_feed j n x next).next (walk_members w (Some b))))

came_of : (p : Layout) (n : ℕ) (x : Reply) (next : ℕ) (w : Walk) (t : WalkTurn) → Fed p n x next w t → WalkCame p w n x next w.job t
came_of p n x next _ _ (Nothing w) = Waits w.job next
came_of p n x next _ _ (ReadGoes w j k e) = ReadsOn j k e
came_of p n x next _ _ (ReadDone w j c e) = HasRead j c e
came_of p n x next _ _ (ReadGone w j b e) = MetTrim j b e
came_of p n x next _ _ (JobLearns w j k e) = NewerCame (Some j) _
came_of p n x next _ _ (JobFenced w j v e f) = NewerCame (Some j) _
came_of p n x next _ _ (JobPasses w j e f) = Waits (Some j) _

pub walk_came : (p : Layout) (w : Walk) (n : ℕ) (x : Reply) (next : ℕ) (o : Option CellJob) → WalkCame p (record w { job = o }) n x next o (walk_feed p (record w { job = o }) o n x next)
walk_came p w n x next o = came_of p n x next (record w { job = o }) _ (walk_fed p n x next (record w { job = o }))
