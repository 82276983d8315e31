-- Through each step of a walk: it came where it is by the cells that it knows.
use Rattle.std.proofs.Common.{◌≡◌, ℕ, List, [], Bool, true, false, cond, eqb, refl, sym, ap, ◌∙◌, subst, arith, Option, Some, None}
use Rattle.tg_base.specs.Layouts.{Layout}
use Rattle.tg_base.specs.declared.cell.Cell.{Cell}
use Rattle.tg_base.specs.declared.ids.Oid.{Oid}
use Rattle.tg_protocol.specs.Words.{cell_at, with_cell}
use Rattle.tg_protocol.specs.Requests.{Next, Goes, Learns, Ends}
use Rattle.tg_protocol.specs.Replies.{Reply}
use Rattle.tg_protocol.specs.Cells.{Place, CellJob}
use Rattle.tg_protocol.specs.Walking.{trail, Walk, Members, WalkTurn, with_job, read_at, at_least, next_of_trail, walk_from, walk_start, walk_feed}
use Rattle.tg_law_steps.proofs.Machines.Walks.{goes_on, Fed, ReadGoes, ReadDone, ReadGone, walk_fed}
use Rattle.tg_law_walks.proofs.Walks.Cells.{cell_stored, cell_here}
use Rattle.tg_law_claims.proofs.Playing.Past.{same_place}
use Rattle.tg_law_claims.proofs.Playing.Trails.{Leads, begins, visits, more_leads}

-- from a list of positions
module _ (lasts : List ℕ) where
  abbrev pub Came : Walk → Type 0
  Came w = Leads w.cells w.oid (trail lasts 0) w.trail

  -- what it reads is where it goes on, and isn't known
  abbrev pub Reads : Walk → Type 0
  Reads w = (j : CellJob) → w.job ≡ Some j → (next_of_trail w.trail ≡ Some j.place.pos) × (cell_at w.cells j.place.pos ≡ None)

  pub record IsTreading (w : Walk) : Type 0 where
    pub came : Came w
    pub reads : Reads w

  -- of this stream
  abbrev pub NextTreads : Oid → Next Walk Members → Type 0
  NextTreads o (Goes w) = IsTreading w × (w.oid ≡ o)
  NextTreads o (Learns w) = IsTreading w × (w.oid ≡ o)
  NextTreads o (Ends x) = Unit {0}

  same_job : (j k : CellJob) → Some j ≡ Some k → k ≡ j
  same_job j k e = cc

  visit_next : (lo : ℕ) (o : Option ℕ) (q : ℕ) → at_least lo o ≡ Some q → o ≡ Some q
  visit_next lo None q e = absurd (cc)
  visit_next lo (Some r) q e = grind arith

  with_job_treads : (w : Walk) (j : CellJob) → Came w → next_of_trail w.trail ≡ Some j.place.pos → cell_at w.cells j.place.pos ≡ None → IsTreading (record w { job = Some j })
  with_job_treads w j came at none = record { came = came; reads = λ k e. subst (λ (z : CellJob). (next_of_trail w.trail ≡ Some z.place.pos) × (cell_at w.cells z.place.pos ≡ None)) (sym (same_job j k e)) (at, none) }

  module _ (p : Layout) where
    pub goes_treads : (next : ℕ) (w : Walk) → Came w → NextTreads w.oid (walk_from p next w).to
    goes_treads next w came = goes_on p next (λ (v : Walk). Came v × (v.oid ≡ w.oid)) (λ (t : WalkTurn). NextTreads w.oid t.to)
        (λ v q c at known k. (visits v.cells v.oid (trail lasts 0) v.trail q c k.0 (visit_next v.lo (next_of_trail v.trail) q at) known, k.1)) (λ v k. tt)
        (λ v q at unknown k. (with_job_treads v _ k.0 (visit_next v.lo (next_of_trail v.trail) q at) unknown, k.1)) _ w (came, refl)

    pub starts_treads : (o : Oid) (lo : ℕ) (cells : List (ℕ × Cell)) (next : ℕ) → NextTreads o (walk_start p o lasts lo cells next).to
    unfolding walk_start
    starts_treads o lo cells next = goes_treads next (record { oid = o; lo = lo; cells = cells; trail = trail lasts 0; members = []; job = None }) (begins cells o (trail lasts 0))

    -- a cell that wasn't known comes
    stored_stays : (cells : List (ℕ × Cell)) (q : ℕ) (c : Cell) → cell_at cells q ≡ None → (r : ℕ) (d : Cell) → cell_at cells r ≡ Some d → cell_at (with_cell cells q c) r ≡ Some d
    stored_stays cells q c none r d e = cell_stored cells q c r ∙ by (eqb r q) refl
      where
        same : eqb r q ≡ true → r ≡ q
        same f = grind arith

        no : (o : Option Cell) → o ≡ Some d → o ≡ None → ⊥
        no o i j = cc

        by : (b : Bool) → eqb r q ≡ b → cond b (Some c) (cell_at cells r) ≡ Some d
        by true f = absurd (no (cell_at cells r) e (ap (cell_at cells) (same f) ∙ none))
        by false f = e

    read_came : (w : Walk) (q : ℕ) (c : Cell) → Came w → next_of_trail w.trail ≡ Some q → cell_at w.cells q ≡ None → Came (read_at w q c)
    read_came w q c came at none =
        visits (with_cell w.cells q c) w.oid (trail lasts 0) w.trail q c (more_leads w.cells (with_cell w.cells q c) w.oid (trail lasts 0) w.trail (stored_stays w.cells q c none) came) at (cell_here w.cells q c)

    turn_treads : (n : ℕ) (x : Reply) (next : ℕ) (w : Walk) (t : WalkTurn) → Fed p n x next w t → IsTreading w → NextTreads w.oid t.to
    turn_treads n x next _ _ (ReadGoes w j i e) k =
        let same : i.place.pos ≡ j.place.pos = ap (λ (a : Place). a.pos) (same_place j n x next i e) in
        let y = k.reads j refl in
        (with_job_treads w i k.came (y.0 ∙ ap (λ (q : ℕ). Some q) (sym same)) (ap (cell_at w.cells) same ∙ y.1), refl)
    turn_treads n x next _ _ (ReadDone w j c e) k = let y = k.reads j refl in goes_treads _ (read_at (with_job w j) j.place.pos c) (read_came (with_job w j) j.place.pos c k.came y.0 y.1)
    turn_treads n x next _ _ (ReadGone w j b e) k = tt
    turn_treads n x next _ _ came k = (k, refl)

    pub feed_treads : (w : Walk) (n : ℕ) (x : Reply) (next : ℕ) → IsTreading w → NextTreads w.oid (walk_feed p w w.job n x next).to
    feed_treads w n x next k = turn_treads n x next w _ (walk_fed p n x next w) k
