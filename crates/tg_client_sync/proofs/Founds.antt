-- What walks find, and how the streams are walked.
use Rattle.std.proofs.Common.{◌≡◌, ℕ, zero, suc, List, [], ◌∷◌, Option, Some, None, refl, sym, ap, subst, ◌∙◌}
use Rattle.tg_base.specs.Layouts.{Layout}
use Rattle.tg_base.specs.declared.cell.Cell.{Cell}
use Rattle.tg_base.specs.declared.ids.Oid.{Oid}
use Rattle.tg_kind.specs.Meaning.{Meaning}
use Rattle.tg_protocol.specs.Words.{cell_at}
use Rattle.tg_protocol.specs.Requests.{Next, Goes, Learns, Ends}
use Rattle.tg_protocol.specs.Cells.{place_in, get_cell}
use Rattle.tg_protocol.specs.Walking.{Walk, Members, WalkTurn, walk_on, walk_start, visited, reads_turn, next_visit, steps_left, trail}
use Rattle.tg_protocol.specs.Answers.{Moved, moved, walked}
use Rattle.tg_protocol.specs.Clients as told
use Rattle.tg_protocol.specs.ClientSteps.{takes_back, trims_with, found_by, lends, after_turn, goes_on, start_walk, walks}
use Rattle.tg_stream.proofs.Visits.{on-none, on-known, on-unknown, on-zero}
use Rattle.tg_client_cells.proofs.Ruled.{as_ruled}
use Rattle.tg_client_state.specs.Tasks.{JobOf, work_of, KeepsJob}
use Rattle.tg_client_sync.specs.Finding.{trims_after, found_in}

-- A walk that begins over known cells has no newer layout to learn.

NotLearning : Next Walk Members → Type 0
NotLearning (Goes w) = Unit {0}
NotLearning (Learns w) = ⊥
NotLearning (Ends x) = Unit {0}

reads-not : (p : Layout) (n q : ℕ) (w : Walk) → NotLearning (reads_turn w (get_cell (place_in p q) n)).to
unfolding get_cell NotLearning
reads-not p n q w = tt

on-not : (p : Layout) (n k : ℕ) (w : Walk) → NotLearning (walk_on p n k w).to
unfolding NotLearning
on-not p n zero w = subst (λ (t : WalkTurn). NotLearning t.to) (sym (on-zero p n w)) tt
on-not p n (suc k) w =
    elim (next_visit w) as (λ x. next_visit w ≡ x → NotLearning (walk_on p n (suc k) w).to) [
      | None ↦ λ e. subst (λ (t : WalkTurn). NotLearning t.to) (sym (on-none p n k w e)) tt
      | Some q ↦ λ e.
          elim (cell_at w.cells q) as (λ x. cell_at w.cells q ≡ x → NotLearning (walk_on p n (suc k) w).to) [
            | None ↦ λ f. subst (λ (t : WalkTurn). NotLearning t.to) (sym (on-unknown p n k w q e f)) (reads-not p n q w)
            | Some c ↦ λ f. subst (λ (t : WalkTurn). NotLearning t.to) (sym (on-known p n k w q c e f)) (on-not p n k (visited w q c))
          ] refl
    ] refl

pub starts_not : (p : Layout) (o : Oid) (lasts : List ℕ) (lo : ℕ) (cells : List (ℕ × Cell)) (n : ℕ) (w : Walk) → (walk_start p o lasts lo cells n).to ≡ Learns w → ⊥
unfolding walk_start NotLearning
starts_not p o lasts lo cells n w e =
    let begun : Walk = record { oid = o; lo = lo; cells = cells; trail = trail lasts 0; members = []; job = None } in
    subst NotLearning e (on-not p n (steps_left (next_visit begun)) begun)

-- and sends nothing besides

reads-alone : (p : Layout) (n q : ℕ) (w : Walk) → (reads_turn w (get_cell (place_in p q) n)).besides ≡ []
unfolding get_cell
reads-alone p n q w = refl

on-alone : (p : Layout) (n k : ℕ) (w : Walk) → (walk_on p n k w).besides ≡ []
on-alone p n zero w = subst (λ (t : WalkTurn). t.besides ≡ []) (sym (on-zero p n w)) refl
on-alone p n (suc k) w =
    elim (next_visit w) as (λ x. next_visit w ≡ x → (walk_on p n (suc k) w).besides ≡ []) [
      | None ↦ λ e. subst (λ (t : WalkTurn). t.besides ≡ []) (sym (on-none p n k w e)) refl
      | Some q ↦ λ e.
          elim (cell_at w.cells q) as (λ x. cell_at w.cells q ≡ x → (walk_on p n (suc k) w).besides ≡ []) [
            | None ↦ λ f. subst (λ (t : WalkTurn). t.besides ≡ []) (sym (on-unknown p n k w q e f)) (reads-alone p n q w)
            | Some c ↦ λ f. subst (λ (t : WalkTurn). t.besides ≡ []) (sym (on-known p n k w q c e f)) (on-alone p n k (visited w q c))
          ] refl
    ] refl

pub starts_alone : (p : Layout) (o : Oid) (lasts : List ℕ) (lo : ℕ) (cells : List (ℕ × Cell)) (n : ℕ) → (walk_start p o lasts lo cells n).besides ≡ []
unfolding walk_start
starts_alone p o lasts lo cells n =
    let begun : Walk = record { oid = o; lo = lo; cells = cells; trail = trail lasts 0; members = []; job = None } in
    on-alone p n (steps_left (next_visit begun)) begun

module _ (m : Meaning) where
  trims-same : (ts : List (Oid × ℕ)) (o : Oid) (g : Option ℕ) → trims_with m ts o g ≡ trims_after ts o g
  trims-same ts o None = refl
  trims-same ts o (Some b) = refl

  pub found_job : (j : JobOf m) (w : told.Work m) (o : Oid) (x : Members) → KeepsJob m j w → KeepsJob m (found_in m j o x.list x.gone) (found_by m w o x)
  found_job j w o x h =
      ap (λ (u : told.Work m). found_by m u o x) h
      ∙ ap (λ ps. record (work_of m j w.hand) { found = ps; trims = trims_with m j.trims o x.gone }) (sym ((as_ruled m).with_positions j.found o x.list))
      ∙ ap (λ ts. record (work_of m (found_in m j o x.list x.gone) w.hand) { trims = ts }) (trims-same j.trims o x.gone)

  -- the streams, by what becomes of the first one's walk
  first-walk : told.Client m → told.Work m → Oid → List Oid → Next Walk Members → Moved m
  first-walk c w o os y = elim y as (λ _. Moved m) [
    | Goes x ↦ goes_on m (lends m (after_turn m c (start_walk m c w o))) w (told.Walking x os) []
    | Learns x ↦ moved m c []
    | Ends x ↦ walks m os (takes_back m c x) (found_by m w o x)
  ]

  pub none_left : (c : told.Client m) (w : told.Work m) → walked m c w ≡ walks m [] c w
  unfolding walks
  none_left c w = refl

  pub first_goes : (c : told.Client m) (w : told.Work m) (o : Oid) (os : List Oid) (x : Walk) → (start_walk m c w o).to ≡ Goes x →
      walks m (o ∷ os) c w ≡ goes_on m (lends m (after_turn m c (start_walk m c w o))) w (told.Walking x os) []
  unfolding walks first-walk
  first_goes c w o os x e = ap (first-walk c w o os) e

  pub first_ends : (c : told.Client m) (w : told.Work m) (o : Oid) (os : List Oid) (x : Members) → (start_walk m c w o).to ≡ Ends x →
      walks m (o ∷ os) c w ≡ walks m os (takes_back m c x) (found_by m w o x)
  unfolding walks first-walk
  first_ends c w o os x e = ap (first-walk c w o os) e
