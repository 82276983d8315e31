-- A walk gives up no cell that was known, and meets a trim only by an answer.
use Rattle.std.proofs.Common.{◌≡◌, ℕ, List, [], refl, subst, Option, Some, None}
use Rattle.tg_base.specs.Layouts.{Layout}
use Rattle.tg_base.specs.declared.cell.Cell.{Cell}
use Rattle.tg_base.specs.declared.ids.Oid.{Oid}
use Rattle.tg_protocol.specs.Requests.{Next, Goes, Learns, Ends}
use Rattle.tg_protocol.specs.Replies.{Reply}
use Rattle.tg_protocol.specs.Cells.{CellJob, Gone, cell_feed}
use Rattle.tg_protocol.specs.Walking.{Walk, Members, WalkTurn, read_at, walk_from, walk_start, walk_feed, trail}
use Rattle.tg_law_walks.specs.Walks.Walks.{AreMore}
use Rattle.tg_law_walks.proofs.Walks.Cells.{more_some}
use Rattle.tg_law_steps.proofs.Machines.Walks.{goes_on, WalkCame, HasRead, MetTrim, walk_came}
use Rattle.tg_law_headline.proofs.Settled.Meets.{MeetsNone, from_none}

abbrev pub WalkMore : List (ℕ × Cell) → Next Walk Members → Type 0
WalkMore cells (Goes w) = AreMore cells w.cells
WalkMore cells (Learns w) = AreMore cells w.cells
WalkMore cells (Ends x) = AreMore cells x.cells

goes_more : (cells : List (ℕ × Cell)) (p : Layout) (next : ℕ) (w : Walk) → AreMore cells w.cells → WalkMore cells (walk_from p next w).to
goes_more cells p next w k = goes_on p next (λ v. AreMore cells v.cells) (λ t. WalkMore cells t.to) (λ v q c e f i. i) (λ v i. i) (λ v q e f i. i) _ w k

pub walks_more : (p : Layout) (next : ℕ) (w : Walk) → WalkMore w.cells (walk_from p next w).to
walks_more p next w = goes_more w.cells p next w (λ q i. i)

pub starts_more : (p : Layout) (o : Oid) (lasts : List ℕ) (lo : ℕ) (cells : List (ℕ × Cell)) (next : ℕ) → WalkMore cells (walk_start p o lasts lo cells next).to
unfolding walk_start
starts_more p o lasts lo cells next = goes_more cells p next (record { oid = o; lo = lo; cells = cells; trail = trail lasts 0; members = []; job = None }) (λ q i. i)

pub feed_more : (p : Layout) (w : Walk) (n : ℕ) (x : Reply) (next : ℕ) → WalkMore w.cells (walk_feed p w w.job n x next).to
feed_more p w n x next = by w.job _ (walk_came p w n x next w.job)
  where
    by : (o : Option CellJob) (t : WalkTurn) → WalkCame p w n x next o t → WalkMore w.cells t.to
    by _ _ (HasRead j c e) = goes_more w.cells p (cell_feed j n x next).next (read_at w j.place.pos c) (λ r i. more_some w.cells j.place.pos c r i)
    by _ _ (MetTrim j b e) = λ r i. i
    by _ _ y = λ r i. i

-- the trims that walks meet have G
module _ (G : ℕ → Type 0) where
  abbrev pub MetBy : Next Walk Members → Type 0
  MetBy (Ends x) = (b : ℕ) → x.gone ≡ Some b → G b
  MetBy to = Unit {0}

  no_trim : (b : ℕ) (o : Option ℕ) → o ≡ None → o ≡ Some b → G b
  no_trim b o e f = absurd (cc)

  none_by : (to : Next Walk Members) → MeetsNone to → MetBy to
  none_by (Goes w) k = tt
  none_by (Learns w) k = tt
  none_by (Ends x) k = λ b is. no_trim b x.gone k is

  pub goes_by : (p : Layout) (next : ℕ) (w : Walk) → MetBy (walk_from p next w).to
  goes_by p next w = none_by (walk_from p next w).to (from_none p next w)

  pub starts_by : (p : Layout) (o : Oid) (lasts : List ℕ) (lo : ℕ) (cells : List (ℕ × Cell)) (next : ℕ) → MetBy (walk_start p o lasts lo cells next).to
  unfolding walk_start
  starts_by p o lasts lo cells next = goes_by p next (record { oid = o; lo = lo; cells = cells; trail = trail lasts 0; members = []; job = None })

  same_trim : (a b : ℕ) → Some a ≡ Some b → a ≡ b
  same_trim a b e = cc

  -- what a unit tells as gone of the cell that is read
  pub feed_by : (p : Layout) (w : Walk) (n : ℕ) (x : Reply) (next : ℕ) → ((j : CellJob) (b : ℕ) → w.job ≡ Some j → (cell_feed j n x next).to ≡ Ends (Gone b) → G b) → MetBy (walk_feed p w w.job n x next).to
  feed_by p w n x next f = by w.job _ (walk_came p w n x next w.job) f
    where
      by : (o : Option CellJob) (t : WalkTurn) → WalkCame p w n x next o t → ((j : CellJob) (b : ℕ) → o ≡ Some j → (cell_feed j n x next).to ≡ Ends (Gone b) → G b) → MetBy t.to
      by _ _ (HasRead j c e) f = goes_by p (cell_feed j n x next).next (read_at w j.place.pos c)
      by _ _ (MetTrim j b e) f = λ c is. subst G (same_trim b c is) (f j b refl e)
      by _ _ y f = tt
