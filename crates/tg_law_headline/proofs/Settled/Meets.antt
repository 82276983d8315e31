-- A walk meets a trim only where a unit answers so.
use Rattle.std.proofs.Common.{◌≡◌, ℕ, List, [], refl, sym, ap, ◌∙◌, subst, Option, Some, None}
use Rattle.tg_base.specs.Layouts.{Layout}
use Rattle.tg_base.specs.declared.cell.Cell.{Cell}
use Rattle.tg_base.specs.declared.ids.Oid.{Oid}
use Rattle.tg_protocol.specs.Requests.{Next, Goes, Learns, Ends}
use Rattle.tg_protocol.specs.Replies.{Reply}
use Rattle.tg_protocol.specs.Cells.{CellJob, Gone, cell_feed}
use Rattle.tg_protocol.specs.Walking.{trail, Walk, Members, WalkTurn, walk_members, walk_from, walk_start, read_at, walk_feed}
use Rattle.tg_law_steps.proofs.Machines.Walks.{goes_on, WalkCame, Waits as WalkWaits, NewerCame as NewerForWalk, ReadsOn, HasRead, MetTrim, walk_came}

abbrev pub MeetsNone : Next Walk Members → Type 0
MeetsNone (Ends x) = x.gone ≡ None
MeetsNone _ = Unit {0}

-- over known cells it meets none
pub from_none : (p : Layout) (next : ℕ) (w : Walk) → MeetsNone (walk_from p next w).to
from_none p next w = goes_on p next (λ v. Unit {0}) (λ t. MeetsNone t.to) (λ v q c e f k. tt) (λ v k. refl) (λ v q e f k. tt) _ w tt

pub start_none : (p : Layout) (o : Oid) (ls : List ℕ) (lo : ℕ) (cells : List (ℕ × Cell)) (next : ℕ) → MeetsNone (walk_start p o ls lo cells next).to
unfolding walk_start
start_none p o ls lo cells next = from_none p next (record { oid = o; lo = lo; cells = cells; trail = trail ls 0; members = []; job = None })

-- An answer.

pub record MeetsAt (k : Walk) (n : ℕ) (x : Reply) (next b : ℕ) : Type 0 where
  pub job : CellJob
  pub is : k.job ≡ Some job
  pub ends : (cell_feed job n x next).to ≡ Ends (Gone b)

abbrev ends_with : Members → Next Walk Members
ends_with y = Ends y

goes_no : {X : Type 0} (k : Walk) (y : Members) → Goes k ≡ ends_with y → X
goes_no k y e = absurd (cc)

learns_no : {X : Type 0} (k : Walk) (y : Members) → Learns k ≡ ends_with y → X
learns_no k y e = absurd (cc)

same_end : (a b : Members) → ends_with a ≡ ends_with b → a ≡ b
same_end a b e = cc

pub none_no : {X : Type 0} (b : ℕ) → None ≡ Some b → X
none_no b e = absurd (cc)

some_num : (a b : ℕ) → Some a ≡ Some b → a ≡ b
some_num a b e = cc

module _ (p : Layout) (k : Walk) (n : ℕ) (x : Reply) (next : ℕ) (y : Members) (b : ℕ) (gone : y.gone ≡ Some b) where
  none_ends : (to : Next Walk Members) → MeetsNone to → to ≡ Ends y → MeetsAt k n x next b
  none_ends (Goes v) h e = goes_no v y e
  none_ends (Learns v) h e = learns_no v y e
  none_ends (Ends z) h e = none_no b (sym h ∙ (ap (λ (a : Members). a.gone) (same_end z y e) ∙ gone))

  came_meets : (o : Option CellJob) (t : WalkTurn) → k.job ≡ o → WalkCame p k n x next o t → t.to ≡ Ends y → MeetsAt k n x next b
  came_meets _ _ is (WalkWaits o next') e = goes_no k y e
  came_meets _ _ is (NewerForWalk o next') e = learns_no k y e
  came_meets _ _ is (ReadsOn j i f) e = goes_no _ y e
  came_meets _ _ is (HasRead j c f) e = none_ends (walk_from p (cell_feed j n x next).next (read_at k j.place.pos c)).to (from_none p (cell_feed j n x next).next (read_at k j.place.pos c)) e
  came_meets _ _ is (MetTrim j a f) e =
      let at : a ≡ b = some_num a b (ap (λ (z : Members). z.gone) (same_end (walk_members k (Some a)) y e) ∙ gone) in
      record { job = j; is = is; ends = subst (λ (z : ℕ). (cell_feed j n x next).to ≡ Ends (Gone z)) at f }

  pub feed_meets : (walk_feed p k k.job n x next).to ≡ Ends y → MeetsAt k n x next b
  feed_meets e = came_meets k.job _ refl (walk_came p k n x next k.job) e
