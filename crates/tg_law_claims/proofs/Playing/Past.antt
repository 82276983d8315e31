-- A walk reads only at or past the position down to which it goes, and a play takes no view back.
use Rattle.std.proofs.Common.{◌≡◌, ℕ, ◌≤◌, List, [], ◌∷◌, Bool, true, false, cond, refl, sym, subst, arith, Option, Some, None}
use Rattle.std.specs.Prelude.{nat_lt, nat_le, ◌&&◌}
use Rattle.tg_base.specs.Layouts.{Layout}
use Rattle.tg_base.specs.declared.cell.Cell.{Cell}
use Rattle.tg_base.specs.declared.ids.Oid.{Oid}
use Rattle.tg_kind.specs.Meaning.{Meaning}
use Rattle.tg_protocol.specs.Requests.{Next, Goes, Learns, Ends}
use Rattle.tg_protocol.specs.Replies.{Reply, IsGone}
use Rattle.tg_protocol.specs.Cells.{Place, CellJob, Gone, cell_feed, work_feed, fill_cell, get_cell}
use Rattle.tg_protocol.specs.Walking.{Walk, Members, WalkTurn, with_job, read_at, at_least, next_of_trail, walk_from, walk_start, walk_feed, trail}
use Rattle.tg_protocol.specs.Views.{Entries, View, Play, Step, On, Stuck, view_start, step_at, between, play_on, play_from, play}
use Rattle.tg_protocol.specs.Clients.{Work, Client, upto_in, upto, all_entries}
use Rattle.tg_protocol.specs.Answers.{own_view, view_or_new, play_target}
use Rattle.tg_law_steps.proofs.Machines.Walks.{goes_on, Fed, ReadGoes, ReadDone, ReadGone, walk_fed}
use Rattle.tg_law_replies.proofs.Plays.Joins.{step_on, on_more}
use Rattle.tg_law_syncs.proofs.Known.Ways.{played_view}

-- Cells.

pub cell_gone : (j : CellJob) (u : ℕ) (x : Reply) (next b : ℕ) → (cell_feed j u x next).to ≡ Ends (Gone b) → x ≡ IsGone b
unfolding cell_feed work_feed fill_cell
cell_gone j u x next b h = grind arith

pub same_place : (j : CellJob) (u : ℕ) (x : Reply) (next : ℕ) (k : CellJob) → ((cell_feed j u x next).to ≡ Goes k) → k.place ≡ j.place
unfolding cell_feed work_feed get_cell fill_cell
same_place j u x next k e = grind arith

-- Walks.

-- where a walk reads, and how far down it goes
module _ (P : ℕ → Type 0) (up : (a b : ℕ) → a ≤ b → P a → P b) where
  abbrev pub WalkPast : Walk → Type 0
  WalkPast w = P w.lo × ((j : CellJob) → w.job ≡ Some j → P j.place.pos)

  abbrev pub NextPast : Next Walk Members → Type 0
  NextPast (Goes w) = WalkPast w
  NextPast (Learns w) = WalkPast w
  NextPast (Ends x) = Unit {0}

  same_job : (j k : CellJob) → Some j ≡ Some k → j ≡ k
  same_job j k e = cc

  with_job_past : (w : Walk) (j : CellJob) → P w.lo → P j.place.pos → WalkPast (record w { job = Some j })
  with_job_past w j lo at = (lo, λ k e. subst (λ (z : CellJob). P z.place.pos) (same_job j k e) at)

  visit_past : (lo : ℕ) (o : Option ℕ) (q : ℕ) → at_least lo o ≡ Some q → lo ≤ q
  visit_past lo None q e = absurd (cc)
  visit_past lo (Some r) q e = grind arith

  module _ (p : Layout) where
    pub goes_past : (next : ℕ) (w : Walk) → P w.lo → NextPast (walk_from p next w).to
    goes_past next w lo = goes_on p next (λ (v : Walk). P v.lo) (λ (t : WalkTurn). NextPast t.to) (λ v q c visit known low. low) (λ v low. tt)
        (λ v q visit unknown low. with_job_past v _ low (up v.lo q (visit_past v.lo (next_of_trail v.trail) q visit) low)) _ w lo

    pub starts_past : (o : Oid) (lasts : List ℕ) (lo : ℕ) (cells : List (ℕ × Cell)) (next : ℕ) → P lo → NextPast (walk_start p o lasts lo cells next).to
    unfolding walk_start
    starts_past o lasts lo cells next k = goes_past next (record { oid = o; lo = lo; cells = cells; trail = trail lasts 0; members = []; job = None }) k

    turn_past : (n : ℕ) (x : Reply) (next : ℕ) (w : Walk) (t : WalkTurn) → Fed p n x next w t → WalkPast w → NextPast t.to
    turn_past n x next _ _ (ReadGoes w j i e) k = with_job_past w i k.0 (subst (λ (a : Place). P a.pos) (sym (same_place j n x next i e)) (k.1 j refl))
    turn_past n x next _ _ (ReadDone w j c e) k = goes_past _ (read_at (with_job w j) j.place.pos c) k.0
    turn_past n x next _ _ (ReadGone w j b e) k = tt
    turn_past n x next _ _ came k = k

    pub feed_past : (w : Walk) (n : ℕ) (x : Reply) (next : ℕ) → WalkPast w → NextPast (walk_feed p w w.job n x next).to
    feed_past w n x next k = turn_past n x next w _ (walk_fed p n x next w) k

-- Plays.

module _ (m : Meaning) (own : Entries) where
  -- each of them lies at or past a position
  abbrev AreFrom : ℕ → Entries → Type 0
  AreFrom n [] = Unit {0}
  AreFrom n (x ∷ xs) = (n ≤ x.0) × AreFrom n xs

  from_of : (b : Bool) (low p : ℕ) → (nat_le low p && b) ≡ true → low ≤ p
  from_of b low p e = grind arith

  between_from : (low n : ℕ) (xs : Entries) → AreFrom low (between m low n xs)
  between_from low n [] = tt
  between_from low n (x ∷ xs) = by (nat_le low x.0 && nat_lt x.0 n) refl (between_from low n xs)
    where
      by : (b : Bool) → (nat_le low x.0 && nat_lt x.0 n) ≡ b → AreFrom low (between m low n xs) → AreFrom low (cond b (x ∷ between m low n xs) (between m low n xs))
      by true e k = (from_of (nat_lt x.0 n) low x.0 e, k)
      by false e k = k

  on_high : (low n p : ℕ) (v : View m) (xs : Entries) (s : Step m) → low ≤ p → ((w : View m) → low ≤ (play_on m own n w xs).view.upto) → low ≤ (step_on m own n v p xs s).view.upto
  unfolding step_on
  on_high low n p v xs (On w) le rest = rest w
  on_high low n p v xs (Stuck o) le rest = le

  play_on_high : (low n : ℕ) (v : View m) (xs : Entries) → AreFrom low xs → low ≤ n → low ≤ (play_on m own n v xs).view.upto
  unfolding play_on
  play_on_high low n v [] k le = le
  play_on_high low n v (x ∷ xs) k le =
      subst (λ (y : Play m). low ≤ y.view.upto) (sym (on_more m own n v x xs))
      (on_high low n x.0 v xs (step_at m v own x.0 x.1) k.0 (λ w. play_on_high low n w xs k.1 le))

  not_less : (a b : ℕ) → nat_lt a b ≡ false → b ≤ a
  not_less a b e = grind arith

  same : (n : ℕ) → n ≤ n
  same n = omega arith

  -- a play goes on from where the view stood
  pub play_high : (n : ℕ) (v : View m) → v.upto ≤ (play m v own n).view.upto
  unfolding play
  play_high n v = by (nat_lt n v.upto) refl
    where
      by : (t : Bool) → nat_lt n v.upto ≡ t → v.upto ≤ (play_from m v own n t).view.upto
      by true e = same v.upto
      by false e = play_on_high v.upto n v (between m v.upto n own) (between_from v.upto n own) (not_less n v.upto e)

module _ (m : Meaning) where
  own_high : (c : Client m) (w : Work m) (es : Entries) → upto m c ≤ (own_view m c w es).upto
  unfolding view_start
  own_high c w es = by c.view
    where
      by : (v : Option (View m)) → upto_in m v ≤ (view_or_new m c w es v).upto
      by None = omega arith
      by (Some v) = omega arith

  pub played_high : (c : Client m) (w : Work m) → upto m c ≤ (played_view m c w).upto
  played_high c w =
      let es = all_entries m c w c.hosted in
      let a = own_high c w es in
      let b = play_high m es (play_target m w w.command) (own_view m c w es) in
      omega (arith, a, b)
