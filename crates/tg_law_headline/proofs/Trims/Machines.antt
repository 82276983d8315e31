-- What trims and copies ask units to trim: B of an epoch and a position, where it stays so in later epochs.
use Rattle.std.proofs.Common.{◌≡◌, ℕ, refl, sym, subst}
use Rattle.tg_base.specs.Layouts.{Layout}
use Rattle.tg_protocol.specs.Requests.{Next, Goes, Learns, Ends}
use Rattle.tg_protocol.specs.Replies.{Reply}
use Rattle.tg_protocol.specs.Cells.{Place, CellJob, Gone, cell_feed}
use Rattle.tg_protocol.specs.Trimming.{Trims, Trimmed, TrimTurn, trim_start, trim_feed, CopyWork, Reading, Trimming, Copying, CopyEnd, CopyTurn, copy_feed, copy_start}
use Rattle.tg_law_steps.proofs.Machines.Copies as copies
use Rattle.tg_law_steps.proofs.Machines.Trims.{Fed, TrimsLast, trims_fed}
use Rattle.tg_law_headline.proofs.Issues.Bounds.{Kept, cell_kept}

module _ (B : ℕ → ℕ → Type 0) where
  -- Trims.

  abbrev pub TrimNext : ℕ → Next Trims Trimmed → Type 0
  TrimNext e (Goes t) = B e t.below
  TrimNext e (Learns t) = B e t.below
  TrimNext e (Ends x) = Unit {0}

  pub trim_starts : (p : Layout) (below next : ℕ) → B p.epoch below → TrimNext p.epoch (trim_start p below next).to
  unfolding trim_start
  trim_starts p below next k = k

  turn_ok : (p : Layout) (u : ℕ) (x : Reply) (next : ℕ) (t : Trims) (c : TrimTurn) → Fed p u x next t c → B p.epoch t.below → TrimNext p.epoch c.to
  turn_ok p u x next _ _ (TrimsLast b ws d is left) k = tt
  turn_ok p u x next _ _ came k = k

  pub trims_ok : (p : Layout) (t : Trims) (u : ℕ) (x : Reply) (next : ℕ) → B p.epoch t.below → TrimNext p.epoch (trim_feed p t u x next).to
  trims_ok p t u x next k = turn_ok p u x next t _ (trims_fed p u x next t) k

  -- Copies.

  abbrev pub CopyOk : ℕ → CopyWork → Type 0
  CopyOk e (Reading j) = j.place.epoch ≡ e
  CopyOk e (Trimming r b) = B e b
  CopyOk e w = Unit {0}

  abbrev pub CopyNext : ℕ → Next Copying CopyEnd → Type 0
  CopyNext e (Goes c) = CopyOk e c.work
  CopyNext e x = Unit {0}

  -- what a unit tells as gone of the stripe that is read
  pub record CopyHears (p : Layout) (c : Copying) (n : ℕ) (x : Reply) (next : ℕ) : Type 0 where
    pub gone : (j : CellJob) (b : ℕ) → c.work ≡ Reading j → (cell_feed j n x next).to ≡ Ends (Gone b) → B p.epoch b

  copied : (p : Layout) (n : ℕ) (x : Reply) (next : ℕ) (c : Copying) (t : CopyTurn) → copies.Fed p n x next c t → CopyHears p c n x next → CopyOk p.epoch c.work → CopyNext p.epoch t.to
  copied p n x next _ _ (copies.Nothing c) h k = k
  copied p n x next _ _ (copies.ReadGoes c j i e) h k = subst (λ (a : Place). a.epoch ≡ p.epoch) (sym (subst (Kept j.place j.work) e (cell_kept j n x next)).0) k
  copied p n x next _ _ (copies.Trims c j b e) h k = h.gone j b refl e
  copied p n x next _ _ (copies.JobPasses c j e is) h k = k
  copied p n x next _ _ (copies.Reads c w at gone g e) h k = refl
  copied p n x next _ _ came h k = tt

  pub copy_ok : (p : Layout) (c : Copying) (n : ℕ) (x : Reply) (next : ℕ) → CopyHears p c n x next → CopyOk p.epoch c.work → CopyNext p.epoch (copy_feed p c c.work n x next).to
  copy_ok p c n x next h k = copied p n x next c _ (copies.copy_fed p n x next c) h k

  pub start_copies : (e u r s next : ℕ) → CopyNext e (copy_start u r s next).to
  unfolding copy_start
  start_copies e u r s next = tt
