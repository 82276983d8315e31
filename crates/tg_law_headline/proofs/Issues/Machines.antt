-- Likewise of syncs, appends and copies.
use Rattle.std.proofs.Common.{◌≡◌, ℕ, ◌-◌, ◌<◌, ◌≤◌, List, true, false, refl, sym, ap, ◌∙◌, subst, arith}
use Rattle.std.specs.Prelude.{nat_lt, nat_le}
use Rattle.std.proofs.lemmas.Bool.Decides.{nat_tests}
use Rattle.tg_base.specs.Layouts.{Layout}
use Rattle.tg_base.specs.declared.cell.Cell.{Cell}
use Rattle.tg_base.specs.declared.marks.StreamLink.{StreamLink}
use Rattle.tg_protocol.specs.Requests.{Next, Goes, Learns, Ends}
use Rattle.tg_protocol.specs.Replies.{Reply, IsTail, IsIssued}
use Rattle.tg_protocol.specs.Layouts.{range_end}
use Rattle.tg_protocol.specs.Cells.{Place, CellJob, Done, Gone, cell_feed}
use Rattle.tg_protocol.specs.Appending.{AppendWork, Asking, Putting, Judging, Append, AppendEnd, append_feed, append_again}
use Rattle.tg_protocol.specs.Syncing.{Answer, SyncWork, Checking, Settling, Probing, Sync, Confirmed, sync_feed}
use Rattle.tg_protocol.specs.Trimming.{CopyWork, Reading, Storing, Copying, CopyEnd, CopyTurn, copy_feed, copy_start}
use Rattle.tg_law_headline.proofs.Issues.Bounds.{LinksBelow, OnlyProbes, Kept, cell_kept, Fits, AllFit}
use Rattle.tg_law_steps.proofs.Machines.Copies as copies
use Rattle.tg_law_steps.proofs.Machines.Syncs.{SyncCame, Waits, NewerCame, FillsBelow, ProbesBelow, SettlesOn, IsSettled, ProbesTrimmed, ProbesOn, IsProbed, sync_came}
use Rattle.tg_law_steps.proofs.Machines.Appends.{AppendCame, Waits as AppendWaits, PutsAt, PutsOn, JudgesOn, append_came, AppendAgain, AsksAgain, Judges, append_again_came}

less_of : (a b : ℕ) → nat_lt a b ≡ true → a < b
less_of a b e = grind (arith, nat_tests)

not_less : (a b : ℕ) → nat_lt a b ≡ false → b ≤ a
not_less a b e = grind (arith, nat_tests)

not_past : (a b : ℕ) → nat_le a b ≡ false → b < a
not_past a b e = grind (arith, nat_tests)

one_less : (s t : ℕ) → s < t → t - 1 < t
one_less s t l = grind (arith, l)

module _ (B : ℕ → ℕ → Type 0) (L : ℕ → ℕ → Type 0) where
  -- Syncs.

  pub record AnswerOk (e : ℕ) (tail : ℕ) (lasts : List StreamLink) : Type 0 where
    pub fit : AllFit B L e tail
    pub links : LinksBelow tail lasts

  abbrev pub SyncOk : ℕ → SyncWork → Type 0
  SyncOk e (Checking r) = Unit {0}
  SyncOk e (Settling a j) = AnswerOk e a.tail a.lasts × Fits B L j.place × (j.place.pos ≡ a.tail - 1)
  SyncOk e (Probing a j) = AnswerOk e a.tail a.lasts × L e a.tail × OnlyProbes j.work

  pub record TailOk (e tail : ℕ) (lasts : List StreamLink) : Type 0 where
    pub answer : AnswerOk e tail lasts
    pub later : L e tail

  abbrev pub SyncNext : ℕ → Next Sync Confirmed → Type 0
  SyncNext e (Goes s) = SyncOk e s.work
  SyncNext e (Learns s) = Unit {0}
  SyncNext e (Ends x) = TailOk e x.tail x.lasts

  -- what an awaited answer has to tell for that
  pub record SyncHears (p : Layout) (s : Sync) (n : ℕ) (x : Reply) (next : ℕ) : Type 0 where
    pub tail : (r t : ℕ) (ls : List StreamLink) → s.work ≡ Checking r → x ≡ IsTail t ls → AnswerOk p.epoch t ls
    pub low : (t : ℕ) → t ≤ p.start → L p.epoch t
    pub gone : (a : Answer) (j : CellJob) (b : ℕ) → s.work ≡ Settling a j → j.place.pos ≡ a.tail - 1 → (cell_feed j n x next).to ≡ Ends (Gone b) → L p.epoch a.tail
    pub done : (a : Answer) (j : CellJob) (c : Cell) → s.work ≡ Settling a j → j.place.pos ≡ a.tail - 1 → (cell_feed j n x next).to ≡ Ends (Done c) → L p.epoch a.tail

  module _ (p : Layout) (s : Sync) (n : ℕ) (x : Reply) (next : ℕ) (h : SyncHears p s n x next) where
    came_ok : (w : SyncWork) (to : Next Sync Confirmed) → s.work ≡ w → SyncCame p s n x next w to → SyncOk p.epoch w → SyncNext p.epoch to
    came_ok _ _ e (Waits w) k = subst (SyncOk p.epoch) (sym e) k
    came_ok _ _ e (NewerCame w) k = tt
    came_ok _ _ e (FillsBelow r t ls is names more) k = let o = h.tail r t ls e is in (o, o.fit (t - 1) (one_less p.start t (less_of p.start t more)), refl)
    came_ok _ _ e (ProbesBelow r t ls is names less) k = (h.tail r t ls e is, h.low t (not_less p.start t less), tt)
    came_ok _ _ e (SettlesOn a j i g) k = let at = subst (Kept j.place j.work) g (cell_kept j n x next) in (k.0, subst (Fits B L) (sym at.0) k.1, ap (λ (b : Place). b.pos) at.0 ∙ k.2)
    came_ok _ _ e (IsSettled a j c g) k = record { answer = k.0; later = h.done a j c e k.2 g }
    came_ok _ _ e (ProbesTrimmed a j b g) k = (k.0, h.gone a j b e k.2 g, tt)
    came_ok _ _ e (ProbesOn a j i g) k = let at = subst (Kept j.place j.work) g (cell_kept j n x next) in (k.0, k.1, at.1 k.2)
    came_ok _ _ e (IsProbed a j g) k = record { answer = k.0; later = k.1 }

    pub sync_ok : SyncOk p.epoch s.work → SyncNext p.epoch (sync_feed p s s.work n x next).to
    sync_ok f = came_ok s.work _ refl (sync_came p s n x next s.work) f

  -- Appends.

  abbrev pub AppendOk : AppendWork → Type 0
  AppendOk (Asking r) = Unit {0}
  AppendOk (Putting j) = Fits B L j.place
  AppendOk (Judging j) = Fits B L j.place

  abbrev pub AppendNext : Next Append AppendEnd → Type 0
  AppendNext (Goes a) = AppendOk a.work
  AppendNext x = Unit {0}

  pub record AppendHears (p : Layout) (a : Append) (x : Reply) : Type 0 where
    pub issued : (r pos : ℕ) (ls : List StreamLink) → a.work ≡ Asking r → x ≡ IsIssued pos ls → B p.epoch pos

  module _ (p : Layout) (a : Append) (n : ℕ) (x : Reply) (next : ℕ) (h : AppendHears p a x) where
    came_put : (w : AppendWork) (to : Next Append AppendEnd) → a.work ≡ w → AppendCame p a n x next w to → AppendOk w → AppendNext to
    came_put _ _ e (AppendWaits w) k = subst AppendOk (sym e) k
    came_put _ _ e (PutsAt r pos ls is names) k = h.issued r pos ls e is
    came_put _ _ e (PutsOn j i t has g) k = subst (Fits B L) (sym (subst (Kept j.place j.work) g (cell_kept j n x next)).0) k
    came_put _ _ e (JudgesOn j i t has g) k = subst (Fits B L) (sym (subst (Kept j.place j.work) g (cell_kept j n x next)).0) k
    came_put _ _ e y k = tt

    pub append_ok : AppendOk a.work → AppendNext (append_feed p a a.work n x next).to
    append_ok k = came_put a.work _ refl (append_came p a n x next a.work) k

  -- in a newer layout, whose start lies past what is judged
  module _ (p : Layout) (fit : AllFit B L p.epoch p.start) where
    pub again_ok : (a : Append) (next : ℕ) → AppendNext (append_again p a next).to
    again_ok a next = by _ (append_again_came p a next)
      where
        by : (to : Next Append AppendEnd) → AppendAgain p a next to → AppendNext to
        by _ AsksAgain = tt
        by _ (Judges t has less) = fit t.pos (not_past p.start t.pos less)

  -- Copies.

  abbrev pub CopyOk : ℕ → CopyWork → Type 0
  CopyOk e (Reading j) = Fits B L j.place × (j.place.epoch ≡ e)
  CopyOk e (Storing r pos c) = B e pos
  CopyOk e w = Unit {0}

  abbrev pub CopyNext : ℕ → Next Copying CopyEnd → Type 0
  CopyNext e (Goes c) = CopyOk e c.work
  CopyNext e x = Unit {0}

  -- a copy goes no further than the range's end
  module _ (p : Layout) (n : ℕ) (x : Reply) (next : ℕ) where
    copied : (c : Copying) (t : CopyTurn) → copies.Fed p n x next c t → AllFit B L p.epoch (range_end p c.range) → CopyOk p.epoch c.work → CopyNext p.epoch t.to
    copied _ _ (copies.Nothing c) range k = k
    copied _ _ (copies.ReadGoes c j i e) range k = subst (λ (b : Place). Fits B L b × (b.epoch ≡ p.epoch)) (sym (subst (Kept j.place j.work) e (cell_kept j n x next)).0) k
    copied _ _ (copies.Stores c j y e) range k = subst (λ (f : ℕ). B f j.place.pos) k.1 k.0
    copied _ _ (copies.JobPasses c j e is) range k = k
    copied _ _ (copies.Reads c w at gone on less) range k = (range at (less_of at _ less), refl)
    copied _ _ came range k = tt

  pub copy_ok : (p : Layout) (c : Copying) (n : ℕ) (x : Reply) (next : ℕ) → AllFit B L p.epoch (range_end p c.range) → CopyOk p.epoch c.work → CopyNext p.epoch (copy_feed p c c.work n x next).to
  copy_ok p c n x next range k = copied p n x next c _ (copies.copy_fed p n x next c) range k

  pub start_copies : (e u r s next : ℕ) → CopyNext e (copy_start u r s next).to
  unfolding copy_start
  start_copies e u r s next = tt
