-- A sync ends with the tail and the lists that were told together, once that tail is confirmed.
use Rattle.std.proofs.Common.{◌≡◌, ℕ, ◌-◌, ◌≤◌, List, false, refl, sym, ◌∙◌, subst, arith}
use Rattle.std.specs.Prelude.{nat_lt}
use Rattle.std.proofs.lemmas.Bool.Decides.{nat_tests}
use Rattle.tg_base.specs.Layouts.{Layout}
use Rattle.tg_base.specs.declared.cell.Cell.{Cell}
use Rattle.tg_base.specs.declared.marks.StreamLink.{StreamLink}
use Rattle.tg_protocol.specs.Requests.{Next, Goes, Learns, Ends}
use Rattle.tg_protocol.specs.Replies.{Reply, IsTail}
use Rattle.tg_protocol.specs.Cells.{CellJob, Done, Gone, cell_feed}
use Rattle.tg_protocol.specs.Syncing.{Answer, SyncWork, Checking, Settling, Probing, Sync, Confirmed, sync_feed}
use Rattle.tg_law_walks.proofs.Walks.Turns as turns
use Rattle.tg_law_walks.proofs.Walks.Turns.{cell_fine}
use Rattle.tg_law_steps.proofs.Machines.Syncs.{SyncCame, Waits, NewerCame, FillsBelow, ProbesBelow, SettlesOn, IsSettled, ProbesTrimmed, ProbesOn, IsProbed, sync_came}

not_less : (a b : ℕ) → nat_lt a b ≡ false → b ≤ a
not_less a b e = grind (arith, nat_tests)

-- Of a tail with its lists: that both were told, and that the tail is confirmed if it was.
module _ (told : ℕ → List StreamLink → Type 0) (sure : ℕ → Type 0) where
  abbrev pub SyncBy : SyncWork → Type 0
  SyncBy (Checking r) = Unit {0}
  SyncBy (Settling a j) = (j.place.pos ≡ a.tail - 1) × told a.tail a.lasts
  SyncBy (Probing a j) = told a.tail a.lasts × sure a.tail

  abbrev pub SyncNext : Next Sync Confirmed → Type 0
  SyncNext (Goes s) = SyncBy s.work
  SyncNext (Learns s) = Unit {0}
  SyncNext (Ends y) = told y.tail y.lasts × sure y.tail

  -- what an awaited answer has to tell for that
  pub record SyncHears (s : Sync) (n : ℕ) (x : Reply) (next : ℕ) : Type 0 where
    pub tail : (r t : ℕ) (ls : List StreamLink) → s.work ≡ Checking r → x ≡ IsTail t ls → told t ls
    pub gone : (a : Answer) (j : CellJob) (b : ℕ) → s.work ≡ Settling a j → j.place.pos ≡ a.tail - 1 → (cell_feed j n x next).to ≡ Ends (Gone b) → sure a.tail
    pub done : (a : Answer) (j : CellJob) (c : Cell) → s.work ≡ Settling a j → j.place.pos ≡ a.tail - 1 → (cell_feed j n x next).to ≡ Ends (Done c) → sure a.tail

  module _ (p : Layout) (low : (t : ℕ) → t ≤ p.start → sure t) (s : Sync) (n : ℕ) (x : Reply) (next : ℕ) (h : SyncHears s n x next) where
    came_by : (w : SyncWork) (to : Next Sync Confirmed) → s.work ≡ w → SyncCame p s n x next w to → SyncBy w → SyncNext to
    came_by _ _ e (Waits w) k = subst SyncBy (sym e) k
    came_by _ _ e (NewerCame w) k = tt
    came_by _ _ e (FillsBelow r t ls is names more) k = (refl, h.tail r t ls e is)
    came_by _ _ e (ProbesBelow r t ls is names less) k = (h.tail r t ls e is, low t (not_less p.start t less))
    came_by _ _ e (SettlesOn a j i g) k = (subst (turns.Fine j.place.pos) g (cell_fine j n x next) ∙ k.0, k.1)
    came_by _ _ e (IsSettled a j c g) k = (k.1, h.done a j c e k.0 g)
    came_by _ _ e (ProbesTrimmed a j b g) k = (k.1, h.gone a j b e k.0 g)
    came_by _ _ e (ProbesOn a j i g) k = k
    came_by _ _ e (IsProbed a j g) k = k

    pub sync_by : SyncBy s.work → SyncNext (sync_feed p s s.work n x next).to
    sync_by f = came_by s.work _ refl (sync_came p s n x next s.work) f
