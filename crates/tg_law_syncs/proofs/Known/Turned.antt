-- Of a machine's turn: its numbers only grow, and a trim that it met was told to the cell's machine that it had.
use Rattle.std.proofs.Common.{◌≡◌, ◌⊎◌, ℕ, ◌≤◌, List, [], refl, inl, inr, Option, Some}
use Rattle.tg_base.specs.Layouts.{Layout}
use Rattle.tg_base.specs.declared.packet.Out.{Out}
use Rattle.tg_protocol.specs.Requests.{Next, Goes, Learns, Ends}
use Rattle.tg_protocol.specs.Replies.{Reply}
use Rattle.tg_protocol.specs.Cells.{CellJob, Gone, cell_feed}
use Rattle.tg_protocol.specs.Appending.{AppendWork, Putting, Judging, Append, AppendTurn, append_asks, append_feed, append_again}
use Rattle.tg_protocol.specs.Syncing.{Answer, SyncWork, Settling, Sync, SyncTurn, sync_asks, sync_feed}
use Rattle.tg_protocol.specs.Walking.{Walk, WalkTurn, walk_asks, read_at, walk_from, walk_feed, walk_again}
use Rattle.tg_law_layouts.proofs.Moves.Draws.{NextDraws}
use Rattle.tg_law_layouts.proofs.Moves.Machines.{append_draws, append_again_draws, sync_draws, walk_draws, walk_again_draws}
use Rattle.tg_law_steps.proofs.Machines.Appends as appends
use Rattle.tg_law_steps.proofs.Machines.Syncs as syncs
use Rattle.tg_law_steps.proofs.Machines.Walks.{goes_on, WalkCame, HasRead, MetTrim, walk_came}

-- Numbers.

up_of : {M E : Type 0} (asks : M → List Out) (old : List Out) (next : ℕ) (bs : List Out) (end : ℕ) (to : Next M E) → NextDraws asks old next bs end to → next ≤ end
up_of asks old next bs end (Goes j) d = d.up
up_of asks old next bs end (Learns j) d = d.0
up_of asks old next bs end (Ends e) d = d

pub sync_up : (p : Layout) (s : Sync) (n : ℕ) (x : Reply) (next : ℕ) → next ≤ (sync_feed p s s.work n x next).next
sync_up p s n x next = up_of (sync_asks p) (sync_asks p s) next (sync_feed p s s.work n x next).besides (sync_feed p s s.work n x next).next (sync_feed p s s.work n x next).to (sync_draws p s n x next)

pub walk_up : (p : Layout) (w : Walk) (n : ℕ) (x : Reply) (next : ℕ) → next ≤ (walk_feed p w w.job n x next).next
walk_up p w n x next = up_of walk_asks (walk_asks w) next (walk_feed p w w.job n x next).besides (walk_feed p w w.job n x next).next (walk_feed p w w.job n x next).to (walk_draws p w n x next)

pub walk_again_up : (p : Layout) (w : Walk) (next : ℕ) → next ≤ (walk_again p w next).next
walk_again_up p w next = up_of walk_asks [] next (walk_again p w next).besides (walk_again p w next).next (walk_again p w next).to (walk_again_draws p w next)

pub append_up : (p : Layout) (a : Append) (n : ℕ) (x : Reply) (next : ℕ) → next ≤ (append_feed p a a.work n x next).next
append_up p a n x next = up_of (append_asks p) (append_asks p a) next (append_feed p a a.work n x next).besides (append_feed p a a.work n x next).next (append_feed p a a.work n x next).to (append_draws p a n x next)

pub append_again_up : (p : Layout) (a : Append) (next : ℕ) → next ≤ (append_again p a next).next
append_again_up p a next = up_of (append_asks p) [] next (append_again p a next).besides (append_again p a next).next (append_again p a next).to (append_again_draws p a next)

-- Trims.

-- one of these machines ended at a trim
pub record MetBy (Has : CellJob → Type 0) (n : ℕ) (x : Reply) (next b : ℕ) : Type 0 where
  pub job : CellJob
  pub has : Has job
  pub ends : (cell_feed job n x next).to ≡ Ends (Gone b)

abbrev pub Met : (CellJob → Type 0) → ℕ → Reply → ℕ → ℕ → Type 0
Met Has n x next g = (g ≡ 0) ⊎ MetBy Has n x next g

-- the cells that a machine reads or puts
abbrev pub SyncHas : SyncWork → CellJob → Type 0
SyncHas w j = (a : Answer) × (w ≡ Settling a j)

abbrev pub WalkHas : Option CellJob → CellJob → Type 0
WalkHas o j = o ≡ Some j

abbrev pub AppendHas : AppendWork → CellJob → Type 0
AppendHas w j = (w ≡ Putting j) ⊎ (w ≡ Judging j)

sync_turn : (n : ℕ) (x : Reply) (next : ℕ) (p : Layout) (s : Sync) (t : SyncTurn) → syncs.Fed p n x next s t → Met (SyncHas s.work) n x next t.gone
sync_turn n x next p _ _ (syncs.SettleGone os a j b e) = inr (record { job = j; has = (a, refl); ends = e })
sync_turn n x next p _ _ came = inl refl

append_turn : (n : ℕ) (x : Reply) (next : ℕ) (p : Layout) (a : Append) (t : AppendTurn) → appends.Fed p n x next a t → Met (AppendHas a.work) n x next t.gone
append_turn n x next p _ _ (appends.PutGone d t j b e) = inr (record { job = j; has = inl refl; ends = e })
append_turn n x next p _ _ (appends.JudgeGone d t j b e) = inr (record { job = j; has = inr refl; ends = e })
append_turn n x next p _ _ came = inl refl

-- a walk that goes on over known cells meets none

pub walks_none : (p : Layout) (next : ℕ) (w : Walk) → (walk_from p next w).gone ≡ 0
walks_none p next w = goes_on p next (λ v. Unit {0}) (λ t. t.gone ≡ 0) (λ v q c e f k. tt) (λ v k. refl) (λ v q e f k. refl) _ w tt

pub walk_again_none : (p : Layout) (w : Walk) (next : ℕ) → (walk_again p w next).gone ≡ 0
walk_again_none p w next = walks_none p next w

module _ (n : ℕ) (x : Reply) (next : ℕ) where
  pub sync_met : (p : Layout) (s : Sync) → Met (SyncHas s.work) n x next (sync_feed p s s.work n x next).gone
  sync_met p s = sync_turn n x next p s _ (syncs.sync_fed p n x next s)

  pub append_met : (p : Layout) (a : Append) → Met (AppendHas a.work) n x next (append_feed p a a.work n x next).gone
  append_met p a = append_turn n x next p a _ (appends.append_fed p n x next a)

  pub walk_met : (p : Layout) (w : Walk) → Met (WalkHas w.job) n x next (walk_feed p w w.job n x next).gone
  walk_met p w = by w.job _ (walk_came p w n x next w.job)
    where
      by : (o : Option CellJob) (t : WalkTurn) → WalkCame p w n x next o t → Met (WalkHas o) n x next t.gone
      by _ _ (HasRead j c e) = inl (walks_none p (cell_feed j n x next).next (read_at w j.place.pos c))
      by _ _ (MetTrim j b e) = inr (record { job = j; has = refl; ends = e })
      by _ _ y = inl refl

-- an append that goes on in a newer layout meets none
again_none : (q : Layout) (next : ℕ) (a : Append) (t : AppendTurn) → appends.Anew q next a t → t.gone ≡ 0
again_none q next _ _ (appends.HasNone d w) = refl
again_none q next _ _ came = refl

pub append_again_none : (q : Layout) (a : Append) (next : ℕ) → (append_again q a next).gone ≡ 0
append_again_none q a next = again_none q next a _ (appends.append_anew q next a)
