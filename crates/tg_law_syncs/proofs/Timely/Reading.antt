-- What a client has read, as a log of its own: with each answer it has a cell more at the most.
use Rattle.std.proofs.Common.{◌≡◌, ◌⊎◌, ℕ, ◌-◌, Bool, true, false, refl, sym, ap, ◌∙◌, subst, inl, inr, arith, Option, Some, None, cond, eqb}
use Rattle.tg_base.specs.Layouts.{Layout}
use Rattle.tg_base.specs.declared.cell.Cell.{Cell}
use Rattle.tg_kind.specs.Meaning.{Meaning}
use Rattle.tg_protocol.specs.Words.{cell_at, with_cell}
use Rattle.tg_protocol.specs.Requests.{Next, Goes, Learns, Ends}
use Rattle.tg_protocol.specs.Replies.{Reply}
use Rattle.tg_protocol.specs.Cells.{CellJob, CellEnd, Done, Seen, Lost, Fenced, Gone, cell_feed}
use Rattle.tg_protocol.specs.Appending.{AppendWork, Asking, Putting, Judging}
use Rattle.tg_protocol.specs.Syncing.{Answer, Settling, Sync, SyncTurn, confirmed, sync_feed}
use Rattle.tg_protocol.specs.Logs.{Log}
use Rattle.tg_protocol.specs.Clients.{Task, Syncing, Walking, Appending, Trimming, Copying', Reconfiguring, Hand, Doing, Learning, Work, Client, work_cells, hand_cells, task_cells}
use Rattle.tg_protocol.specs.ClientSteps.{task_in}
use Rattle.tg_law_steps.proofs.Machines.Syncs.{Fed, SettleDone, ProbeSeen, sync_fed}
use Rattle.tg_law_walks.specs.Walks.Streams.{AreKnown}
use Rattle.tg_law_walks.specs.Walks.Walks.{EndsAs, JobEndsAs}
use Rattle.tg_law_walks.proofs.Walks.Cells.{cell_stored, cell_here, known_at}
use Rattle.tg_law_syncs.proofs.Known.Landing.{AppendEndsAs}
use Rattle.tg_law_syncs.proofs.Known.Knowing.{Knows, WorkKnows, TaskKnows, Settles}

pub some_cell : (a b : Cell) → Some a ≡ Some b → a ≡ b
some_cell a b e = cc

same_pair : (x y : ℕ × Cell) → Some x ≡ Some y → x ≡ y
same_pair x y e = cc

no_pair : (x : ℕ × Cell) → None ≡ Some x → ⊥
no_pair x e = cc

same_position : (a b : ℕ) → eqb a b ≡ true → a ≡ b
same_position a b e = grind arith

-- each cell of one log is of the other
abbrev pub IsWithin : Log → Log → Type 0
IsWithin l more = (q : ℕ) (c : Cell) → cell_at l q ≡ Some c → cell_at more q ≡ Some c

-- Of cells of which there is one at a position.
module _ (S : ℕ → Cell → Type 0) (one : (q : ℕ) (c d : Cell) → S q c → S q d → c ≡ d) where
  abbrev pub AreAll : Log → Type 0
  AreAll l = (q : ℕ) (c : Cell) → cell_at l q ≡ Some c → S q c

  -- what was heard is of a log that has what was read before
  pub record Learnt (l : Log) (H : Log → Type 0) : Type 0 where
    pub more : Log
    pub each : AreAll more
    pub within : IsWithin l more
    pub heard : H more

  module _ (l : Log) (all : AreAll l) where
    pub still : (H : Log → Type 0) → H l → Learnt l H
    still H x = record { more = l; each = all; within = λ q c e. e; heard = x }

    pub reads : (H : Log → Type 0) (p : ℕ) (d : Cell) → S p d → H (with_cell l p d) → Learnt l H
    reads H p d s x = record {
      more = with_cell l p d;
      each = λ q c e. new q c (eqb q p) refl (sym (cell_stored l p d q) ∙ e);
      within = λ q c e. cell_stored l p d q ∙ old q c e (eqb q p) refl;
      heard = x;
    }
      where
        new : (q : ℕ) (c : Cell) (b : Bool) → eqb q p ≡ b → cond b (Some d) (cell_at l q) ≡ Some c → S q c
        new q c true i e = subst (λ (y : Cell). S q y) (some_cell d c e) (subst (λ (n : ℕ). S n d) (sym (same_position q p i)) s)
        new q c false i e = all q c e

        old : (q : ℕ) (c : Cell) → cell_at l q ≡ Some c → (b : Bool) → eqb q p ≡ b → cond b (Some d) (cell_at l q) ≡ Some c
        old q c e true i = ap (λ (y : Cell). Some y) (one p d c s (subst (λ (n : ℕ). S n c) (same_position q p i) (all q c e)))
        old q c e false i = e

    -- the cell that a machine ends with
    pub ends_learn : (q : ℕ) (to : Next CellJob CellEnd) → ((d : Cell) → to ≡ Ends (Done d) → S q d) → Learnt l (λ y. EndsAs y q to)
    ends_learn q (Ends (Done d)) f = reads (λ y. EndsAs y q (Ends (Done d))) q d (f d refl) (cell_here l q d)
    ends_learn q (Ends Seen) f = still (λ y. EndsAs y q (Ends Seen)) tt
    ends_learn q (Ends (Lost c)) f = still (λ y. EndsAs y q (Ends (Lost c))) tt
    ends_learn q (Ends (Fenced u e)) f = still (λ y. EndsAs y q (Ends (Fenced u e))) tt
    ends_learn q (Ends (Gone b)) f = still (λ y. EndsAs y q (Ends (Gone b))) tt
    ends_learn q (Goes j) f = still (λ y. EndsAs y q (Goes j)) tt
    ends_learn q (Learns j) f = still (λ y. EndsAs y q (Learns j)) tt

    module _ (n : ℕ) (x : Reply) (next : ℕ) where
      -- of a walk
      pub walk_learns : (o : Option CellJob) → ((j : CellJob) (d : Cell) → o ≡ Some j → (cell_feed j n x next).to ≡ Ends (Done d) → S j.place.pos d) → Learnt l (λ y. JobEndsAs y o n x next)
      walk_learns None f = still (λ y. JobEndsAs y None n x next) tt
      walk_learns (Some j) f = ends_learn j.place.pos (cell_feed j n x next).to (λ d e. f j d refl e)

      -- of an append
      pub append_learns : (w : AppendWork) → ((j : CellJob) (d : Cell) → (w ≡ Putting j) ⊎ (w ≡ Judging j) → (cell_feed j n x next).to ≡ Ends (Done d) → S j.place.pos d) → Learnt l (λ y. AppendEndsAs y w n x next)
      append_learns (Asking r) f = still (λ y. AppendEndsAs y (Asking r) n x next) tt
      append_learns (Putting j) f = ends_learn j.place.pos (cell_feed j n x next).to (λ d e. f j d (inl refl) e)
      append_learns (Judging j) f = ends_learn j.place.pos (cell_feed j n x next).to (λ d e. f j d (inr refl) e)

      -- of a sync
      module _ (m : Meaning) (p : Layout) where
        -- the cell that it settles is of these
        abbrev SettlesOf : Sync → Type 0
        SettlesOf s = (a : Answer) (j : CellJob) (d : Cell) → s.work ≡ Settling a j → (cell_feed j n x next).to ≡ Ends (Done d) → S (a.tail - 1) d

        sync_turn : (s : Sync) (t : SyncTurn) → Fed p n x next s t → SettlesOf s → Learnt l (λ y. Settles m y t.to)
        sync_turn _ _ (SettleDone os a j c e) f = reads (λ y. Settles m y (Ends (confirmed a (Some (a.tail - 1, c))))) (a.tail - 1) c (f a j c refl e)
            (λ q d i. subst (λ (z : ℕ × Cell). cell_at (with_cell l (a.tail - 1) c) z.0 ≡ Some z.1) (same_pair (a.tail - 1, c) (q, d) i) (cell_here l (a.tail - 1) c))
        sync_turn _ _ (ProbeSeen os a j e) f = still (λ y. Settles m y (Ends (confirmed a None))) (λ q d i. absurd (no_pair (q, d) i))
        sync_turn _ t came f = still (λ y. Settles m y t.to) tt

        pub sync_learns : (s : Sync) → SettlesOf s → Learnt l (λ y. Settles m y (sync_feed p s s.work n x next).to)
        sync_learns s f = sync_turn s _ (sync_fed p n x next s) f

-- What a client knows of a log it knows of a greater one.
module _ (m : Meaning) where
  pub knows_more : (l more : Log) → IsWithin l more → (c : Client m) → Knows m l c → Knows m more c
  knows_more l more on c k = record { cells = λ x i. on x.0 x.1 (k.cells x i); work = by c.work k.work }
    where
      task : (t : Task m) → TaskKnows m l t → TaskKnows m more t
      task (Walking v os) f = λ x i. on x.0 x.1 (f x i)
      task (Appending a y) f = f
      task (Syncing s) f = tt
      task (Trimming t) f = tt
      task (Copying' y) f = tt
      task (Reconfiguring r) f = tt

      by : (w : Option (Work m)) → WorkKnows m l w → WorkKnows m more w
      by None f = tt
      by (Some w) f = task (task_in m w.hand) f

  -- in hand too
  pub in_hand : (l : Log) (c : Client m) → Knows m l c → (q : ℕ) (d : Cell) → cell_at (work_cells m c.work c.cells) q ≡ Some d → cell_at l q ≡ Some d
  in_hand l c k = known_at l (work_cells m c.work c.cells) (by c.work k.work)
    where
      task : (t : Task m) → TaskKnows m l t → AreKnown l (task_cells m t c.cells)
      task (Walking v os) f = f
      task t f = k.cells

      hand : (d : Hand m) → TaskKnows m l (task_in m d) → AreKnown l (hand_cells m d c.cells)
      hand (Doing t) f = task t f
      hand (Learning ws t) f = task t f

      by : (w : Option (Work m)) → WorkKnows m l w → AreKnown l (work_cells m w c.cells)
      by None f = k.cells
      by (Some w) f = hand w.hand f
