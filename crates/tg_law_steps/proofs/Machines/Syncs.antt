-- What a turn of a sync comes to for an awaited answer, and by which tests.
use Rattle.std.proofs.Common.{◌≡◌, ℕ, ◌+◌, ◌-◌, List, [], ◌∷◌, length, Bool, true, false, refl, Some, None}
use Rattle.std.specs.Prelude.{nat_lt}
use Rattle.tg_base.specs.Layouts.{Layout}
use Rattle.tg_base.specs.declared.cell.Cell.{Cell}
use Rattle.tg_base.specs.declared.ids.Oid.{Oid}
use Rattle.tg_base.specs.declared.marks.StreamLink.{StreamLink}
use Rattle.tg_base.specs.declared.msg.Msg.TheVariants as msg
use Rattle.tg_protocol.specs.Words.{seqr_id}
use Rattle.tg_protocol.specs.Requests.{out, waits_for, Next, Goes, Learns, Ends, Turn, turn, passes, draws, ends, learns, met_gone}
use Rattle.tg_protocol.specs.Replies.{Reply, IsTail, IsOldEpoch}
use Rattle.tg_protocol.specs.Cells.{CellJob, Fills, Probes, CellEnd, Done, Seen, Lost, Fenced, Gone, place_in, works, fill_cell, probe, cell_feed}
use Rattle.tg_protocol.specs.Appending.{names_all, on_older, on_newer}
use Rattle.tg_protocol.specs.Syncing.{Answer, SyncWork, Checking, Settling, Probing, Sync, Confirmed, confirmed, probe_next, settle_next, confirm_by, on_tail, checking_feed, sync_feed}

abbrev pub checking : List Oid → ℕ → Sync
checking os r = record { oids = os; work = Checking r }

abbrev pub settling : List Oid → Answer → CellJob → Sync
settling os a j = record { oids = os; work = Settling a j }

abbrev pub probing : List Oid → Answer → CellJob → Sync
probing os a j = record { oids = os; work = Probing a j }

-- the probe of the chain of the last position below an answer's tail
abbrev pub probe_job : Layout → Answer → ℕ → CellJob
probe_job p a next = works (place_in p (a.tail - 1)) (Probes (waits_for (place_in p (a.tail - 1)).chain next))

-- work on a cell
pub data IsJob (j : CellJob) : SyncWork → Type 0 where
  OfSettle : (a : Answer) → IsJob j (Settling a j)
  OfProbe : (a : Answer) → IsJob j (Probing a j)

module _ (p : Layout) (n : ℕ) (x : Reply) (next : ℕ) where
  pub data Fed : Sync → Turn Sync Confirmed → Type 0 where
    -- a tail is told: its last position is settled, or its chain probed
    SettlesLast : (os : List Oid) (r t : ℕ) (ls : List StreamLink) → x ≡ IsTail t ls → names_all os ls ≡ true → nat_lt p.start t ≡ true
        → Fed (checking os r) (draws next (settling os (record { tail = t; lasts = ls }) (works (place_in p (t - 1)) (Fills next))))
    ProbesLast : (os : List Oid) (r t : ℕ) (ls : List StreamLink) → x ≡ IsTail t ls → names_all os ls ≡ true → nat_lt p.start t ≡ false
        → Fed (checking os r) (turn (next + length (place_in p (t - 1)).chain) (Goes (probing os (record { tail = t; lasts = ls }) (probe_job p (record { tail = t; lasts = ls }) next))))
    -- the sequencer stands at another epoch
    TellsLayout : (os : List Oid) (r e : ℕ) → x ≡ IsOldEpoch e → nat_lt p.epoch e ≡ false → nat_lt e p.epoch ≡ true
        → Fed (checking os r) (record { next = next + 1; besides = out (seqr_id p.seq) next (msg.Learn p) ∷ []; gone = 0; to = Goes (checking os r) })
    LearnsEpoch : (os : List Oid) (r e : ℕ) → x ≡ IsOldEpoch e → nat_lt p.epoch e ≡ true → Fed (checking os r) (learns next (checking os r))
    -- nothing comes of it
    Nothing : (s : Sync) → Fed s (passes next s)
    -- the settling goes on, ends with the last cell, or meets a trim, so that the chain is probed
    SettleGoes : (os : List Oid) (a : Answer) (j k : CellJob) → (cell_feed j n x next).to ≡ Goes k → Fed (settling os a j) (turn (cell_feed j n x next).next (Goes (settling os a k)))
    SettleDone : (os : List Oid) (a : Answer) (j : CellJob) (c : Cell) → (cell_feed j n x next).to ≡ Ends (Done c) → Fed (settling os a j) (ends (cell_feed j n x next).next (confirmed a (Some (a.tail - 1, c))))
    SettleGone : (os : List Oid) (a : Answer) (j : CellJob) (b : ℕ) → (cell_feed j n x next).to ≡ Ends (Gone b)
        → Fed (settling os a j) (met_gone b (turn ((cell_feed j n x next).next + length (place_in p (a.tail - 1)).chain) (Goes (probing os a (probe_job p a (cell_feed j n x next).next)))))
    -- the probing goes on, or ends
    ProbeGoes : (os : List Oid) (a : Answer) (j k : CellJob) → (cell_feed j n x next).to ≡ Goes k → Fed (probing os a j) (turn (cell_feed j n x next).next (Goes (probing os a k)))
    ProbeSeen : (os : List Oid) (a : Answer) (j : CellJob) → (cell_feed j n x next).to ≡ Ends Seen → Fed (probing os a j) (ends (cell_feed j n x next).next (confirmed a None))
    -- the work stays: a unit has left the epoch, or the answer is passed by
    JobLearns : (os : List Oid) (w : SyncWork) (j k : CellJob) → IsJob j w → (cell_feed j n x next).to ≡ Learns k → Fed (record { oids = os; work = w }) (learns (cell_feed j n x next).next (record { oids = os; work = w }))
    JobFenced : (os : List Oid) (w : SyncWork) (j : CellJob) (u e : ℕ) → IsJob j w → (cell_feed j n x next).to ≡ Ends (Fenced u e) → Fed (record { oids = os; work = w }) (learns (cell_feed j n x next).next (record { oids = os; work = w }))
    JobPasses : (os : List Oid) (w : SyncWork) (j : CellJob) (e : CellEnd) → IsJob j w → (cell_feed j n x next).to ≡ Ends e → Fed (record { oids = os; work = w }) (passes (cell_feed j n x next).next (record { oids = os; work = w }))

  module _ (os : List Oid) (r : ℕ) where
    confirm_fed : (t : ℕ) (ls : List StreamLink) (b : Bool) → x ≡ IsTail t ls → names_all os ls ≡ true → nat_lt p.start t ≡ b → Fed (checking os r) (confirm_by p (checking os r) (record { tail = t; lasts = ls }) next b)
    unfolding fill_cell probe
    confirm_fed t ls true is e f = SettlesLast os r t ls is e f
    confirm_fed t ls false is e f = ProbesLast os r t ls is e f

    tail_fed : (t : ℕ) (ls : List StreamLink) (b : Bool) → x ≡ IsTail t ls → names_all os ls ≡ b → Fed (checking os r) (on_tail p (checking os r) (record { tail = t; lasts = ls }) next b)
    tail_fed t ls true is e = confirm_fed t ls (nat_lt p.start t) is e refl
    tail_fed t ls false is e = Nothing (checking os r)

    older_fed : (e : ℕ) (b : Bool) → x ≡ IsOldEpoch e → nat_lt p.epoch e ≡ false → nat_lt e p.epoch ≡ b → Fed (checking os r) (on_older p next (checking os r) b)
    older_fed e true is f g = TellsLayout os r e is f g
    older_fed e false is f g = Nothing (checking os r)

    newer_fed : (e : ℕ) (b : Bool) → x ≡ IsOldEpoch e → nat_lt p.epoch e ≡ b → Fed (checking os r) (on_newer p e next (checking os r) b)
    newer_fed e true is f = LearnsEpoch os r e is f
    newer_fed e false is f = older_fed e (nat_lt e p.epoch) is f refl

    checking_fed : (y : Reply) → x ≡ y → Fed (checking os r) (checking_feed p (checking os r) y next)
    checking_fed (IsTail t ls) is = tail_fed t ls (names_all os ls) is refl
    checking_fed (IsOldEpoch e) is = newer_fed e (nat_lt p.epoch e) is refl
    checking_fed y is = Nothing (checking os r)

  module _ (os : List Oid) (a : Answer) (j : CellJob) where
    settle_fed : (to : Next CellJob CellEnd) → (cell_feed j n x next).to ≡ to → Fed (settling os a j) (settle_next p (settling os a j) a to (cell_feed j n x next).next)
    unfolding probe
    settle_fed (Goes k) e = SettleGoes os a j k e
    settle_fed (Learns k) e = JobLearns os (Settling a j) j k (OfSettle a) e
    settle_fed (Ends (Done c)) e = SettleDone os a j c e
    settle_fed (Ends (Gone b)) e = SettleGone os a j b e
    settle_fed (Ends (Fenced u f)) e = JobFenced os (Settling a j) j u f (OfSettle a) e
    settle_fed (Ends (Lost c)) e = JobPasses os (Settling a j) j (Lost c) (OfSettle a) e
    settle_fed (Ends Seen) e = JobPasses os (Settling a j) j Seen (OfSettle a) e

    probe_fed : (to : Next CellJob CellEnd) → (cell_feed j n x next).to ≡ to → Fed (probing os a j) (probe_next (probing os a j) a to (cell_feed j n x next).next)
    probe_fed (Goes k) e = ProbeGoes os a j k e
    probe_fed (Learns k) e = JobLearns os (Probing a j) j k (OfProbe a) e
    probe_fed (Ends Seen) e = ProbeSeen os a j e
    probe_fed (Ends (Fenced u f)) e = JobFenced os (Probing a j) j u f (OfProbe a) e
    probe_fed (Ends (Done c)) e = JobPasses os (Probing a j) j (Done c) (OfProbe a) e
    probe_fed (Ends (Lost c)) e = JobPasses os (Probing a j) j (Lost c) (OfProbe a) e
    probe_fed (Ends (Gone b)) e = JobPasses os (Probing a j) j (Gone b) (OfProbe a) e

  work_fed : (os : List Oid) (w : SyncWork) → Fed (record { oids = os; work = w }) (sync_feed p (record { oids = os; work = w }) w n x next)
  unfolding sync_feed
  work_fed os (Checking r) = checking_fed os r x refl
  work_fed os (Settling a j) = settle_fed os a j (cell_feed j n x next).to refl
  work_fed os (Probing a j) = probe_fed os a j (cell_feed j n x next).to refl

  pub sync_fed : (s : Sync) → Fed s (sync_feed p s s.work n x next)
  sync_fed s = work_fed s.oids s.work

-- What a sync goes on with or ends with, aside what it asks.
module _ (p : Layout) (s : Sync) (n : ℕ) (x : Reply) (next : ℕ) where
  pub data SyncCame : SyncWork → Next Sync Confirmed → Type 0 where
    Waits : (w : SyncWork) → SyncCame w (Goes s)
    NewerCame : (w : SyncWork) → SyncCame w (Learns s)
    -- a tail is told: the last position below it is filled, or at the layout's start its chain is probed
    FillsBelow : (r t : ℕ) (ls : List StreamLink) → x ≡ IsTail t ls → names_all s.oids ls ≡ true → nat_lt p.start t ≡ true → SyncCame (Checking r) (Goes (settling s.oids (record { tail = t; lasts = ls }) (works (place_in p (t - 1)) (Fills next))))
    ProbesBelow : (r t : ℕ) (ls : List StreamLink) → x ≡ IsTail t ls → names_all s.oids ls ≡ true → nat_lt p.start t ≡ false
        → SyncCame (Checking r) (Goes (probing s.oids (record { tail = t; lasts = ls }) (probe_job p (record { tail = t; lasts = ls }) next)))
    -- that position is settled, or it was trimmed
    SettlesOn : (a : Answer) (j i : CellJob) → (cell_feed j n x next).to ≡ Goes i → SyncCame (Settling a j) (Goes (settling s.oids a i))
    IsSettled : (a : Answer) (j : CellJob) (c : Cell) → (cell_feed j n x next).to ≡ Ends (Done c) → SyncCame (Settling a j) (Ends (confirmed a (Some (a.tail - 1, c))))
    ProbesTrimmed : (a : Answer) (j : CellJob) (b : ℕ) → (cell_feed j n x next).to ≡ Ends (Gone b) → SyncCame (Settling a j) (Goes (probing s.oids a (probe_job p a (cell_feed j n x next).next)))
    -- its chain is probed
    ProbesOn : (a : Answer) (j i : CellJob) → (cell_feed j n x next).to ≡ Goes i → SyncCame (Probing a j) (Goes (probing s.oids a i))
    IsProbed : (a : Answer) (j : CellJob) → (cell_feed j n x next).to ≡ Ends Seen → SyncCame (Probing a j) (Ends (confirmed a None))

came_of : (p : Layout) (n : ℕ) (x : Reply) (next : ℕ) (s : Sync) (t : Turn Sync Confirmed) → Fed p n x next s t → SyncCame p s n x next s.work t.to
came_of p n x next _ _ (SettlesLast os r t ls is e f) = FillsBelow r t ls is e f
came_of p n x next _ _ (ProbesLast os r t ls is e f) = ProbesBelow r t ls is e f
came_of p n x next _ _ (TellsLayout os r e is f g) = Waits (Checking r)
came_of p n x next _ _ (LearnsEpoch os r e is f) = NewerCame (Checking r)
came_of p n x next _ _ (Nothing s) = Waits s.work
came_of p n x next _ _ (SettleGoes os a j k e) = SettlesOn a j k e
came_of p n x next _ _ (SettleDone os a j c e) = IsSettled a j c e
came_of p n x next _ _ (SettleGone os a j b e) = ProbesTrimmed a j b e
came_of p n x next _ _ (ProbeGoes os a j k e) = ProbesOn a j k e
came_of p n x next _ _ (ProbeSeen os a j e) = IsProbed a j e
came_of p n x next _ _ (JobLearns os w j k i e) = NewerCame w
came_of p n x next _ _ (JobFenced os w j u e i f) = NewerCame w
came_of p n x next _ _ (JobPasses os w j e i f) = Waits w

pub sync_came : (p : Layout) (s : Sync) (n : ℕ) (x : Reply) (next : ℕ) (w : SyncWork) → SyncCame p (record s { work = w }) n x next w (sync_feed p (record s { work = w }) w n x next).to
sync_came p s n x next w = came_of p n x next (record s { work = w }) _ (sync_fed p n x next (record s { work = w }))
