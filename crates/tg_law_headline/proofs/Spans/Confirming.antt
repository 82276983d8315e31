-- A sync ends only once a whole chain has served requests of it, with the tail that the sequencer told it.
use Rattle.std.proofs.Common.{◌≡◌, ℕ, ◌-◌, List, refl, sym, ◌∙◌, subst}
use Rattle.tg_base.specs.Layouts.{Layout}
use Rattle.tg_base.specs.declared.marks.StreamLink.{StreamLink}
use Rattle.tg_protocol.specs.Requests.{Next, Goes, Learns, Ends}
use Rattle.tg_protocol.specs.Replies.{Reply, IsTail}
use Rattle.tg_protocol.specs.Cells.{Place, place_in, CellJob, CellEnd, Done, Seen, cell_feed}
use Rattle.tg_protocol.specs.Syncing.{Answer, SyncWork, Checking, Settling, Probing, Sync, Confirmed, SyncTurn, sync_feed}
use Rattle.tg_law_steps.proofs.Machines.Syncs.{probe_job, Fed, SettlesLast, ProbesLast, LearnsEpoch, SettleGoes, SettleDone, SettleGone, ProbeGoes, ProbeSeen, JobLearns, JobFenced, sync_fed}
use Rattle.tg_law_headline.proofs.Spans.Serving.{AllServed, WorkServed, NextServed, WorkHears, cell_served, probe_served}

-- units that have served, tails that were told in a layout, and the tails with which a sync may end
module _ (S : ℕ → ℕ → Type 0) (told : Layout → ℕ → Type 0) (Past : ℕ → Type 0) (past : (p : Layout) (t at : ℕ) → told p t → AllServed S (place_in p at) → Past t) where
  pub record JobServed (p : Layout) (j : CellJob) : Type 0 where
    pub at : ℕ
    pub place : j.place ≡ place_in p at
    pub work : WorkServed S j.place j.work

  abbrev pub SyncServed : Layout → SyncWork → Type 0
  SyncServed p (Checking r) = Unit {0}
  SyncServed p (Settling a j) = told p a.tail × JobServed p j
  SyncServed p (Probing a j) = told p a.tail × JobServed p j

  abbrev pub SyncNext : Layout → Next Sync Confirmed → Type 0
  SyncNext p (Goes s) = SyncServed p s.work
  SyncNext p (Learns s) = Unit {0}
  SyncNext p (Ends x) = Past x.tail

  -- what an answer tells
  pub record Hears (p : Layout) (s : Sync) (n : ℕ) (x : Reply) : Type 0 where
    pub tail : (r t : ℕ) (ls : List StreamLink) → s.work ≡ Checking r → x ≡ IsTail t ls → told p t
    pub settles : (a : Answer) (j : CellJob) → s.work ≡ Settling a j → JobServed p j → WorkHears S j.place j.work n x
    pub probes : (a : Answer) (j : CellJob) → s.work ≡ Probing a j → JobServed p j → WorkHears S j.place j.work n x

  same_job : (p : Layout) (j i : CellJob) → JobServed p j → NextServed S j.place (Goes i) → JobServed p i
  same_job p j i f k = record { at = f.at; place = k.0 ∙ f.place; work = subst (λ (b : Place). WorkServed S b i.work) (sym k.0) k.1 }

  ends_past : (p : Layout) (t : ℕ) (j : CellJob) → JobServed p j → told p t → AllServed S j.place → Past t
  ends_past p t j f k all = past p t f.at k (subst (AllServed S) f.place all)

  probed_job : (p : Layout) (a : Answer) (next : ℕ) → JobServed p (probe_job p a next)
  probed_job p a next = record { at = a.tail - 1; place = refl; work = probe_served S (place_in p (a.tail - 1)) next }

  module _ (p : Layout) (n : ℕ) (x : Reply) (next : ℕ) where
    cell : (j : CellJob) (to : Next CellJob CellEnd) → (cell_feed j n x next).to ≡ to → JobServed p j → WorkHears S j.place j.work n x → NextServed S j.place to
    cell j to e f h = subst (NextServed S j.place) e (cell_served S j n x next f.work h)

    turn_served : (s : Sync) (t : SyncTurn) → Fed p n x next s t → Hears p s n x → SyncServed p s.work → SyncNext p t.to
    turn_served _ _ (SettlesLast os r t ls is names more) h k = (h.tail r t ls refl is, record { at = t - 1; place = refl; work = tt })
    turn_served _ _ (ProbesLast os r t ls is names less) h k = (h.tail r t ls refl is, probed_job p (record { tail = t; lasts = ls }) next)
    turn_served _ _ (LearnsEpoch os r e is later) h k = tt
    turn_served _ _ (SettleGoes os a j i e) h k = (k.0, same_job p j i k.1 (cell j (Goes i) e k.1 (h.settles a j refl k.1)))
    turn_served _ _ (SettleDone os a j c e) h k = ends_past p a.tail j k.1 k.0 (cell j (Ends (Done c)) e k.1 (h.settles a j refl k.1))
    turn_served _ _ (SettleGone os a j b e) h k = (k.0, probed_job p a (cell_feed j n x next).next)
    turn_served _ _ (ProbeGoes os a j i e) h k = (k.0, same_job p j i k.1 (cell j (Goes i) e k.1 (h.probes a j refl k.1)))
    turn_served _ _ (ProbeSeen os a j e) h k = ends_past p a.tail j k.1 k.0 (cell j (Ends Seen) e k.1 (h.probes a j refl k.1))
    turn_served _ _ (JobLearns os w j i of e) h k = tt
    turn_served _ _ (JobFenced os w j u g of e) h k = tt
    turn_served _ _ came h k = k

  pub sync_served : (p : Layout) (s : Sync) (n : ℕ) (x : Reply) (next : ℕ) → Hears p s n x → SyncServed p s.work → SyncNext p (sync_feed p s s.work n x next).to
  sync_served p s n x next h old = turn_served p n x next s _ (sync_fed p n x next s) h old
