-- What a client that syncs has of the sequencer's answer, through each of the client's turns.
use Rattle.std.proofs.Common.{◌≡◌, ℕ, ◌-◌, ◌≤◌, List, [], true, false, refl, sym, ◌∙◌, subst, arith, Some, None, Option}
use Rattle.std.specs.Prelude.{Contains, nat_lt}
use Rattle.std.proofs.lemmas.Bool.Decides.{nat_tests}
use Rattle.tg_base.specs.Layouts.{Layout}
use Rattle.tg_base.specs.declared.ids.NodeId.{NodeId}
use Rattle.tg_base.specs.declared.ids.Oid.{Oid}
use Rattle.tg_base.specs.declared.marks.StreamLink.{StreamLink}
use Rattle.tg_base.specs.declared.msg.Msg.{Msg}
use Rattle.tg_kind.specs.Meaning.{Meaning}
use Rattle.tg_model.specs.Kinds.{CommandOf}
use Rattle.tg_protocol.specs.Entries.{link_of, backs_of}
use Rattle.tg_protocol.specs.Requests.{awaits, Next, Goes, Ends}
use Rattle.tg_protocol.specs.Replies.{Reply, reply, IsTail}
use Rattle.tg_protocol.specs.Cells.{CellJob, Gone, cell_feed}
use Rattle.tg_protocol.specs.Appending.{append_start}
use Rattle.tg_protocol.specs.Syncing.{Answer, SyncWork, Checking, Settling, Probing, Sync, Confirmed, sync_start, sync_feed}
use Rattle.tg_protocol.specs.Clients.{Task, Syncing, Hand, Doing, Learning, Work, Client}
use Rattle.tg_protocol.specs.Answers.{Moved, appends, syncs}
use Rattle.tg_protocol.specs.ClientSteps.{task_awaited, client_command, client_deliver, client_tick, tick_by}
use Rattle.tg_protocol.specs.Logs.{Log}
use Rattle.tg_law_layouts.proofs.Moves.Turns.{not_busy}
use Rattle.tg_law_walks.specs.Walks.Streams.{IsGood}
use Rattle.tg_law_walks.proofs.Walks.Turns.{cell_fine}
use Rattle.tg_law_walks.proofs.Walks.Turns as turns
use Rattle.tg_law_steps.proofs.Places.{Place, Feeds, OnSync, Walks}
use Rattle.tg_law_steps.proofs.Ways.{Way, FeedsSync, AllWalked, HasPlayed}
use Rattle.tg_law_steps.proofs.Ends.{SyncGoes, End, GoesOn}
use Rattle.tg_law_steps.proofs.Takes.{Taken, SaidAtOnce, said_work}
use Rattle.tg_law_steps.proofs.Along.{delivered, commanded, over_walks}
use Rattle.tg_law_steps.proofs.Machines.Syncs.{SyncCame, Waits, NewerCame, FillsBelow, ProbesBelow, SettlesOn, IsSettled, ProbesTrimmed, ProbesOn, IsProbed, sync_came}

-- the lists of a sequencer's answer are true of a log, for these streams
abbrev pub IsTrueAnswer : Log → List Oid → Answer → Type 0
IsTrueAnswer l os a = (o : Oid) → Contains os o → IsGood l o a.tail (backs_of (link_of o a.lasts))

-- While the cell below the tail is settled, they are where the tail counts; then it does.
abbrev pub SyncFine : Log → (ℕ → ℕ → Type 0) → ℕ → List Oid → SyncWork → Type 0
SyncFine l counts epoch os (Checking r) = Unit {0}
SyncFine l counts epoch os (Settling a j) = (j.place.pos ≡ a.tail - 1) × (counts epoch a.tail → IsTrueAnswer l os a)
SyncFine l counts epoch os (Probing a j) = IsTrueAnswer l os a

-- what an awaited answer has to tell for that
pub record Heard (l : Log) (counts : ℕ → ℕ → Type 0) (p : Layout) (s : Sync) (n : ℕ) (x : Reply) (next : ℕ) : Type 0 where
  pub tail : (r t : ℕ) (ls : List StreamLink) → s.work ≡ Checking r → x ≡ IsTail t ls → counts p.epoch t → IsTrueAnswer l s.oids (record { tail = t; lasts = ls })
  pub low : (t : ℕ) → t ≤ p.start → counts p.epoch t
  pub gone : (a : Answer) (j : CellJob) (b : ℕ) → s.work ≡ Settling a j → j.place.pos ≡ a.tail - 1 → (cell_feed j n x next).to ≡ Ends (Gone b) → counts p.epoch a.tail

module _ (l : Log) (counts : ℕ → ℕ → Type 0) where
  abbrev pub SyncNext : Layout → Next Sync Confirmed → Type 0
  SyncNext p (Goes s) = SyncFine l counts p.epoch s.oids s.work
  SyncNext p x = Unit {0}

  module _ (p : Layout) (s : Sync) (n : ℕ) (x : Reply) (next : ℕ) (h : Heard l counts p s n x next) where
    not_less : (a b : ℕ) → nat_lt a b ≡ false → b ≤ a
    not_less a b e = grind (arith, nat_tests)

    came_fine : (w : SyncWork) (to : Next Sync Confirmed) → s.work ≡ w → SyncCame p s n x next w to → SyncFine l counts p.epoch s.oids w → SyncNext p to
    came_fine _ _ e (Waits w) k = subst (SyncFine l counts p.epoch s.oids) (sym e) k
    came_fine _ _ e (NewerCame w) k = tt
    came_fine _ _ e (FillsBelow r t ls is names more) k = (refl, h.tail r t ls e is)
    came_fine _ _ e (ProbesBelow r t ls is names less) k = h.tail r t ls e is (h.low t (not_less p.start t less))
    came_fine _ _ e (SettlesOn a j i g) k = (subst (turns.Fine j.place.pos) g (cell_fine j n x next) ∙ k.0, k.1)
    came_fine _ _ e (IsSettled a j c g) k = tt
    came_fine _ _ e (ProbesTrimmed a j b g) k = k.1 (h.gone a j b e k.0 g)
    came_fine _ _ e (ProbesOn a j i g) k = k
    came_fine _ _ e (IsProbed a j g) k = tt

    pub sync_fine : SyncFine l counts p.epoch s.oids s.work → SyncNext p (sync_feed p s s.work n x next).to
    sync_fine f = came_fine s.work _ refl (sync_came p s n x next s.work) f

module _ (m : Meaning) (l : Log) (counts : ℕ → ℕ → Type 0) where
  abbrev pub TaskOk : Layout → Task m → Type 0
  TaskOk p (Syncing s) = SyncFine l counts p.epoch s.oids s.work
  TaskOk p t = Unit {0}

  -- while it learns, a machine knows nothing that is used
  abbrev pub HandOk : Layout → Hand m → Type 0
  HandOk p (Doing t) = TaskOk p t
  HandOk p (Learning ws t) = Unit {0}

  abbrev pub WorkOk : Layout → Option (Work m) → Type 0
  WorkOk p None = Unit {0}
  WorkOk p (Some w) = HandOk p w.hand

  -- what an awaited answer has to tell of a sync
  abbrev pub TaskHeard : Client m → Task m → ℕ → Reply → Type 0
  TaskHeard c (Syncing s) n x = Heard l counts c.stand s n x c.next
  TaskHeard c t n x = Unit {0}

  abbrev pub ClientOk : Client m → Type 0
  ClientOk c = WorkOk c.stand c.work

  -- Along a turn.

  abbrev Fine : Moved m → Type 0
  Fine x = ClientOk x.now

  abbrev At : Client m → Work m → Place m → Type 0
  At c w (Feeds t n rid x) = TaskOk c.stand t × TaskHeard c t n x
  At c w (OnSync bs to) = SyncNext l counts c.stand to
  At c w p = Unit {0}

  way : (c : Client m) (w : Work m) (p : Place m) (d : Client m) (v : Work m) (q : Place m) → Way m c w p d v q → At c w p → At d v q
  unfolding sync_start
  way c w _ _ _ _ (FeedsSync s n rid x) k = sync_fine l counts c.stand s n x c.next k.1 k.0
  way c w _ _ _ _ x k = tt

  walked_way : (c : Client m) (w : Work m) (d : Client m) (q : Place m) → AllWalked m c w d q → At c w (Walks []) → At d w q
  walked_way c w _ _ (HasPlayed of) k = tt
  walked_way c w _ _ x k = tt

  ends_fine : (c : Client m) (w : Work m) (p : Place m) (x : Moved m) → End m c w p x → At c w p → Fine x
  unfolding appends append_start syncs sync_start
  ends_fine c w _ _ (GoesOn _ _ _ (SyncGoes bs s)) k = k
  ends_fine c w _ _ (GoesOn _ _ _ x) k = tt
  ends_fine c w _ _ x k = tt

  takes_fine : (c : Client m) (x : CommandOf m) → c.work ≡ None → (y : Moved m) → Taken m c x y → Fine y
  unfolding appends append_start syncs sync_start
  takes_fine c _ free _ (SaidAtOnce x d ns s) = subst (WorkOk d.stand) (sym (said_work m c x d ns s ∙ free)) tt
  takes_fine c _ free _ x = tt

  -- Turns.

  pub command_fine : (c : Client m) (x : CommandOf m) → ClientOk c → ClientOk (client_command m c x).now
  unfolding client_command
  command_fine c x k = commanded m Fine c x (λ why e. k) (λ e. takes_fine c x (not_busy m c x e))

  pub tick_fine : (c : Client m) → ClientOk c → ClientOk (client_tick m c).now
  unfolding client_tick
  tick_fine c k = by c.work
    where
      by : (w : Option (Work m)) → ClientOk (tick_by m c w).now
      by None = k
      by (Some w) = k

  pub deliver_fine : (c : Client m) (from : NodeId) (rid : ℕ) (y : Msg) → ClientOk c → ((w : Work m) (t : Task m) → c.work ≡ Some w → w.hand ≡ Doing t → awaits (task_awaited m c.stand t) from rid ≡ true → TaskHeard c t from.num (reply y))
      → ClientOk (client_deliver m c from rid y).now
  unfolding client_deliver
  deliver_fine c from rid y k g = delivered m At Fine ends_fine way (over_walks m At Fine ends_fine walked_way) c from rid (reply y) k
      (λ w t has doing a other. (subst (HandOk c.stand) doing (subst (WorkOk c.stand) has k), g w t has doing a)) (λ w q has is a. tt)
