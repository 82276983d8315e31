-- An ask that waits is answered at the tail for which its client walks.
use Rattle.std.proofs.Common.{◌≡◌, ◌⊎◌, ℕ, [], refl, sym, ◌∙◌, subst, inl, inr, Option, Some}
use Rattle.tg_base.specs.Layouts.{Layout}
use Rattle.tg_base.specs.declared.ids.NodeId.{NodeId}
use Rattle.tg_base.specs.declared.msg.Msg.{Msg}
use Rattle.tg_kind.specs.Meaning.{Meaning}
use Rattle.tg_protocol.specs.Replies.{reply}
use Rattle.tg_protocol.specs.Appending.{append_start}
use Rattle.tg_protocol.specs.Syncing.{SyncWork, Checking, sync_start}
use Rattle.tg_protocol.specs.Transactions.{Tx, tx_read}
use Rattle.tg_protocol.specs.Views.{view_version}
use Rattle.tg_protocol.specs.Clients.{Hand, Work, Client}
use Rattle.tg_protocol.specs.Answers.{Moved, appends, syncs}
use Rattle.tg_protocol.specs.ClientSteps.{task_in, client_deliver}
use Rattle.tg_law_steps.proofs.Places.{Place, Feeds, Newer, OnSync, OnWalk, Over, Walks, Plays}
use Rattle.tg_law_steps.proofs.Ways.{Way, FeedsSync, FeedsWalk, FeedsAppend, FeedsTrims, FeedsCopy, FeedsReconf, NewerSync, NewerAppend, NewerTrims, NewerCopy, NewerReconf, AllWalked, HasPlayed, LooksBack, IsRescue}
use Rattle.tg_law_steps.proofs.Ends as end
use Rattle.tg_law_steps.proofs.Along.{delivered, over_walks}
use Rattle.tg_law_replies.proofs.Books.Effects.{IsAsk}
use Rattle.tg_law_walks.proofs.Drafts.Became.{same_some}
use Rattle.tg_law_syncs.proofs.Follow.Looks.{IsWalk, took_tx, snapshot_is}
use Rattle.tg_law_headline.proofs.Spans.Turns.{NextOk, TaskTold, LearnTold, HandTold, WorkTold, ClientTold, ClientHears, TaskHears, learn_of}

-- A turn of a client that walks for an ask, where R holds of the tail at which it is answered.
module _ (m : Meaning) (R : ℕ → Type 0) (tx : Option Tx) where
  -- the transaction is the one before, or its snapshot is such a tail
  abbrev pub AskedFor : Client m → Type 0
  AskedFor r = (r.tx ≡ tx) ⊎ ((t : Tx) (s : ℕ) → r.tx ≡ Some t → t.snapshot ≡ Some s → R s)

  abbrev At : Work m → Place m → Type 0
  At w (Feeds t n rid x) = IsWalk m t
  At w (Newer t n rid q) = IsWalk m t
  At w (OnSync bs to) = Unit {0}
  At w (OnWalk o os to) = Unit {0}
  At w (Over o os x g) = Unit {0}
  At w (Walks os) = Unit {0}
  At w (Plays es p) = R w.tail
  At w p = ⊥

  pub record Asks (c : Client m) (w : Work m) (p : Place m) : Type 0 where
    pub ask : IsAsk m w.command
    pub same : c.tx ≡ tx
    pub at : At w p

  pub asks_way : (c : Client m) (w : Work m) (p : Place m) (d : Client m) (v : Work m) (q : Place m) → Way m c w p d v q → Asks c w p → Asks d v q
  asks_way c w _ _ _ _ (FeedsAppend a y n rid x) h = absurd h.at
  asks_way c w _ _ _ _ (FeedsTrims t n rid x) h = absurd h.at
  asks_way c w _ _ _ _ (FeedsCopy y n rid x) h = absurd h.at
  asks_way c w _ _ _ _ (FeedsReconf r n rid x) h = absurd h.at
  asks_way c w _ _ _ _ (NewerAppend a y n rid q) h = absurd h.at
  asks_way c w _ _ _ _ (NewerTrims t n rid q) h = absurd h.at
  asks_way c w _ _ _ _ (NewerCopy x n rid q f) h = absurd h.at
  asks_way c w _ _ _ _ (NewerReconf r n rid q) h = absurd h.at
  asks_way c w _ _ _ _ x h = record { ask = h.ask; same = h.same; at = tt }

  pub asks_walked : (c : Client m) (w : Work m) (d : Client m) (q : Place m) → AllWalked m c w d q → Asks c w (Walks []) → R w.tail → Asks d w q
  asks_walked c w _ _ (HasPlayed k) h r = record { ask = h.ask; same = h.same; at = r }
  asks_walked c w _ _ (LooksBack at o q of) h r = absurd (subst (IsAsk m) of h.ask)
  asks_walked c w _ _ (IsRescue at of) h r = absurd (subst (IsAsk m) of h.ask)

  pub asks_ends : (c : Client m) (w : Work m) (p : Place m) (x : Moved m) → end.End m c w p x → Asks c w p → AskedFor x.now
  unfolding appends append_start syncs sync_start
  asks_ends c w _ _ (end.Refuses d n why (end.RecordForgotten y bs p b of)) h = absurd h.at
  asks_ends c w _ _ (end.Refuses d n why x) h = inl h.same
  asks_ends c w _ _ (end.Answers d n what (end.IsAsked es p o q upto t s of a has is)) h = inr (λ u k now snap.
      subst R (sym (snapshot_is m (tx_read t (record { oid = o; part = m.look q; version = view_version m p.view o (m.look q) }) w.tail) u w.tail k (sym (took_tx m d c.view) ∙ now) refl snap)) h.at)
  asks_ends c w _ _ (end.Answers d n what (end.JudgedSo _ bs p page of)) h = absurd h.at
  asks_ends c w _ _ (end.Answers d n what (end.JudgedLost _ bs e l of)) h = absurd h.at
  asks_ends c w _ _ (end.Answers d n what (end.EndBlocked es p q x of a)) h = absurd (subst (IsAsk m) of h.ask)
  asks_ends c w _ _ (end.Answers d n what (end.EndUnsure es p upto of a k)) h = absurd (subst (IsAsk m) of h.ask)
  asks_ends c w _ _ (end.Answers d n what (end.EndJudged es p upto e so _ of a i j l)) h = absurd (subst (IsAsk m) of h.ask)
  asks_ends c w _ _ (end.Answers d n what x) h = inl (took_tx m d d.view ∙ h.same)
  asks_ends c w _ _ (end.Tells d ns (end.IsCommitted bs p page)) h = absurd h.at
  asks_ends c w _ _ (end.Tells d ns (end.IsMarked n o mark bs p page)) h = absurd h.at
  asks_ends c w _ _ (end.Tells d ns x) h = inl h.same
  asks_ends c w _ _ (end.GoesOn d t bs (end.SyncGoes _ s)) h = inl h.same
  asks_ends c w _ _ (end.GoesOn d t bs x) h = inl h.same
  asks_ends c w _ _ (end.LearnsNewer t x) h = inl h.same
  asks_ends c w _ _ (end.Syncs d v os (end.JudgedAt bs p page)) h = inl h.same
  asks_ends c w _ _ (end.Syncs d v os x) h = inl h.same
  asks_ends c w _ _ (end.Appends d e y ns (end.RescueDecides at so r k i)) h = inl h.same
  asks_ends c w _ _ (end.Appends d e y ns x) h = inl h.same

-- Where the tail is one with which its sync has ended.
module _ (m : Meaning) (SyncOk : Layout → SyncWork → Type 0) (Past : ℕ → Type 0) (begun : (p : Layout) (r : ℕ) → SyncOk p (Checking r)) where
  -- the transaction is the one before, or its snapshot is such a tail
  abbrev pub AskedAt : Option Tx → Client m → Type 0
  AskedAt tx r = AskedFor m Past tx r

  abbrev Tail : Client m → Work m → Place m → Type 0
  Tail c w (Feeds t n rid x) = TaskTold m SyncOk Past begun c.stand w.tail t × TaskHears m SyncOk Past begun c t n x
  Tail c w (Newer t n rid q) = LearnTold m SyncOk Past begun w.tail t
  Tail c w (OnSync bs to) = NextOk m SyncOk Past begun c.stand to
  Tail c w (OnWalk o os to) = Past w.tail
  Tail c w (Over o os x g) = Past w.tail
  Tail c w (Walks os) = Past w.tail
  Tail c w p = Unit {0}

  module _ (tx : Option Tx) where
    record Along (c : Client m) (w : Work m) (p : Place m) : Type 0 where
      pub asks : Asks m Past tx c w p
      pub tail : Tail c w p

    tail_way : (c : Client m) (w : Work m) (p : Place m) (d : Client m) (v : Work m) (q : Place m) → Way m c w p d v q → Tail c w p → Tail d v q
    unfolding sync_start
    tail_way c w _ _ _ _ (FeedsSync s n rid x) h = h.1
    tail_way c w _ _ _ _ (FeedsWalk k os n rid x) h = h.0
    tail_way c w _ _ _ _ (FeedsAppend a y n rid x) h = tt
    tail_way c w _ _ _ _ (FeedsTrims t n rid x) h = tt
    tail_way c w _ _ _ _ (FeedsCopy y n rid x) h = tt
    tail_way c w _ _ _ _ (FeedsReconf r n rid x) h = tt
    tail_way c w _ _ _ _ (NewerSync s n rid q) h = begun q c.next
    tail_way c w _ _ _ _ x h = h

    way : (c : Client m) (w : Work m) (p : Place m) (d : Client m) (v : Work m) (q : Place m) → Way m c w p d v q → Along c w p → Along d v q
    way c w p d v q x h = record { asks = asks_way m Past tx c w p d v q x h.asks; tail = tail_way c w p d v q x h.tail }

    all_walked : (c : Client m) (w : Work m) (d : Client m) (q : Place m) → AllWalked m c w d q → Along c w (Walks []) → Along d w q
    all_walked c w _ _ (HasPlayed k) h = record { asks = asks_walked m Past tx c w _ _ (HasPlayed k) h.asks h.tail; tail = tt }
    all_walked c w _ _ (LooksBack at o q of) h = record { asks = asks_walked m Past tx c w _ _ (LooksBack at o q of) h.asks h.tail; tail = tt }
    all_walked c w _ _ (IsRescue at of) h = record { asks = asks_walked m Past tx c w _ _ (IsRescue at of) h.asks h.tail; tail = tt }

    ends : (c : Client m) (w : Work m) (p : Place m) (x : Moved m) → end.End m c w p x → Along c w p → AskedAt tx x.now
    ends c w p x e h = asks_ends m Past tx c w p x e h.asks

  pub deliver_at : (c : Client m) (from : NodeId) (rid : ℕ) (y : Msg) (w : Work m) → c.work ≡ Some w → IsAsk m w.command → IsWalk m (task_in m w.hand) → ClientTold m SyncOk Past begun c → ClientHears m SyncOk Past begun c from rid (reply y) → AskedAt c.tx (client_deliver m c from rid y).now
  unfolding client_deliver
  deliver_at c from rid y w has ask i k g =
      delivered m (Along c.tx) (λ x. AskedAt c.tx x.now) (ends c.tx) (way c.tx) (over_walks m (Along c.tx) (λ x. AskedAt c.tx x.now) (ends c.tx) (all_walked c.tx)) c from rid (reply y) (inl refl)
      (λ v t now doing a other. record {
        asks = record { ask = subst (λ (z : Work m). IsAsk m z.command) (is v now) ask; same = refl; at = subst (λ (d : Hand m). IsWalk m (task_in m d)) doing (walks v now) };
        tail = (subst (λ (d : Hand m). HandTold m SyncOk Past begun c.stand v.tail d) doing (held v now), g v t now doing a);
      })
      (λ v q now latest new. record {
        asks = record { ask = subst (λ (z : Work m). IsAsk m z.command) (is v now) ask; same = refl; at = walks v now };
        tail = learn_of m SyncOk Past begun c.stand v.tail v.hand (held v now);
      })
    where
      is : (v : Work m) → c.work ≡ Some v → w ≡ v
      is v now = same_some w v (sym has ∙ now)

      walks : (v : Work m) → c.work ≡ Some v → IsWalk m (task_in m v.hand)
      walks v now = subst (λ (z : Work m). IsWalk m (task_in m z.hand)) (is v now) i

      held : (v : Work m) → c.work ≡ Some v → HandTold m SyncOk Past begun c.stand v.tail v.hand
      held v now = subst (λ (o : Option (Work m)). WorkTold m SyncOk Past begun c.stand o) now k
