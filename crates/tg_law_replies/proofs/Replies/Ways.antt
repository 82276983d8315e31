-- Along the ways of a client's turn: what holds wherever its walks end is had of each place.
use Rattle.std.proofs.Common.{◌≡◌, ℕ, List, Bool, true, false, refl, sym, ap, ◌∙◌, subst, Option, Some}
use Rattle.std.specs.Prelude.{not, ◌&&◌, ◌==◌, nat_lt}
use Rattle.tg_base.specs.declared.ids.NodeId.{NodeId}
use Rattle.tg_base.specs.declared.ids.Oid.{Oid}
use Rattle.tg_base.specs.Layouts.{Layout}
use Rattle.tg_base.specs.Orders.{node_eq}
use Rattle.tg_kind.specs.Meaning.{Meaning}
use Rattle.tg_protocol.specs.Words.{layout_id}
use Rattle.tg_protocol.specs.Requests.{awaits}
use Rattle.tg_protocol.specs.Replies.{Reply, IsLatest}
use Rattle.tg_protocol.specs.Walking.{Members}
use Rattle.tg_protocol.specs.Views.{Entries}
use Rattle.tg_protocol.specs.Clients.{Task, Hand, Doing, Work, Client}
use Rattle.tg_protocol.specs.ClientSteps.{task_in, task_awaited, stale, gives_up, given_up_if, stands}
use Rattle.tg_law_replies.specs.Replies.Ended.{task_ends, again_ends, awaited_ends, hand_ends, latest_ends, reply_ends, work_ends}
use Rattle.tg_law_replies.specs.Replies.Steps.{EachWalk, EachSync, EachTrim, EachEnd, EachWalked, EachFeed, EachNewer, EachAwaited, EachHand, EachLatest, EachReply, EachDelivery}
use Rattle.tg_law_steps.proofs.Along.{NoLatest}
use Rattle.tg_law_steps.proofs.Places.{Place, Feeds, Newer, OnSync, OnWalk, Over, Walks}
use Rattle.tg_law_steps.proofs.Ways.{Way, EndsAtOnce, MetLow, MetHigh, StartsOver}

-- What holds wherever walks end.
module _ (m : Meaning) (objects : List Oid) (es : Entries) (P : Client m → Work m → Type 0) where
  -- of the ends to which walks come from a place
  abbrev pub EachAt : Client m → Work m → Place m → Type 0
  EachAt c w (Feeds t n rid x) = EachFeed m objects es P c w t n rid x
  EachAt c w (Newer t n rid q) = EachNewer m objects es P c w t q
  EachAt c w (OnSync bs to) = EachSync m objects es P c w to
  EachAt c w (OnWalk o os to) = EachWalked m objects es P c w o os to
  EachAt c w (Over o os x g) = EachEnd m objects es P c w o os x g
  EachAt c w (Walks os) = EachWalk m objects es P os c w
  EachAt c w p = Unit {0}

  met_so : (c : Client m) (w : Work m) (o : Oid) (os : List Oid) (x : Members) (b : ℕ) (g s z : Bool) → gives_up m c w b ≡ g → stale m c w o x b ≡ s → (w.lo == 0) ≡ z → EachEnd m objects es P c w o os x (Some b)
      → EachTrim m objects es P (given_up_if m g c) w os s (g && not z)
  met_so c w o os x b g s z e f k h =
      subst (λ (y : Bool). EachTrim m objects es P (given_up_if m g c) w os s (g && not y)) k
      (subst (λ (y : Bool). EachTrim m objects es P (given_up_if m g c) w os y (g && not (w.lo == 0))) f
      (subst (λ (y : Bool). EachTrim m objects es P (given_up_if m y c) w os (stale m c w o x b) (y && not (w.lo == 0))) e h))

  -- and so of the next place
  pub each_way : (c : Client m) (w : Work m) (p : Place m) (d : Client m) (v : Work m) (q : Place m) → Way m c w p d v q → EachAt c w p → EachAt d v q
  each_way c w _ _ _ _ (EndsAtOnce o os x e) h = h x e
  each_way c w _ _ _ _ (MetLow o os x b e f) h = met_so c w o os x b false false (w.lo == 0) e f refl h
  each_way c w _ _ _ _ (MetHigh o os x b e f k) h = met_so c w o os x b true false true e f (subst (λ (n : ℕ). (n == 0) ≡ true) (sym k) refl) h
  each_way c w _ _ _ _ (StartsOver o os x b e f k) h = met_so c w o os x b true false false e f k h
  each_way c w _ _ _ _ x h = h

  -- A delivery.
  module _ (c : Client m) (from : NodeId) (rid : ℕ) (x : Reply) (each : EachDelivery m objects es P c c.work from rid x) where
    each_reply : (w : Work m) → c.work ≡ Some w → EachReply m objects es P c w from rid x
    each_reply w has = subst (λ (o : Option (Work m)). EachDelivery m objects es P c o from rid x) has each

    each_hand : (w : Work m) (y : Reply) → NoLatest y → EachReply m objects es P c w from rid y → EachHand m objects es P c w w.hand from rid y
    each_hand w (IsLatest q) other h = absurd other
    each_hand w y other h = h

    pub each_fed : (w : Work m) (t : Task m) → c.work ≡ Some w → w.hand ≡ Doing t → awaits (task_awaited m c.stand t) from rid ≡ true → NoLatest x → EachFeed m objects es P c w t from.num rid x
    each_fed w t has doing a other =
        subst (λ (b : Bool). EachAwaited m objects es P b c w t from rid x) a
        (subst (λ (d : Hand m). EachHand m objects es P c w d from rid x) doing (each_hand w x other (each_reply w has)))

    pub each_newer : (w : Work m) (q : Layout) → c.work ≡ Some w → x ≡ IsLatest q → (node_eq from (layout_id from.num) && nat_lt c.stand.epoch q.epoch) ≡ true → EachNewer m objects es P c w (task_in m w.hand) q
    each_newer w q has is e = subst (λ (b : Bool). EachLatest m objects es P b c w q) e (subst (EachReply m objects es P c w from rid) is (each_reply w has))

-- How a delivery ends the client's append, where an awaited answer or a newer layout comes.
module _ (m : Meaning) (c : Client m) (from : NodeId) (rid : ℕ) where
  no_layout : (w : Work m) (x : Reply) → NoLatest x → reply_ends m c w from rid x ≡ hand_ends m c w.hand from rid x
  no_layout w (IsLatest q) other = absurd other
  no_layout w x other = refl

  pub end_fed : (x : Reply) (w : Work m) (t : Task m) → c.work ≡ Some w → w.hand ≡ Doing t → awaits (task_awaited m c.stand t) from rid ≡ true → NoLatest x → work_ends m c c.work from rid x ≡ task_ends m c t from.num x
  end_fed x w t has doing a other =
      ap (λ (o : Option (Work m)). work_ends m c o from rid x) has
      ∙ (no_layout w x other ∙ (ap (λ (d : Hand m). hand_ends m c d from rid x) doing ∙ ap (λ (b : Bool). awaited_ends m b c t from x) a))

  pub end_newer : (x : Reply) (w : Work m) (q : Layout) → c.work ≡ Some w → x ≡ IsLatest q → (node_eq from (layout_id from.num) && nat_lt c.stand.epoch q.epoch) ≡ true → work_ends m c c.work from rid x ≡ again_ends m (stands m c q) (task_in m w.hand)
  end_newer x w q has is e =
      ap (λ (o : Option (Work m)). work_ends m c o from rid x) has
      ∙ (ap (λ (y : Reply). reply_ends m c w from rid y) is ∙ ap (λ (b : Bool). latest_ends m b (stands m c q) (task_in m w.hand)) e)
