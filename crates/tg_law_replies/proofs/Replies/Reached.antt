-- What holds wherever a step's walks end is what holds of the end to which the step comes.
use Rattle.std.proofs.Common.{◌≡◌, ℕ, List, [], ◌∷◌, Bool, true, false, refl, sym, ap, ◌∙◌, subst, arith, Option, Some, None}
use Rattle.std.specs.Prelude.{not, ◌&&◌, ◌==◌, nat_lt, slice_get, if◌then◌else◌}
use Rattle.tg_base.specs.Layouts.{Layout}
use Rattle.tg_base.specs.Orders.{node_eq, role_number}
use Rattle.tg_base.specs.declared.cell.Cell.{Cell}
use Rattle.tg_base.specs.declared.ids.NodeId.{NodeId}
use Rattle.tg_base.specs.declared.ids.Oid.{Oid}
use Rattle.tg_base.specs.declared.ids.Role.{Role}
use Rattle.tg_base.specs.declared.ids.Role.TheVariants as role
use Rattle.tg_base.specs.declared.packet.Out.{Out}
use Rattle.tg_base.specs.declared.packet.Packet.{Packet}
use Rattle.tg_kind.specs.Meaning.{Meaning}
use Rattle.tg_model.specs.Kinds.{EventOf}
use Rattle.tg_model.specs.declared.command.Event.TheVariants.{Command as Commands, Deliver, Lose, Tick, Stop}
use Rattle.tg_protocol.specs.Words.{layout_id, client_id}
use Rattle.tg_protocol.specs.Requests.{awaits, Next, Goes, Learns, Ends}
use Rattle.tg_protocol.specs.Replies.{Reply, IsLatest, reply}
use Rattle.tg_protocol.specs.Syncing.{Sync, Confirmed}
use Rattle.tg_protocol.specs.Walking.{Walk, Members}
use Rattle.tg_protocol.specs.Views.{Entries}
use Rattle.tg_protocol.specs.Clients.{Task, Syncing, Walking, Hand, Doing, Learning, Work, Client}
use Rattle.tg_protocol.specs.ClientSteps.{task_in, task_awaited, knows, lo_for, given_up_if, stale, gives_up}
use Rattle.tg_protocol.specs.Walked.{Walked, walks_end, work_end, packet_end, walked_in}
use Rattle.tg_protocol.specs.Worlds.{World, client, runs}
use Rattle.tg_law_steps.proofs.Places.{Place, Feeds, Newer, OnSync, OnWalk, Over, Walks}
use Rattle.tg_law_steps.proofs.Ways.{Way, FeedsSync, FeedsWalk, NewerSync, NewerWalk, Confirms, Settles, EndsAtOnce, WalkEnds, MetNone, MetLow, MetHigh, StartsOver}
use Rattle.tg_law_steps.proofs.Along.{NoLatest}
use Rattle.tg_law_steps.proofs.Reaches.{reaches, reach_way, reach_fed, reach_newer, Reached, reach_delivered}
use Rattle.tg_law_replies.proofs.History.Members.{and_both, both_and, number_same}
use Rattle.tg_law_replies.proofs.Replies.Ways.{EachAt, each_way, each_fed, each_newer}
use Rattle.tg_law_replies.specs.Replies.Steps.{EachWalk, EachSync, EachTrim, EachEnd, EachWalked, EachAwaited, EachHand, EachLatest, EachReply, EachDelivery, EachEvent}

-- What holds at each place of a turn holds wherever its walks end.
module _ (m : Meaning) (objects : List Oid) (es : Entries) (P : Client m → Work m → Place m → Type 0) (Q : Client m → Work m → Type 0)
    (way : (c : Client m) (w : Work m) (p : Place m) (d : Client m) (v : Work m) (q : Place m) → Way m c w p d v q → P c w p → P d v q) (over : (c : Client m) (w : Work m) → P c w (Walks []) → Q c w) where
  each_walks : (os : List Oid) (c : Client m) (w : Work m) → P c w (Walks os) → EachWalk m objects es Q os c w
  each_walks [] c w h = over c w h
  each_walks (o ∷ os) c w h = λ x e. each_walks os _ _ (way c w _ _ _ _ (EndsAtOnce o os x e) h)

  each_sync : (c : Client m) (w : Work m) (bs : List Out) (to : Next Sync Confirmed) → P c w (OnSync bs to) → EachSync m objects es Q c w to
  each_sync c w bs (Goes s) h = tt
  each_sync c w bs (Learns s) h = tt
  each_sync c w bs (Ends x) h = by x.settled h
    where
      by : (s : Option (ℕ × Cell)) → P c w (OnSync bs (Ends (record { tail = x.tail; lasts = x.lasts; settled = s })))
          → EachWalk m objects es Q w.oids (knows m c s) (record w { tail = x.tail; lasts = x.lasts; lo = lo_for m c w.command })
      by None h = each_walks w.oids _ _ (way c w _ _ _ _ (Confirms bs x.tail x.lasts) h)
      by (Some s) h = each_walks w.oids _ _ (way c w _ _ _ _ (Settles bs x.tail x.lasts s) h)

  each_over : (c : Client m) (w : Work m) (o : Oid) (os : List Oid) (x : Members) (g : Option ℕ) → P c w (Over o os x g) → EachEnd m objects es Q c w o os x g
  each_over c w o os x None h = each_walks os c w (way c w _ _ _ _ (MetNone o os x) h)
  each_over c w o os x (Some b) h = by (gives_up m c w b) (stale m c w o x b) (w.lo == 0) refl refl refl
    where
      zero_is : (n : ℕ) → (n == 0) ≡ true → n ≡ 0
      zero_is n e = grind arith

      by : (g s z : Bool) → gives_up m c w b ≡ g → stale m c w o x b ≡ s → (w.lo == 0) ≡ z → EachTrim m objects es Q (given_up_if m g c) w os s (g && not z)
      by false true z e f k = tt
      by false false z e f k = each_walks os c w (way c w _ _ _ _ (MetLow o os x b e f) h)
      by true true z e f k = tt
      by true false true e f k = each_walks os _ _ (way c w _ _ _ _ (MetHigh o os x b e f (zero_is w.lo k)) h)
      by true false false e f k = each_walks w.oids _ _ (way c w _ _ _ _ (StartsOver o os x b e f k) h)

  each_walk : (c : Client m) (w : Work m) (o : Oid) (os : List Oid) (to : Next Walk Members) → P c w (OnWalk o os to) → EachWalked m objects es Q c w o os to
  each_walk c w o os (Goes x) h = tt
  each_walk c w o os (Learns x) h = tt
  each_walk c w o os (Ends x) h = each_over _ _ o os x x.gone (way c w _ _ _ _ (WalkEnds o os x) h)

  pub each_along : (c : Client m) (w : Work m) (p : Place m) → P c w p → EachAt m objects es Q c w p
  each_along c w (Feeds (Syncing s) n rid x) h = each_sync _ _ _ _ (way c w _ _ _ _ (FeedsSync s n rid x) h)
  each_along c w (Feeds (Walking k os) n rid x) h = each_walk _ _ k.oid os _ (way c w _ _ _ _ (FeedsWalk k os n rid x) h)
  each_along c w (Feeds t n rid x) h = tt
  each_along c w (Newer (Syncing s) n rid q) h = each_sync _ _ _ _ (way c w _ _ _ _ (NewerSync s n rid q) h)
  each_along c w (Newer (Walking k os) n rid q) h = each_walk _ _ k.oid os _ (way c w _ _ _ _ (NewerWalk k os n rid q) h)
  each_along c w (Newer t n rid q) h = tt
  each_along c w (OnSync bs to) h = each_sync c w bs to h
  each_along c w (OnWalk o os to) h = each_walk c w o os to h
  each_along c w (Over o os x g) h = each_over c w o os x g h
  each_along c w (Walks os) h = each_walks os c w h
  each_along c w p h = tt

  pub each_delivered : (c : Client m) (from : NodeId) (rid : ℕ) (x : Reply)
      → ((w : Work m) (t : Task m) → c.work ≡ Some w → w.hand ≡ Doing t → awaits (task_awaited m c.stand t) from rid ≡ true → NoLatest x → P c w (Feeds t from.num rid x))
      → ((w : Work m) (q : Layout) → c.work ≡ Some w → x ≡ IsLatest q → (node_eq from (layout_id from.num) && nat_lt c.stand.epoch q.epoch) ≡ true → P c w (Newer (task_in m w.hand) from.num rid q))
      → EachDelivery m objects es Q c c.work from rid x
  each_delivered c from rid x feeds newer = by c.work refl
    where
      fed : (b : Bool) (w : Work m) (t : Task m) → c.work ≡ Some w → w.hand ≡ Doing t → awaits (task_awaited m c.stand t) from rid ≡ b → NoLatest x → EachAwaited m objects es Q b c w t from rid x
      fed true w t has doing a other = each_along c w (Feeds t from.num rid x) (feeds w t has doing a other)
      fed false w t has doing a other = tt

      hand : (w : Work m) (d : Hand m) → c.work ≡ Some w → w.hand ≡ d → NoLatest x → EachHand m objects es Q c w d from rid x
      hand w (Doing t) has doing other = fed (awaits (task_awaited m c.stand t) from rid) w t has doing refl other
      hand w (Learning ws t) has doing other = tt

      latest : (b : Bool) (w : Work m) (q : Layout) → c.work ≡ Some w → x ≡ IsLatest q → (node_eq from (layout_id from.num) && nat_lt c.stand.epoch q.epoch) ≡ b → EachLatest m objects es Q b c w q
      latest true w q has is e = each_along c w (Newer (task_in m w.hand) from.num rid q) (newer w q has is e)
      latest false w q has is e = tt

      reply_each : (w : Work m) (y : Reply) → c.work ≡ Some w → x ≡ y → EachReply m objects es Q c w from rid y
      reply_each w (IsLatest q) has is = latest (node_eq from (layout_id from.num) && nat_lt c.stand.epoch q.epoch) w q has is refl
      reply_each w y has is = subst (λ (z : Reply). EachHand m objects es Q c w w.hand from rid z) is (hand w w.hand has refl (subst NoLatest (sym is) tt))

      by : (o : Option (Work m)) → c.work ≡ o → EachDelivery m objects es Q c o from rid x
      by None has = tt
      by (Some w) has = reply_each w x has refl

pub same_node : (a b : NodeId) → node_eq a b ≡ true → a ≡ b
unfolding node_eq
same_node a b h = grind arith

-- where a step ends a client's walks, if it does: by the packet that comes to it
pub reach_event : (m : Meaning) (F : Option (Walked m) → Type 0) → F None → (w : World m) (e : EventOf m) (k : ℕ)
    → ((i : ℕ) (p : Packet) → e ≡ Deliver i → slice_get w.packets i ≡ Some p → p.to ≡ client_id k → runs m w p.to ≡ true → F (work_end m (client m w k) (client m w k).work p.from p.rid (reply p.msg))) → F (walked_in m w e k)
reach_event m F none w (Deliver i) k f = by (slice_get w.packets i) refl
  where
    here : (b : Bool) (p : Packet) → slice_get w.packets i ≡ Some p → (node_eq p.to (client_id k) && runs m w p.to) ≡ b → F (if b then work_end m (client m w k) (client m w k).work p.from p.rid (reply p.msg) else None)
    here true p is t = let both = and_both (node_eq p.to (client_id k)) (runs m w p.to) t in f i p refl is (same_node p.to (client_id k) both.0) both.1
    here false p is t = none

    by : (o : Option Packet) → slice_get w.packets i ≡ o → F (packet_end m w k o)
    by None is = none
    by (Some p) is = here (node_eq p.to (client_id k) && runs m w p.to) p is refl
reach_event m F none w e k f = none

own_node : (n : NodeId) → n.role ≡ role.Client → node_eq n (client_id n.num) ≡ true
unfolding node_eq
own_node n c = both_and (role_number n.role == 3) (n.num == n.num) (ap (λ (r : Role). role_number r == 3) c) (number_same n.num n.num refl)

module _ (m : Meaning) (objects : List Oid) (es : Entries) (Q : Client m → Work m → Type 0) where
  -- where walks end, Q holds
  abbrev pub HasAtEnd : Option (Walked m) → Type 0
  HasAtEnd end = (y : Walked m) → end ≡ Some y → Q y.client y.work

  -- From the ends to the step.

  abbrev Has : Client m → Work m → Place m → Type 0
  Has c w p = HasAtEnd (reaches m c w p)

  delivery_has : (c : Client m) (from : NodeId) (rid : ℕ) (x : Reply) → HasAtEnd (work_end m c c.work from rid x) → EachDelivery m objects es Q c c.work from rid x
  unfolding walks_end
  delivery_has c from rid x f =
      each_delivered m objects es Has Q (λ d v p e u q y k z is. k z (reach_way m d v p e u q y ∙ is)) (λ d v k. over d v k) c from rid x
      (λ w t has doing a other y is. f y (reach_fed m c from rid x w t has doing a other ∙ is)) (λ w q has latest new y is. f y (reach_newer m c from rid x w q has latest new ∙ is))
    where
      over : (d : Client m) (v : Work m) → Has d v (Walks []) → Q d v
      over d v k = k (record { client = d; work = v }) refl

  here : (w : World m) (i : ℕ) (p : Packet) → slice_get w.packets i ≡ Some p → p.to.role ≡ role.Client → runs m w p.to ≡ true
      → walked_in m w (Deliver i) p.to.num ≡ work_end m (client m w p.to.num) (client m w p.to.num).work p.from p.rid (reply p.msg)
  here w i p is c on =
      ap (λ (o : Option Packet). packet_end m w p.to.num o) is
      ∙ ap (λ (b : Bool). if b then work_end m (client m w p.to.num) (client m w p.to.num).work p.from p.rid (reply p.msg) else None) (both_and (node_eq p.to (client_id p.to.num)) (runs m w p.to) (own_node p.to c) on)

  -- what holds wherever a step comes to the end of a client's walks
  pub ends_have : (w : World m) (e : EventOf m) → ((k : ℕ) → HasAtEnd (walked_in m w e k)) → EachEvent m objects es Q w e
  ends_have w (Deliver i) f = λ x at is on. delivery_has (client m w x.to.num) x.from x.rid (reply x.msg) (λ y e. f x.to.num y (here w i x at is on ∙ e))
  ends_have w (Commands k x) f = tt
  ends_have w (Lose i) f = tt
  ends_have w (Tick n) f = tt
  ends_have w (Stop n) f = tt

  -- And back.

  abbrev AtEnd : Option (Walked m) → Type 0
  AtEnd end = Reached m (EachAt m objects es Q) Q (each_way m objects es Q) (λ c w h. h) end

  module _ (w : World m) (k : ℕ) where
    delivery : (from : NodeId) (rid : ℕ) (x : Reply) → EachDelivery m objects es Q (client m w k) (client m w k).work from rid x → AtEnd (work_end m (client m w k) (client m w k).work from rid x)
    delivery from rid x h =
        reach_delivered m (EachAt m objects es Q) Q (each_way m objects es Q) (λ c v j. j) (client m w k) from rid x
        (λ v t has doing a other. each_fed m objects es Q (client m w k) from rid x h v t has doing a other) (λ v q has latest new. each_newer m objects es Q (client m w k) from rid x h v q has latest new)

    pub at_end : (e : EventOf m) (y : Walked m) → EachEvent m objects es Q w e → walked_in m w e k ≡ Some y → Q y.client y.work
    at_end e y each is =
        subst AtEnd is
        (reach_event m AtEnd tt w e k
        (λ i p at sent to on. delivery p.from p.rid (reply p.msg)
        (subst (λ (n : ℕ). EachDelivery m objects es Q (client m w n) (client m w n).work p.from p.rid (reply p.msg)) (ap (λ (n : NodeId). n.num) to)
        (subst (λ (z : EventOf m). EachEvent m objects es Q w z) at each p sent (ap (λ (n : NodeId). n.role) to) on))))
