-- What holds where a step comes to the end of a command's walks, by what it is told to come to.
use Rattle.std.proofs.Common.{◌≡◌, ℕ, List, [], ◌∷◌, Bool, true, false, refl, ap, ◌∙◌, Option, Some, None}
use Rattle.std.specs.Prelude.{not, ◌&&◌, ◌==◌, nat_lt, slice_get, if◌then◌else◌}
use Rattle.tg_base.specs.Layouts.{Layout}
use Rattle.tg_base.specs.declared.ids.NodeId.{NodeId}
use Rattle.tg_base.specs.declared.ids.Oid.{Oid}
use Rattle.tg_base.specs.declared.ids.Role.{Role}
use Rattle.tg_base.specs.declared.ids.Role.TheVariants as role
use Rattle.tg_base.specs.declared.packet.Packet.{Packet}
use Rattle.tg_kind.specs.Meaning.{Meaning}
use Rattle.tg_model.specs.Kinds.{EventOf}
use Rattle.tg_model.specs.declared.command.Event.TheVariants.{Command as Commands, Deliver, Lose, Tick, Stop}
use Rattle.tg_base.specs.Orders.{node_eq, role_number}
use Rattle.tg_protocol.specs.Words.{layout_id, client_id}
use Rattle.tg_protocol.specs.Requests.{awaits, Next, Goes, Learns, Ends}
use Rattle.tg_protocol.specs.Replies.{Reply, IsLatest, reply}
use Rattle.tg_protocol.specs.Syncing.{Sync, Confirmed, sync_start, sync_feed}
use Rattle.tg_protocol.specs.Walking.{Walk, Members, walk_feed, walk_again}
use Rattle.tg_protocol.specs.Views.{Entries}
use Rattle.tg_protocol.specs.Clients.{Task, Syncing, Walking, Appending, Trimming, Copying', Reconfiguring, Hand, Doing, Learning, Work, Client}
use Rattle.tg_protocol.specs.ClientSteps.{task_awaited, task_in, after_turn, met, takes_back, found_by, start_walk, knows, lo_for, stale, gives_up, given_up_if, stands}
use Rattle.tg_protocol.specs.Worlds.{World, client, runs}
use Rattle.tg_protocol.specs.Walked.{Walked, walks_end, sync_end, trim_end, walked_end, walk_end, task_end, again_end, hand_end, reply_end, work_end, packet_end, walked_in}
use Rattle.tg_law_replies.proofs.History.Members.{both_and, number_same}
use Rattle.tg_law_replies.proofs.Replies.Carried.{both_more}
use Rattle.tg_law_replies.specs.Replies.Steps.{EachWalk, EachSync, EachTrim, EachEnd, EachWalked, EachFeed, EachNewer, EachAwaited, EachHand, EachLatest, EachReply, EachDelivery, EachEvent}

module _ (m : Meaning) (objects : List Oid) (es : Entries) (Q : Client m → Work m → Type 0) where
  -- where walks end, Q holds
  abbrev pub Has : Option (Walked m) → Type 0
  Has end = (y : Walked m) → end ≡ Some y → Q y.client y.work

  -- a stream's walk, and those after it
  next_end : List Oid → Client m → Work m → Oid → Next Walk Members → Option (Walked m)
  next_end os c w o to = elim to as (λ _. Option (Walked m)) [
    | Goes x ↦ None
    | Learns x ↦ None
    | Ends x ↦ walks_end m os (takes_back m c x) (found_by m w o x)
  ]

  walks_end_is : (o : Oid) (os : List Oid) (c : Client m) (w : Work m) → walks_end m (o ∷ os) c w ≡ next_end os c w o (start_walk m c w o).to
  unfolding walks_end next_end
  walks_end_is o os c w = refl

  next_end_is : (o : Oid) (os : List Oid) (c : Client m) (w : Work m) (x : Members) → next_end os c w o (Ends x) ≡ walks_end m os (takes_back m c x) (found_by m w o x)
  unfolding next_end
  next_end_is o os c w x = refl

  over : (os : List Oid) (c : Client m) (w : Work m) → walks_end m [] c w ≡ Some (record { client = c; work = w })
  unfolding walks_end
  over os c w = refl

  walk_ends : (os : List Oid) (c : Client m) (w : Work m) → Has (walks_end m os c w) → EachWalk m objects es Q os c w
  walk_ends [] c w f = f (record { client = c; work = w }) (over [] c w)
  walk_ends (o ∷ os) c w f = λ x is. walk_ends os (takes_back m c x) (found_by m w o x)
      (λ y e. f y (walks_end_is o os c w ∙ (ap (next_end os c w o) is ∙ (next_end_is o os c w x ∙ e))))

  sync_ends : (c : Client m) (w : Work m) (x : Next Sync Confirmed) → Has (sync_end m c w x) → EachSync m objects es Q c w x
  sync_ends c w (Goes s) f = tt
  sync_ends c w (Learns s) f = tt
  sync_ends c w (Ends x) f = walk_ends w.oids (knows m c x.settled) (record w { tail = x.tail; lasts = x.lasts; lo = lo_for m c w.command }) f

  trim_ends : (c : Client m) (w : Work m) (os : List Oid) (s t : Bool) → Has (trim_end m c w os s t) → EachTrim m objects es Q c w os s t
  trim_ends c w os true t f = tt
  trim_ends c w os false true f = walk_ends w.oids c (record w { lo = 0; found = []; trims = [] }) f
  trim_ends c w os false false f = walk_ends os c w f

  end_ends : (c : Client m) (w : Work m) (o : Oid) (os : List Oid) (x : Members) (g : Option ℕ) → Has (walked_end m c w o os x g) → EachEnd m objects es Q c w o os x g
  end_ends c w o os x None f = walk_ends os c w f
  end_ends c w o os x (Some b) f = trim_ends (given_up_if m (gives_up m c w b) c) w os (stale m c w o x b) (gives_up m c w b && not (w.lo == 0)) f

  walked_ends : (c : Client m) (w : Work m) (o : Oid) (os : List Oid) (x : Next Walk Members) → Has (walk_end m c w o os x) → EachWalked m objects es Q c w o os x
  walked_ends c w o os (Goes x) f = tt
  walked_ends c w o os (Learns x) f = tt
  walked_ends c w o os (Ends x) f = end_ends (takes_back m c x) (found_by m w o x) o os x x.gone f

  feed_ends : (c : Client m) (w : Work m) (t : Task m) (n rid : ℕ) (x : Reply) → Has (task_end m c w t n x) → EachFeed m objects es Q c w t n rid x
  feed_ends c w (Syncing s) n rid x f = sync_ends (after_turn m c (sync_feed c.stand s s.work n x c.next)) (met m w (sync_feed c.stand s s.work n x c.next)) (sync_feed c.stand s s.work n x c.next).to f
  feed_ends c w (Walking k os) n rid x f = walked_ends (after_turn m c (walk_feed c.stand k k.job n x c.next)) (met m w (walk_feed c.stand k k.job n x c.next)) k.oid os (walk_feed c.stand k k.job n x c.next).to f
  feed_ends c w (Appending a y) n rid x f = tt
  feed_ends c w (Trimming t) n rid x f = tt
  feed_ends c w (Copying' y) n rid x f = tt
  feed_ends c w (Reconfiguring r) n rid x f = tt

  newer_ends : (c : Client m) (w : Work m) (t : Task m) (q : Layout) → Has (again_end m (stands m c q) w t) → EachNewer m objects es Q c w t q
  unfolding sync_start
  newer_ends c w (Reconfiguring r) q f = tt
  newer_ends c w (Syncing s) q f = tt
  newer_ends c w (Walking k os) q f = walked_ends (after_turn m (stands m c q) (walk_again q k c.next)) (met m w (walk_again q k c.next)) k.oid os (walk_again q k c.next).to f
  newer_ends c w (Appending a y) q f = tt
  newer_ends c w (Trimming t) q f = tt
  newer_ends c w (Copying' y) q f = tt

  awaited_ends : (b : Bool) (c : Client m) (w : Work m) (t : Task m) (from : NodeId) (rid : ℕ) (x : Reply) → Has (if b then task_end m c w t from.num x else None) → EachAwaited m objects es Q b c w t from rid x
  awaited_ends true c w t from rid x f = feed_ends c w t from.num rid x f
  awaited_ends false c w t from rid x f = tt

  hand_ends : (c : Client m) (w : Work m) (d : Hand m) (from : NodeId) (rid : ℕ) (x : Reply) → Has (hand_end m c w d from rid x) → EachHand m objects es Q c w d from rid x
  hand_ends c w (Doing t) from rid x f = awaited_ends (awaits (task_awaited m c.stand t) from rid) c w t from rid x f
  hand_ends c w (Learning ws t) from rid x f = tt

  latest_ends : (b : Bool) (c : Client m) (w : Work m) (q : Layout) → Has (if b then again_end m (stands m c q) w (task_in m w.hand) else None) → EachLatest m objects es Q b c w q
  latest_ends true c w q f = newer_ends c w (task_in m w.hand) q f
  latest_ends false c w q f = tt

  reply_ends : (c : Client m) (w : Work m) (from : NodeId) (rid : ℕ) (x : Reply) → Has (reply_end m c w from rid x) → EachReply m objects es Q c w from rid x
  reply_ends c w from rid (IsLatest q) f = latest_ends (node_eq from (layout_id from.num) && nat_lt c.stand.epoch q.epoch) c w q f
  reply_ends c w from rid x f = hand_ends c w w.hand from rid x f

  delivery_ends : (c : Client m) (o : Option (Work m)) (from : NodeId) (rid : ℕ) (x : Reply) → Has (work_end m c o from rid x) → EachDelivery m objects es Q c o from rid x
  delivery_ends c None from rid x f = tt
  delivery_ends c (Some w) from rid x f = reply_ends c w from rid x f

  same_node : (n : NodeId) → n.role ≡ role.Client → node_eq n (client_id n.num) ≡ true
  unfolding node_eq
  same_node n c = both_and (role_number n.role == 3) (n.num == n.num) (ap (λ (r : Role). role_number r == 3) c) (number_same n.num n.num refl)

  here : (w : World m) (i : ℕ) (p : Packet) → slice_get w.packets i ≡ Some p → p.to.role ≡ role.Client → runs m w p.to ≡ true
      → walked_in m w (Deliver i) p.to.num ≡ work_end m (client m w p.to.num) (client m w p.to.num).work p.from p.rid (reply p.msg)
  here w i p is c on =
      ap (λ (o : Option Packet). packet_end m w p.to.num o) is
      ∙ ap (λ (b : Bool). if b then work_end m (client m w p.to.num) (client m w p.to.num).work p.from p.rid (reply p.msg) else None) (both_and (node_eq p.to (client_id p.to.num)) (runs m w p.to) (same_node p.to c) on)

  -- what holds wherever a step comes to the end of a client's walks
  pub ends_have : (w : World m) (e : EventOf m) → ((k : ℕ) → Has (walked_in m w e k)) → EachEvent m objects es Q w e
  ends_have w (Deliver i) f = λ x at is on.
      delivery_ends (client m w x.to.num) (client m w x.to.num).work x.from x.rid (reply x.msg) (λ y e. f x.to.num y (here w i x at is on ∙ e))
  ends_have w (Commands k x) f = tt
  ends_have w (Lose i) f = tt
  ends_have w (Tick n) f = tt
  ends_have w (Stop n) f = tt

-- where walks end so, P gives Q
abbrev pub Gives : (m : Meaning) → (Client m → Work m → Type 0) → (Client m → Work m → Type 0) → Option (Walked m) → Type 0
Gives m P Q end = (y : Walked m) → end ≡ Some y → P y.client y.work → Q y.client y.work

pub event_ends : (m : Meaning) (objects : List Oid) (es : Entries) (P Q : Client m → Work m → Type 0) (w : World m) (e : EventOf m) → ((k : ℕ) → Gives m P Q (walked_in m w e k)) → EachEvent m objects es P w e → EachEvent m objects es Q w e
event_ends m objects es P Q w e f p = both_more m objects es (λ c x. P c x → Q c x) Q P (λ c x g k. g k) w e (ends_have m objects es (λ c x. P c x → Q c x) w e f) p
