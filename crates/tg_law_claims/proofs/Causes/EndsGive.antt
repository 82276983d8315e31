-- What holds wherever a step comes to the end of a command's walks, holds of the end to which it comes.
use Rattle.std.proofs.Common.{◌≡◌, ℕ, List, [], ◌∷◌, Bool, true, false, refl, sym, subst, arith, Option, Some, None}
use Rattle.std.specs.Prelude.{not, ◌&&◌, ◌==◌, nat_lt, slice_get, if◌then◌else◌}
use Rattle.tg_base.specs.Layouts.{Layout}
use Rattle.tg_base.specs.declared.ids.NodeId.{NodeId}
use Rattle.tg_base.specs.declared.ids.Oid.{Oid}
use Rattle.tg_base.specs.declared.ids.Role.TheVariants as role
use Rattle.tg_base.specs.declared.packet.Packet.{Packet}
use Rattle.tg_kind.specs.Meaning.{Meaning}
use Rattle.tg_model.specs.Kinds.{EventOf}
use Rattle.tg_model.specs.declared.command.Event.TheVariants.{Command as Commands, Deliver, Lose, Tick, Stop}
use Rattle.tg_base.specs.Orders.{node_eq}
use Rattle.tg_protocol.specs.Words.{layout_id, client_id}
use Rattle.tg_protocol.specs.Requests.{awaits, Next, Goes, Learns, Ends}
use Rattle.tg_protocol.specs.Replies.{Reply, IsLatest, reply}
use Rattle.tg_protocol.specs.Syncing.{Sync, Confirmed, sync_feed}
use Rattle.tg_protocol.specs.Walking.{Walk, Members, walk_feed, walk_again}
use Rattle.tg_protocol.specs.Views.{Entries}
use Rattle.tg_protocol.specs.Clients.{Task, Syncing, Walking, Appending, Trimming, Copying', Reconfiguring, Hand, Doing, Learning, Work, Client}
use Rattle.tg_protocol.specs.ClientSteps.{task_awaited, task_in, after_turn, met, takes_back, found_by, start_walk, knows, lo_for, stale, gives_up, given_up_if, stands}
use Rattle.tg_protocol.specs.Worlds.{World, client, runs}
use Rattle.tg_protocol.specs.Walked.{Walked, walks_end, sync_end, trim_end, walked_end, walk_end, task_end, again_end, hand_end, reply_end, work_end, packet_end, walked_in}
use Rattle.tg_law_replies.proofs.History.Members.{and_both}
use Rattle.tg_law_replies.specs.Replies.Steps.{EachWalk, EachSync, EachTrim, EachEnd, EachWalked, EachFeed, EachNewer, EachAwaited, EachHand, EachLatest, EachReply, EachDelivery, EachEvent}

module _ (m : Meaning) (objects : List Oid) (es : Entries) (P : Client m → Work m → Type 0) where
  abbrev pub Holds : Option (Walked m) → Type 0
  Holds None = Unit {0}
  Holds (Some y) = P y.client y.work

  next_ends : (os : List Oid) (c : Client m) (w : Work m) (o : Oid) (to : Next Walk Members) → ((x : Members) → to ≡ Ends x → Holds (walks_end m os (takes_back m c x) (found_by m w o x)))
      → Holds (elim to as (λ _. Option (Walked m)) [
        | Goes x ↦ None
        | Learns x ↦ None
        | Ends x ↦ walks_end m os (takes_back m c x) (found_by m w o x)
      ])
  next_ends os c w o (Goes x) f = tt
  next_ends os c w o (Learns x) f = tt
  next_ends os c w o (Ends x) f = f x refl

  walks_give : (os : List Oid) (c : Client m) (w : Work m) → EachWalk m objects es P os c w → Holds (walks_end m os c w)
  unfolding walks_end
  walks_give [] c w k = k
  walks_give (o ∷ os) c w k = next_ends os c w o (start_walk m c w o).to (λ x is. walks_give os (takes_back m c x) (found_by m w o x) (k x is))

  sync_give : (c : Client m) (w : Work m) (x : Next Sync Confirmed) → EachSync m objects es P c w x → Holds (sync_end m c w x)
  sync_give c w (Goes s) k = tt
  sync_give c w (Learns s) k = tt
  sync_give c w (Ends x) k = walks_give w.oids (knows m c x.settled) (record w { tail = x.tail; lasts = x.lasts; lo = lo_for m c w.command }) k

  trim_give : (c : Client m) (w : Work m) (os : List Oid) (s t : Bool) → EachTrim m objects es P c w os s t → Holds (trim_end m c w os s t)
  trim_give c w os true t k = tt
  trim_give c w os false true k = walks_give w.oids c (record w { lo = 0; found = []; trims = [] }) k
  trim_give c w os false false k = walks_give os c w k

  end_give : (c : Client m) (w : Work m) (o : Oid) (os : List Oid) (x : Members) (g : Option ℕ) → EachEnd m objects es P c w o os x g → Holds (walked_end m c w o os x g)
  end_give c w o os x None k = walks_give os c w k
  end_give c w o os x (Some b) k = trim_give (given_up_if m (gives_up m c w b) c) w os (stale m c w o x b) (gives_up m c w b && not (w.lo == 0)) k

  walked_give : (c : Client m) (w : Work m) (o : Oid) (os : List Oid) (x : Next Walk Members) → EachWalked m objects es P c w o os x → Holds (walk_end m c w o os x)
  walked_give c w o os (Goes x) k = tt
  walked_give c w o os (Learns x) k = tt
  walked_give c w o os (Ends x) k = end_give (takes_back m c x) (found_by m w o x) o os x x.gone k

  task_give : (c : Client m) (w : Work m) (t : Task m) (n rid : ℕ) (x : Reply) → EachFeed m objects es P c w t n rid x → Holds (task_end m c w t n x)
  task_give c w (Syncing s) n rid x k = sync_give (after_turn m c (sync_feed c.stand s s.work n x c.next)) (met m w (sync_feed c.stand s s.work n x c.next)) (sync_feed c.stand s s.work n x c.next).to k
  task_give c w (Walking v os) n rid x k = walked_give (after_turn m c (walk_feed c.stand v v.job n x c.next)) (met m w (walk_feed c.stand v v.job n x c.next)) v.oid os (walk_feed c.stand v v.job n x c.next).to k
  task_give c w (Appending a y) n rid x k = tt
  task_give c w (Trimming t) n rid x k = tt
  task_give c w (Copying' y) n rid x k = tt
  task_give c w (Reconfiguring r) n rid x k = tt

  newer_give : (c : Client m) (w : Work m) (t : Task m) (q : Layout) → EachNewer m objects es P c w t q → Holds (again_end m (stands m c q) w t)
  newer_give c w (Reconfiguring r) q k = tt
  newer_give c w (Syncing s) q k = tt
  newer_give c w (Walking v os) q k = walked_give (after_turn m (stands m c q) (walk_again q v c.next)) (met m w (walk_again q v c.next)) v.oid os (walk_again q v c.next).to k
  newer_give c w (Appending a y) q k = tt
  newer_give c w (Trimming t) q k = tt
  newer_give c w (Copying' x) q k = tt

  awaited_give : (b : Bool) (c : Client m) (w : Work m) (t : Task m) (from : NodeId) (rid : ℕ) (x : Reply) → EachAwaited m objects es P b c w t from rid x → Holds (if b then task_end m c w t from.num x else None)
  awaited_give true c w t from rid x k = task_give c w t from.num rid x k
  awaited_give false c w t from rid x k = tt

  hand_give : (c : Client m) (w : Work m) (d : Hand m) (from : NodeId) (rid : ℕ) (x : Reply) → EachHand m objects es P c w d from rid x → Holds (hand_end m c w d from rid x)
  hand_give c w (Doing t) from rid x k = awaited_give (awaits (task_awaited m c.stand t) from rid) c w t from rid x k
  hand_give c w (Learning ws t) from rid x k = tt

  latest_give : (b : Bool) (c : Client m) (w : Work m) (q : Layout) → EachLatest m objects es P b c w q → Holds (if b then again_end m (stands m c q) w (task_in m w.hand) else None)
  latest_give true c w q k = newer_give c w (task_in m w.hand) q k
  latest_give false c w q k = tt

  reply_give : (c : Client m) (w : Work m) (from : NodeId) (rid : ℕ) (x : Reply) → EachReply m objects es P c w from rid x → Holds (reply_end m c w from rid x)
  reply_give c w from rid (IsLatest q) k = latest_give (node_eq from (layout_id from.num) && nat_lt c.stand.epoch q.epoch) c w q k
  reply_give c w from rid x k = hand_give c w w.hand from rid x k

  work_give : (c : Client m) (o : Option (Work m)) (from : NodeId) (rid : ℕ) (x : Reply) → EachDelivery m objects es P c o from rid x → Holds (work_end m c o from rid x)
  work_give c None from rid x k = tt
  work_give c (Some w) from rid x k = reply_give c w from rid x k

  same_client : (a b : NodeId) → node_eq a b ≡ true → a ≡ b
  unfolding node_eq
  same_client a b h = grind arith

  -- In a step of a world.
  module _ (w : World m) (k : ℕ) where
    handed : (i : ℕ) → EachEvent m objects es P w (Deliver i) → (o : Option Packet) → slice_get w.packets i ≡ o → Holds (packet_end m w k o)
    handed i each None is = tt
    handed i each (Some p) is = by (node_eq p.to (client_id k) && runs m w p.to) refl
      where
        there : p.to ≡ client_id k → runs m w p.to ≡ true → Holds (work_end m (client m w k) (client m w k).work p.from p.rid (reply p.msg))
        there to on = work_give (client m w k) (client m w k).work p.from p.rid (reply p.msg)
            (subst (λ (n : NodeId). EachDelivery m objects es P (client m w n.num) (client m w n.num).work p.from p.rid (reply p.msg)) to (each p is (subst (λ (n : NodeId). n.role ≡ role.Client) (sym to) refl) on))

        by : (b : Bool) → (node_eq p.to (client_id k) && runs m w p.to) ≡ b → Holds (if b then work_end m (client m w k) (client m w k).work p.from p.rid (reply p.msg) else None)
        by false t = tt
        by true t = let g = and_both (node_eq p.to (client_id k)) (runs m w p.to) t in there (same_client p.to (client_id k) g.0) g.1

    ends : (e : EventOf m) → EachEvent m objects es P w e → Holds (walked_in m w e k)
    ends (Deliver i) each = handed i each (slice_get w.packets i) refl
    ends (Commands n x) each = tt
    ends (Lose i) each = tt
    ends (Tick n) each = tt
    ends (Stop n) each = tt

    pub ends_give : (e : EventOf m) (y : Walked m) → EachEvent m objects es P w e → walked_in m w e k ≡ Some y → P y.client y.work
    ends_give e y each is = subst Holds is (ends e each)
