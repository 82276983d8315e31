-- Where the walks of a step end, if nothing is asked of it.
use Rattle.std.proofs.Common.{ℕ, List, [], ◌∷◌, Bool, true, false, Option, Some, None}
use Rattle.std.specs.Prelude.{nat_lt, not, ◌==◌, ◌&&◌}
use Rattle.tg_base.specs.Clusters.{Header}
use Rattle.tg_base.specs.Layouts.{Layout}
use Rattle.tg_base.specs.Orders.{node_eq}
use Rattle.tg_base.specs.declared.ids.NodeId.{NodeId}
use Rattle.tg_base.specs.declared.ids.Oid.{Oid}
use Rattle.tg_kind.specs.Meaning.{Meaning}
use Rattle.tg_model.specs.Kinds.{EventOf}
use Rattle.tg_model.specs.declared.command.Event.TheVariants.{Command as Commands, Deliver, Lose, Tick, Stop}
use Rattle.tg_protocol.specs.Words.{layout_id}
use Rattle.tg_protocol.specs.Requests.{awaits, Next, Goes, Learns, Ends}
use Rattle.tg_protocol.specs.Replies.{Reply, IsLatest, reply}
use Rattle.tg_protocol.specs.Syncing.{Sync, Confirmed, sync_feed, sync_again}
use Rattle.tg_protocol.specs.Walking.{Walk, Members, walk_feed, walk_again}
use Rattle.tg_protocol.specs.Views.{Entries}
use Rattle.tg_protocol.specs.Clients.{Task, Syncing, Walking, Appending, Trimming, Copying', Reconfiguring, Hand, Doing, Learning, Work, Client}
use Rattle.tg_protocol.specs.ClientSteps.{task_awaited, task_in, after_turn, met, takes_back, given_up_if, found_by, stale, gives_up, stands}
use Rattle.tg_protocol.specs.Worlds.{World, start, client}
use Rattle.tg_protocol.specs.Runs.{Moves, run}
use Rattle.tg_law_layouts.specs.Moves.After.{after}
use Rattle.tg_law_replies.specs.History.Worlds.{entries_in}
use Rattle.tg_law_replies.specs.Replies.Runs.{InEachStep}
use Rattle.tg_law_replies.specs.Replies.Steps.{EachWalk, EachSync, EachOver, EachTrim, EachEnd, EachWalked, EachFeed, EachNewer, EachAwaited, EachHand, EachLatest, EachReply, EachDelivery, EachEvent}
use Rattle.tg_law_headline.proofs.Alike.Since.{SeesFloor}

-- What holds of each client holds where a step's walks end.
module _ (m : Meaning) (objects : List Oid) (es : Entries) (P : Client m → Work m → Type 0) (all : (c : Client m) (w : Work m) → P c w) where
  walks_any : (os : List Oid) (c : Client m) (w : Work m) → EachWalk m objects es P os c w
  walks_any [] c w = all c w
  walks_any (o ∷ os) c w = λ x e. walks_any os (takes_back m c x) (found_by m w o x)

  sync_any : (c : Client m) (w : Work m) (to : Next Sync Confirmed) → EachSync m objects es P c w to
  sync_any c w (Goes s) = tt
  sync_any c w (Learns s) = tt
  sync_any c w (Ends x) = walks_any w.oids _ _

  over_any : (c : Client m) (w : Work m) (os : List Oid) (over : Bool) → EachOver m objects es P c w os over
  over_any c w os true = walks_any w.oids _ _
  over_any c w os false = walks_any os c w

  trim_any : (c : Client m) (w : Work m) (os : List Oid) (old over : Bool) → EachTrim m objects es P c w os old over
  trim_any c w os true over = tt
  trim_any c w os false over = over_any c w os over

  end_any : (c : Client m) (w : Work m) (o : Oid) (os : List Oid) (x : Members) (g : Option ℕ) → EachEnd m objects es P c w o os x g
  end_any c w o os x None = walks_any os c w
  end_any c w o os x (Some b) = trim_any (given_up_if m (gives_up m c w b) c) w os (stale m c w o x b) (gives_up m c w b && not (w.lo == 0))

  walked_any : (c : Client m) (w : Work m) (o : Oid) (os : List Oid) (to : Next Walk Members) → EachWalked m objects es P c w o os to
  walked_any c w o os (Goes x) = tt
  walked_any c w o os (Learns x) = tt
  walked_any c w o os (Ends x) = end_any (takes_back m c x) (found_by m w o x) o os x x.gone

  feed_any : (c : Client m) (w : Work m) (t : Task m) (n rid : ℕ) (x : Reply) → EachFeed m objects es P c w t n rid x
  feed_any c w (Syncing s) n rid x = sync_any (after_turn m c (sync_feed c.stand s s.work n x c.next)) (met m w (sync_feed c.stand s s.work n x c.next)) (sync_feed c.stand s s.work n x c.next).to
  feed_any c w (Walking k os) n rid x = walked_any (after_turn m c (walk_feed c.stand k k.job n x c.next)) (met m w (walk_feed c.stand k k.job n x c.next)) k.oid os (walk_feed c.stand k k.job n x c.next).to
  feed_any c w (Appending a y) n rid x = tt
  feed_any c w (Trimming t) n rid x = tt
  feed_any c w (Copying' y) n rid x = tt
  feed_any c w (Reconfiguring r) n rid x = tt

  newer_any : (c : Client m) (w : Work m) (t : Task m) (q : Layout) → EachNewer m objects es P c w t q
  newer_any c w (Syncing s) q = sync_any (after_turn m (stands m c q) (sync_again s c.next)) (met m (record w { gone_before = w.gone }) (sync_again s c.next)) (sync_again s c.next).to
  newer_any c w (Walking k os) q = walked_any (after_turn m (stands m c q) (walk_again q k c.next)) (met m w (walk_again q k c.next)) k.oid os (walk_again q k c.next).to
  newer_any c w (Appending a y) q = tt
  newer_any c w (Trimming t) q = tt
  newer_any c w (Copying' x) q = tt
  newer_any c w (Reconfiguring r) q = tt

  awaited_any : (b : Bool) (c : Client m) (w : Work m) (t : Task m) (from : NodeId) (rid : ℕ) (x : Reply) → EachAwaited m objects es P b c w t from rid x
  awaited_any true c w t from rid x = feed_any c w t from.num rid x
  awaited_any false c w t from rid x = tt

  hand_any : (c : Client m) (w : Work m) (d : Hand m) (from : NodeId) (rid : ℕ) (x : Reply) → EachHand m objects es P c w d from rid x
  hand_any c w (Doing t) from rid x = awaited_any (awaits (task_awaited m c.stand t) from rid) c w t from rid x
  hand_any c w (Learning waits t) from rid x = tt

  latest_any : (b : Bool) (c : Client m) (w : Work m) (q : Layout) → EachLatest m objects es P b c w q
  latest_any true c w q = newer_any c w (task_in m w.hand) q
  latest_any false c w q = tt

  reply_any : (c : Client m) (w : Work m) (from : NodeId) (rid : ℕ) (x : Reply) → EachReply m objects es P c w from rid x
  reply_any c w from rid (IsLatest q) = latest_any (node_eq from (layout_id from.num) && nat_lt c.stand.epoch q.epoch) c w q
  reply_any c w from rid x = hand_any c w w.hand from rid x

  delivery_any : (c : Client m) (w : Option (Work m)) (from : NodeId) (rid : ℕ) (x : Reply) → EachDelivery m objects es P c w from rid x
  delivery_any c None from rid x = tt
  delivery_any c (Some w) from rid x = reply_any c w from rid x

  event_any : (w : World m) (e : EventOf m) → EachEvent m objects es P w e
  event_any w (Commands k x) = tt
  event_any w (Deliver i) = λ p is c on. delivery_any (client m w p.to.num) (client m w p.to.num).work p.from p.rid (reply p.msg)
  event_any w (Lose i) = tt
  event_any w (Tick n) = tt
  event_any w (Stop n) = tt

-- where no floor is asked for
abbrev pub AnyFloor : ℕ → ℕ → Type 0
AnyFloor tail n = Unit {0}

pub any_floors : (m : Meaning) (h : Header) (ms : Moves m) → InEachStep m h ms (λ before u e. EachEvent m h.objects (entries_in m (after m h ms)) (SeesFloor m AnyFloor) u e)
any_floors m h ms before later e split = event_any m h.objects (entries_in m (after m h ms)) (SeesFloor m AnyFloor) (λ c w t is came. tt) (run m before (start m h)) e
