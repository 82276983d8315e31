-- A step of a run, wherever it comes to the end of a command's walks.
use Rattle.std.specs.Prelude.{not, ◌≡◌, ℕ, Bool, true, false, ◌&&◌, ◌==◌, nat_lt, List, [], ◌∷◌, Option, Some, None, slice_get}
use Rattle.tg_base.specs.Layouts.{Layout}
use Rattle.tg_base.specs.declared.ids.NodeId.{NodeId}
use Rattle.tg_base.specs.declared.ids.Oid.{Oid}
use Rattle.tg_base.specs.declared.ids.Role.TheVariants as role
use Rattle.tg_base.specs.declared.packet.Packet.{Packet}
use Rattle.tg_kind.specs.Meaning.{Meaning}
use Rattle.tg_model.specs.Kinds.{EventOf}
use Rattle.tg_model.specs.declared.command.Event.TheVariants.{Deliver}
use Rattle.tg_base.specs.Orders.{node_eq}
use Rattle.tg_protocol.specs.Words.{layout_id}
use Rattle.tg_protocol.specs.Requests.{awaits, Next, Ends}
use Rattle.tg_protocol.specs.Replies.{Reply, IsLatest, reply}
use Rattle.tg_protocol.specs.Syncing.{Sync, Confirmed, sync_feed, sync_again}
use Rattle.tg_protocol.specs.Walking.{Walk, Members, walk_feed, walk_again}
use Rattle.tg_protocol.specs.Views.{Entries}
use Rattle.tg_protocol.specs.Clients.{Task, Syncing, Walking, Reconfiguring, Hand, Doing, Learning, Work, Client}
use Rattle.tg_protocol.specs.ClientSteps.{task_awaited, task_in, after_turn, met, takes_back, given_up_if, found_by, start_walk, knows, lo_for, stale, gives_up, stands}
use Rattle.tg_protocol.specs.Worlds.{World, client, runs}

-- A step, where the end of each of its walks has P.
module _ (m : Meaning) (objects : List Oid) (es : Entries) (P : Client m → Work m → Type 0) where
  abbrev pub EachWalk : List Oid → Client m → Work m → Type 0
  EachWalk [] c w = P c w
  EachWalk (o ∷ os) c w = (x : Members) → (start_walk m c w o).to ≡ Ends x → EachWalk os (takes_back m c x) (found_by m w o x)

  abbrev pub EachSync : Client m → Work m → Next Sync Confirmed → Type 0
  EachSync c w (Ends x) = EachWalk w.oids (knows m c x.settled) (record w { tail = x.tail; lasts = x.lasts; lo = lo_for m c w.command })
  EachSync c w x = Unit {0}

  abbrev pub EachOver : Client m → Work m → List Oid → Bool → Type 0
  EachOver c w os true = EachWalk w.oids c (record w { lo = 0; found = []; trims = [] })
  EachOver c w os false = EachWalk os c w

  abbrev pub EachTrim : Client m → Work m → List Oid → Bool → Bool → Type 0
  EachTrim c w os true over = Unit {0}
  EachTrim c w os false over = EachOver c w os over

  abbrev pub EachEnd : Client m → Work m → Oid → List Oid → Members → Option ℕ → Type 0
  EachEnd c w o os x None = EachWalk os c w
  EachEnd c w o os x (Some b) = EachTrim (given_up_if m (gives_up m c w b) c) w os (stale m c w o x b) (gives_up m c w b && not (w.lo == 0))

  abbrev pub EachWalked : Client m → Work m → Oid → List Oid → Next Walk Members → Type 0
  EachWalked c w o os (Ends x) = EachEnd (takes_back m c x) (found_by m w o x) o os x x.gone
  EachWalked c w o os x = Unit {0}

  abbrev pub EachFeed : Client m → Work m → Task m → ℕ → ℕ → Reply → Type 0
  EachFeed c w (Syncing s) n rid x = EachSync (after_turn m c (sync_feed c.stand s s.work n x c.next)) (met m w (sync_feed c.stand s s.work n x c.next)) (sync_feed c.stand s s.work n x c.next).to
  EachFeed c w (Walking k os) n rid x =
      EachWalked (after_turn m c (walk_feed c.stand k k.job n x c.next)) (met m w (walk_feed c.stand k k.job n x c.next)) k.oid os (walk_feed c.stand k k.job n x c.next).to
  EachFeed c w t n rid x = Unit {0}

  abbrev pub EachAgain : Client m → Work m → Task m → Type 0
  EachAgain c w (Syncing s) = EachSync (after_turn m c (sync_again s c.next)) (met m (record w { gone_before = w.gone }) (sync_again s c.next)) (sync_again s c.next).to
  EachAgain c w (Walking k os) = EachWalked (after_turn m c (walk_again c.stand k c.next)) (met m w (walk_again c.stand k c.next)) k.oid os (walk_again c.stand k c.next).to
  EachAgain c w t = Unit {0}

  abbrev pub EachNewer : Client m → Work m → Task m → Layout → Type 0
  EachNewer c w (Reconfiguring r) q = Unit {0}
  EachNewer c w t q = EachAgain (stands m c q) w t

  -- an awaited answer
  abbrev pub EachAwaited : Bool → Client m → Work m → Task m → NodeId → ℕ → Reply → Type 0
  EachAwaited true c w t from rid x = EachFeed c w t from.num rid x
  EachAwaited false c w t from rid x = Unit {0}

  abbrev pub EachHand : Client m → Work m → Hand m → NodeId → ℕ → Reply → Type 0
  EachHand c w (Doing t) from rid x = EachAwaited (awaits (task_awaited m c.stand t) from rid) c w t from rid x
  EachHand c w (Learning waits t) from rid x = Unit {0}

  -- a newer layout
  abbrev pub EachLatest : Bool → Client m → Work m → Layout → Type 0
  EachLatest true c w q = EachNewer c w (task_in m w.hand) q
  EachLatest false c w q = Unit {0}

  abbrev pub EachReply : Client m → Work m → NodeId → ℕ → Reply → Type 0
  EachReply c w from rid (IsLatest q) = EachLatest (node_eq from (layout_id from.num) && nat_lt c.stand.epoch q.epoch) c w q
  EachReply c w from rid x = EachHand c w w.hand from rid x

  abbrev pub EachDelivery : Client m → Option (Work m) → NodeId → ℕ → Reply → Type 0
  EachDelivery c None from rid x = Unit {0}
  EachDelivery c (Some w) from rid x = EachReply c w from rid x

  -- A step of a world.

  abbrev pub EachEvent : World m → EventOf m → Type 0
  EachEvent w (Deliver i) = (p : Packet) → slice_get w.packets i ≡ Some p → p.to.role ≡ role.Client → runs m w p.to ≡ true → EachDelivery (client m w p.to.num) (client m w p.to.num).work p.from p.rid (reply p.msg)
  EachEvent w e = Unit {0}
