-- The pages of a client's own records, where they are known, are known at the end of the walks to which a step comes.
use Rattle.std.proofs.Common.{◌≡◌, ℕ, List, [], ◌∷◌, Bool, true, false, refl, subst, Some, None, Option}
use Rattle.std.specs.Prelude.{not, ◌&&◌, ◌==◌, nat_lt, slice_get, if◌then◌else◌}
use Rattle.tg_base.specs.Layouts.{Layout}
use Rattle.tg_base.specs.Orders.{node_eq}
use Rattle.tg_base.specs.declared.cell.Cell.{Cell}
use Rattle.tg_base.specs.declared.ids.NodeId.{NodeId}
use Rattle.tg_base.specs.declared.ids.Oid.{Oid}
use Rattle.tg_base.specs.declared.packet.Packet.{Packet}
use Rattle.tg_kind.specs.Meaning.{Meaning}
use Rattle.tg_model.specs.Kinds.{EventOf}
use Rattle.tg_model.specs.declared.command.Event.TheVariants.{Command as Commands, Deliver, Lose, Tick, Stop}
use Rattle.tg_protocol.specs.Words.{layout_id, client_id, with_cell}
use Rattle.tg_protocol.specs.Requests.{awaits, Next, Goes, Learns, Ends}
use Rattle.tg_protocol.specs.Replies.{Reply, reply, IsLatest}
use Rattle.tg_protocol.specs.Syncing.{Sync, Confirmed, sync_feed}
use Rattle.tg_protocol.specs.Walking.{Walk, Members, walk_feed, walk_again}
use Rattle.tg_protocol.specs.Clients.{Task, Syncing, Walking, Appending, Trimming, Copying', Reconfiguring, Hand, Doing, Learning, Work, Client}
use Rattle.tg_protocol.specs.ClientSteps.{after_turn, met, start_walk, lasts_of, takes_back, found_by, knows, lo_for, stale, gives_up, given_up_if, stands, task_in, task_awaited}
use Rattle.tg_protocol.specs.Walked.{Walked, walks_end, sync_end, trim_end, walked_end, walk_end, task_end, again_end, hand_end, reply_end, work_end, packet_end, walked_in}
use Rattle.tg_protocol.specs.Worlds.{World, client, runs}
use Rattle.tg_law_walks.specs.Walks.Walks.{AreMore}
use Rattle.tg_law_walks.proofs.Walks.Cells.{more_some}
use Rattle.tg_law_headline.proofs.Leaves.Walks.{WalkMore, starts_more, walks_more, feed_more}
use Rattle.tg_law_claims.proofs.Answers.Absent.{Owned}

module _ (m : Meaning) where
  abbrev End : Option (Walked m) → Type 0
  End None = Unit {0}
  End (Some y) = Owned y.client.own y.client.cells

  more : (own : List ℕ) (cells known : List (ℕ × Cell)) → AreMore cells known → Owned own cells → Owned own known
  more own cells known g k = λ p i. g p (k p i)

  next_ends : (os : List Oid) (c : Client m) (w : Work m) (o : Oid) (to : Next Walk Members) → ((x : Members) → to ≡ Ends x → End (walks_end m os (takes_back m c x) (found_by m w o x)))
      → End (elim to as (λ _. Option (Walked m)) [
        | Goes x ↦ None
        | Learns x ↦ None
        | Ends x ↦ walks_end m os (takes_back m c x) (found_by m w o x)
      ])
  next_ends os c w o (Goes x) f = tt
  next_ends os c w o (Learns x) f = tt
  next_ends os c w o (Ends x) f = f x refl

  walks_ends : (os : List Oid) (c : Client m) (w : Work m) → Owned c.own c.cells → End (walks_end m os c w)
  unfolding walks_end
  walks_ends [] c w k = k
  walks_ends (o ∷ os) c w k = next_ends os c w o (start_walk m c w o).to
      (λ x is. walks_ends os (takes_back m c x) (found_by m w o x) (more c.own c.cells x.cells (subst (WalkMore c.cells) is (starts_more c.stand o (lasts_of m w o) w.lo c.cells c.next)) k))

  sync_ends : (c : Client m) (w : Work m) (to : Next Sync Confirmed) → Owned c.own c.cells → End (sync_end m c w to)
  sync_ends c w (Goes s) k = tt
  sync_ends c w (Learns s) k = tt
  sync_ends c w (Ends x) k = by x.settled
    where
      by : (s : Option (ℕ × Cell)) → End (walks_end m w.oids (knows m c s) (record w { tail = x.tail; lasts = x.lasts; lo = lo_for m c w.command }))
      by None = walks_ends w.oids c (record w { tail = x.tail; lasts = x.lasts; lo = lo_for m c w.command }) k
      by (Some s) = walks_ends w.oids (knows m c (Some s)) (record w { tail = x.tail; lasts = x.lasts; lo = lo_for m c w.command }) (more c.own c.cells (with_cell c.cells s.0 s.1) (more_some c.cells s.0 s.1) k)

  trim_ends : (c : Client m) (w : Work m) (os : List Oid) (s over : Bool) → Owned c.own c.cells → End (trim_end m c w os s over)
  trim_ends c w os true over k = tt
  trim_ends c w os false true k = walks_ends w.oids c (record w { lo = 0; found = []; trims = [] }) k
  trim_ends c w os false false k = walks_ends os c w k

  ended_ends : (c : Client m) (w : Work m) (o : Oid) (os : List Oid) (x : Members) (g : Option ℕ) → Owned c.own c.cells → End (walked_end m c w o os x g)
  ended_ends c w o os x None k = walks_ends os c w k
  ended_ends c w o os x (Some b) k = by (gives_up m c w b)
    where
      by : (z : Bool) → End (trim_end m (given_up_if m z c) w os (stale m c w o x b) (z && not (w.lo == 0)))
      by true = trim_ends (record c { view = None }) w os (stale m c w o x b) (true && not (w.lo == 0)) k
      by false = trim_ends c w os (stale m c w o x b) (false && not (w.lo == 0)) k

  walk_ends : (c : Client m) (w : Work m) (o : Oid) (os : List Oid) (cells : List (ℕ × Cell)) (to : Next Walk Members) → WalkMore cells to → Owned c.own cells → End (walk_end m c w o os to)
  walk_ends c w o os cells (Goes x) f k = tt
  walk_ends c w o os cells (Learns x) f k = tt
  walk_ends c w o os cells (Ends x) f k = ended_ends (takes_back m c x) (found_by m w o x) o os x x.gone (more c.own cells x.cells f k)

  -- the cells are its walk's, while it walks
  abbrev pub TaskOwned : Client m → Task m → Type 0
  TaskOwned c (Syncing s) = Owned c.own c.cells
  TaskOwned c (Walking k os) = Owned c.own k.cells
  TaskOwned c t = Unit {0}

  task_ends : (c : Client m) (w : Work m) (t : Task m) (n : ℕ) (x : Reply) → TaskOwned c t → End (task_end m c w t n x)
  task_ends c w (Syncing s) n x k = let t = sync_feed c.stand s s.work n x c.next in sync_ends (after_turn m c t) (met m w t) t.to k
  task_ends c w (Walking v os) n x k = let t = walk_feed c.stand v v.job n x c.next in walk_ends (after_turn m c t) (met m w t) v.oid os v.cells t.to (feed_more c.stand v n x c.next) k
  task_ends c w (Appending a y) n x k = tt
  task_ends c w (Trimming t) n x k = tt
  task_ends c w (Copying' y) n x k = tt
  task_ends c w (Reconfiguring r) n x k = tt

  again_ends : (c : Client m) (w : Work m) (t : Task m) (q : Layout) → TaskOwned c t → End (again_end m (stands m c q) w t)
  again_ends c w (Walking v os) q k = let t = walk_again q v c.next in walk_ends (after_turn m (stands m c q) t) (met m w t) v.oid os v.cells t.to (walks_more q c.next v) k
  again_ends c w (Syncing s) q k = tt
  again_ends c w (Appending a y) q k = tt
  again_ends c w (Trimming t) q k = tt
  again_ends c w (Copying' y) q k = tt
  again_ends c w (Reconfiguring r) q k = tt

  module _ (c : Client m) (from : NodeId) (rid : ℕ) where
    fed_ends : (b : Bool) (w : Work m) (t : Task m) (x : Reply) → TaskOwned c t → End (if b then task_end m c w t from.num x else None)
    fed_ends true w t x k = task_ends c w t from.num x k
    fed_ends false w t x k = tt

    hand_ends : (w : Work m) (d : Hand m) (x : Reply) → TaskOwned c (task_in m d) → End (hand_end m c w d from rid x)
    hand_ends w (Doing t) x k = fed_ends (awaits (task_awaited m c.stand t) from rid) w t x k
    hand_ends w (Learning ws t) x k = tt

    latest_ends : (b : Bool) (w : Work m) (q : Layout) → TaskOwned c (task_in m w.hand) → End (if b then again_end m (stands m c q) w (task_in m w.hand) else None)
    latest_ends true w q k = again_ends c w (task_in m w.hand) q k
    latest_ends false w q k = tt

    reply_ends : (w : Work m) (x : Reply) → TaskOwned c (task_in m w.hand) → End (reply_end m c w from rid x)
    reply_ends w (IsLatest q) k = latest_ends (node_eq from (layout_id from.num) && nat_lt c.stand.epoch q.epoch) w q k
    reply_ends w x k = hand_ends w w.hand x k

    work_ends : (o : Option (Work m)) (x : Reply) → c.work ≡ o → ((w : Work m) → c.work ≡ Some w → TaskOwned c (task_in m w.hand)) → End (work_end m c o from rid x)
    work_ends None x e k = tt
    work_ends (Some w) x e k = reply_ends w x (k w e)

  -- In a step of a world.

  module _ (w : World m) (k : ℕ) (works : (v : Work m) → (client m w k).work ≡ Some v → TaskOwned (client m w k) (task_in m v.hand)) where
    handed : (o : Option Packet) → End (packet_end m w k o)
    handed None = tt
    handed (Some p) = by (node_eq p.to (client_id k) && runs m w p.to)
      where
        by : (b : Bool) → End (if b then work_end m (client m w k) (client m w k).work p.from p.rid (reply p.msg) else None)
        by false = tt
        by true = work_ends (client m w k) p.from p.rid (client m w k).work (reply p.msg) refl works

    ends : (e : EventOf m) → End (walked_in m w e k)
    ends (Deliver i) = handed (slice_get w.packets i)
    ends (Commands n x) = tt
    ends (Lose i) = tt
    ends (Tick n) = tt
    ends (Stop n) = tt

    pub owned_there : (e : EventOf m) (y : Walked m) → walked_in m w e k ≡ Some y → Owned y.client.own y.client.cells
    owned_there e y is = subst End is (ends e)
